-- a program with words of w bits and of v: their runs are each other's, but for the digits above the w lowest
use Rattle.std.proofs.Common.{◌≡◌, ℕ, zero, suc, ◌+◌, ◌-◌, ◌*◌, ◌/◌, ◌%◌, ◌^◌, ◌<◌, ◌≤◌, T, ◌↔◌, List, [], ◌∷◌, length, sym, refl, ap, ◌∙◌, subst, ap₂, lt_of_lt_of_le, mod-eq_of_lt, mul_assoc, mul_comm, arith, pow_mono, pow-add}
use native.Mathlib.Nat.{mod-mod_of_dvd, dvd-mul_left, zero-mod, div-add-mod, mul-mod_left, mul-mod_right}
use Rattle.algebra.proofs.Modular.{push, pull, red}
use Rattle.algebra.proofs.Vec.{cons_≡, below_head, below_tail, below_cons, mod_small, length_times, below_times}
use Rattle.algebra.proofs.Sums.{times_dot}
use Rattle.algebra.proofs.FormSpans.{cancel}
use Rattle.algebra.specs.Vec.{below, times, dot}
use Rattle.algebra.specs.Span.{Fit}
use Rattle.programs.specs.Programs.{Action, set, any, Step, Program}
use Rattle.programs.specs.Runs.{put, State, Makes, makes_set, makes_any, makes_skip, At, Move, Run, begins, goes, Comes, Law}
use Rattle.programs.specs.Theorems.{cut}
use Rattle.programs.proofs.States.{one_small, comes_first, comes_next}

length_cut : (w : ℕ) (xs : List ℕ) → length (cut w xs) ≡ length xs
length_cut w [] = refl
length_cut w (x ∷ xs) = ap suc (length_cut w xs)

below_cut : (w : ℕ) (xs : List ℕ) → T (below (2 ^ w) (cut w xs))
below_cut w [] = tt
below_cut w (x ∷ xs) = below_cons (2 ^ w) (x % 2 ^ w) (cut w xs) (mod_small w x) (below_cut w xs)

cut_small : (w : ℕ) (xs : List ℕ) → T (below (2 ^ w) xs) → cut w xs ≡ xs
cut_small w [] b = refl
cut_small w (x ∷ xs) b = cons_≡ (mod-eq_of_lt (below_head (2 ^ w) x xs b)) (cut_small w xs (below_tail (2 ^ w) x xs b))

put_cut : (w x y : ℕ) (s : List ℕ) → cut w (put s x y) ≡ put (cut w s) x (y % 2 ^ w)
put_cut w x y [] = refl
put_cut w zero y (a ∷ s) = refl
put_cut w (suc x) y (a ∷ s) = cons_≡ refl (put_cut w x y s)

-- remainders in a dot
ring : (w c x d : ℕ) → (c % 2 ^ w * x + d) % 2 ^ w ≡ (c * x + d) % 2 ^ w
ring w c x d = simp push (simp pull (ap (red (2 ^ w)) (omega arith)))

ring' : (w c x d : ℕ) → (c * (x % 2 ^ w) + d % 2 ^ w) % 2 ^ w ≡ (c * x + d) % 2 ^ w
ring' w c x d = simp push (simp pull (ap (red (2 ^ w)) (omega arith)))

cut_dot : (w : ℕ) (cs xs : List ℕ) → dot w (cut w cs) xs ≡ dot w cs xs
cut_dot w [] xs = refl
cut_dot w (c ∷ cs) [] = refl
cut_dot w (c ∷ cs) (x ∷ xs) = ap (λ (z : ℕ). (c % 2 ^ w * x + z) % 2 ^ w) (cut_dot w cs xs) ∙ ring w c x (dot w cs xs)

below_more : (w v : ℕ) → w ≤ v → (xs : List ℕ) → T (below (2 ^ w) xs) → T (below (2 ^ v) xs)
below_more w v h [] b = tt
below_more w v h (x ∷ xs) b = below_cons (2 ^ v) x xs (lt_of_lt_of_le (below_head (2 ^ w) x xs b) (pow_mono {i = w} {j = v} h)) (below_more w v h xs (below_tail (2 ^ w) x xs b))

module _ (w v : ℕ) (le : w ≤ v) (pos : 0 < w) where
  split : 2 ^ (v - w) * 2 ^ w ≡ 2 ^ v
  split = sym (pow-add 2 (v - w) w) ∙ ap (λ (z : ℕ). 2 ^ z) whole
    where
      whole : (v - w) + w ≡ v
      whole = omega arith

  lower : (x : ℕ) → x % 2 ^ v % 2 ^ w ≡ x % 2 ^ w
  lower x = rw (← split) (mod-mod_of_dvd (2 ^ w) x (dvd-mul_left (2 ^ w) (2 ^ (v - w))))

  dot_cut : (cs xs : List ℕ) → dot w cs (cut w xs) ≡ dot v cs xs % 2 ^ w
  dot_cut [] xs = sym (zero-mod (2 ^ w))
  dot_cut (c ∷ cs) [] = sym (zero-mod (2 ^ w))
  dot_cut (c ∷ cs) (x ∷ xs) = ap (λ (z : ℕ). (c * (x % 2 ^ w) + z) % 2 ^ w) (dot_cut cs xs) ∙ ring' w c x (dot v cs xs) ∙ sym (lower (c * x + dot v cs xs))

  -- with 1 before the words
  dot_one : (cs s : List ℕ) → dot w cs (1 ∷ cut w s) ≡ dot v cs (1 ∷ s) % 2 ^ w
  dot_one cs s = ap (λ (z : ℕ). dot w cs (z ∷ cut w s)) (sym (mod-eq_of_lt (one_small w pos))) ∙ dot_cut cs (1 ∷ s)

  makes_down : {d : Action} {s u : State} → Makes v d s u → Makes w d (cut w s) (cut w u)
  makes_down (makes_set {x} {cs} {s}) = subst (Makes w (set x cs) (cut w s)) (ap (put (cut w s) x) (dot_one cs s) ∙ sym (put_cut w x (dot v cs (1 ∷ s)) s)) makes_set
  makes_down (makes_any {x} {v = y} {s} h) = subst (Makes w (any x) (cut w s)) (sym (put_cut w x y s)) (makes_any (mod_small w y))
  makes_down makes_skip = makes_skip

  fit_cut : {k : ℕ} {s : State} → Fit v k s → Fit w k (cut w s)
  fit_cut {s} h = record { sized = length_cut w s ∙ h.sized; small = below_cut w s }

  run_down : {p : Program} {ms : List Move} {n : ℕ} {s : State} → Run v [] p ms n s → Comes w [] p n (cut w s)
  run_down (begins h g) = comes_first w (fit_cut h) tt
  run_down (goes {t} {i} r a b) = comes_next w t i (run_down r) a (makes_down b)

  -- each run of w bits is one of v bits, cut
  record Lifted (p : Program) (n : ℕ) (s : State) : Type 0 where
    state : State
    comes : Comes v [] p n state
    cuts : cut w state ≡ s

  makes_up : {d : Action} {s u : State} (t : State) → cut w t ≡ s → Makes w d s u → (r : State) × Makes v d t r × (cut w r ≡ u)
  makes_up t e (makes_set {x} {cs} {s}) = (put t x (dot v cs (1 ∷ t)), makes_set, put_cut w x (dot v cs (1 ∷ t)) t ∙ ap₂ (λ (a : List ℕ) (b : ℕ). put a x b) e (sym (dot_one cs t) ∙ ap (λ (z : List ℕ). dot w cs (1 ∷ z)) e))
  makes_up t e (makes_any {x} {v = y} {s} h) = (put t x y, makes_any (lt_of_lt_of_le h (pow_mono {i = w} {j = v} le)), put_cut w x y t ∙ ap₂ (λ (a : List ℕ) (b : ℕ). put a x b) e (mod-eq_of_lt h))
  makes_up t e makes_skip = (t, makes_skip, e)

  lift : {p : Program} {ms : List Move} {n : ℕ} {s : State} → Run w [] p ms n s → Lifted p n s
  lift (begins {s} h g) = record { state = s; comes = comes_first v (record { sized = h.sized; small = below_more w v le s h.small }) tt; cuts = cut_small w s h.small }
  lift {p} (goes {t} {i} r a b) = next (lift r) a b
    where
      next : {s₁ u₁ : State} {t₁ : Step} {i₁ : ℕ} → Lifted p t₁.from s₁ → At t₁ i₁ p.steps → Makes w t₁.action s₁ u₁ → Lifted p t₁.to u₁
      next {t₁} {i₁} l a₁ b₁ = let f = makes_up l.state l.cuts b₁ in record { state = f.0; comes = comes_next v t₁ i₁ l.comes a₁ f.1; cuts = f.2 }

  -- a law of v bits, cut, is one of w bits
  pub narrower : (p : Program) (n : ℕ) (c : List ℕ) → Law v [] p n c → Law w [] p n (cut w c)
  narrower p n c l = record {
    fits = fit_cut l.fits;
    holds = λ s h. (let f = lift h.run in cut_dot w c (1 ∷ s) ∙ ap (λ (z : List ℕ). dot w c (1 ∷ z)) (sym f.cuts) ∙ dot_one c f.state ∙ ap (λ (z : ℕ). z % 2 ^ w) (l.holds f.state f.comes) ∙ zero-mod (2 ^ w));
  }

  -- a law of w bits, so many times, is one of v bits, and just then
  raise : (d : ℕ) → d % 2 ^ w ≡ 0 → (2 ^ (v - w) * d) % 2 ^ v ≡ 0
  raise d h = ap (λ (z : ℕ). (2 ^ (v - w) * z) % 2 ^ v) is ∙ ap (λ (z : ℕ). z % 2 ^ v) (sym (mul_assoc (2 ^ (v - w)) (2 ^ w) q) ∙ ap (λ (z : ℕ). z * q) split) ∙ mul-mod_right (2 ^ v) q
    where
      q : ℕ
      q = d / 2 ^ w

      is : d ≡ 2 ^ w * q
      is = omega (arith, div-add-mod d (2 ^ w), h)

  fall : (d : ℕ) → (2 ^ (v - w) * d) % 2 ^ v ≡ 0 → d % 2 ^ w ≡ 0
  fall d h = let k = cancel v d w (v - w) (omega arith) (ap (λ (z : ℕ). z % 2 ^ v) (mul_comm d (2 ^ (v - w))) ∙ h) in ap (λ (z : ℕ). z % 2 ^ w) k.1 ∙ mul-mod_left k.0 (2 ^ w)

  pub same_law : (p : Program) (n : ℕ) (c : List ℕ) → T (below (2 ^ w) c) → Law w [] p n c ↔ Law v [] p n (times v (2 ^ (v - w)) c)
  same_law p n c b = (up, down)
    where
      up : Law w [] p n c → Law v [] p n (times v (2 ^ (v - w)) c)
      up l = record {
        fits = record { sized = length_times v (2 ^ (v - w)) c ∙ l.fits.sized; small = below_times v (2 ^ (v - w)) c };
        holds = λ s h. times_dot v (2 ^ (v - w)) c (1 ∷ s) ∙ raise (dot v c (1 ∷ s)) (sym (dot_one c s) ∙ l.holds (cut w s) (run_down h.run));
      }

      down : Law v [] p n (times v (2 ^ (v - w)) c) → Law w [] p n c
      down l = record {
        fits = record { sized = sym (length_times v (2 ^ (v - w)) c) ∙ l.fits.sized; small = b };
        holds = λ s h. (let f = lift h.run in ap (λ (z : List ℕ). dot w c (1 ∷ z)) (sym f.cuts) ∙ dot_one c f.state ∙ fall (dot v c (1 ∷ f.state)) (sym (times_dot v (2 ^ (v - w)) c (1 ∷ f.state)) ∙ l.holds f.state f.comes));
      }
