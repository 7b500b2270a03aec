-- the rows told of a Howell form are the best rows of its annihilator
use mathlib.Core.Path.{◌≡◌, refl, sym, ap, ap₂, ◌∙◌, subst}
use mathlib.Core.List.{List, [], ◌∷◌, ◌++◌}
use Prim.Native.Nat.{ℕ, zero, suc, ◌+◌, ◌*◌, ◌%◌, ◌/◌, ◌-◌, ◌^◌, ◌<◌, ◌≤◌}
use native.Mathlib.Omega.{arith}
use native.Mathlib.Nat.{mod-lt, mul_comm, add-zero, zero-add, mul-div_cancel, mul-mod_left, lt_of_lt_of_le}
use lib.ListN.{length, replicate}
use lib.Pow.{pow-add, pow_mono, pow_pos, pow-lt}
use lib.Arith.{mod-mul}
use Rattle.algebra.proofs.Modular.{mods, push, pull, red, out, by_zero, neg_suc}
use Rattle.algebra.proofs.Vec.{dot_mod, dot_comm, dot_times, mod_small}
use Rattle.algebra.proofs.Sums.{dot_zero}
use Rattle.algebra.proofs.Fit.{fit_times, fit_zero, fit_cons, fit_nought, Submodule, Tail}
use Rattle.algebra.proofs.FormSpans.{in_least, in_later, in_first, inside_mono, inside_self, cancel}
use Rattle.algebra.proofs.Insertions.{dot_less}
use Rattle.algebra.proofs.LastPlace.{fit_snoc, fit_unsnoc, fit_flip, unsnoc, dot_snoc, flip_times, flip_sums, flip_zero}
use Rattle.algebra.proofs.Best.{best_none, best_extend, best_append}
use Rattle.algebra.specs.Vec.{neg, times, dot, snoc, flip}
use Rattle.algebra.specs.Rows.{Best}
use Rattle.algebra.specs.Span.{Fit}
use Rattle.algebra.specs.Form.{Slot, slot, Form, WellFormed, no_slots, slot_on, In, Howell}
use Rattle.algebra.specs.Tell.{extra, extend, final, tell, Annihilates}

pub zero_dot : (w n : ℕ) (v : List ℕ) → dot w (replicate n 0) v ≡ 0
zero_dot w n v = dot_comm w (replicate n 0) v ∙ dot_zero w n v

-- the vectors that come to 0 with c are a submodule
abbrev pub Killed : ℕ → List ℕ → List ℕ → Type 0
Killed w c v = dot w c (flip v) ≡ 0

pub killed_sub : (w n : ℕ) (c : List ℕ) → Submodule w n (Killed w c)
killed_sub w n c = record {
  zeros = ap (dot w c) (flip_zero n) ∙ dot_zero w n c;
  add = λ k u v p q x y. ap (dot w c) (flip_sums w k u v p q) ∙ dot_less w c k (flip u) (flip v) (fit_flip w p) (fit_flip w q) ∙ rw (x, y) (simp mods (by_zero w _ 0 (omega arith)));
}

-- a remainder taken so many times
pub scale : (d e x : ℕ) → x % 2 ^ d * 2 ^ e ≡ (x * 2 ^ e) % 2 ^ (d + e)
scale d e x = sym (ap (λ (z : ℕ). (x * 2 ^ e) % z) (pow-add 2 d e) ∙ mod-mul (x * 2 ^ e) (pow_pos d) (pow_pos e) ∙ ap₂ (λ (a b : ℕ). a % 2 ^ d * 2 ^ e + b) (mul-div_cancel x (pow_pos e)) (mul-mod_left x (2 ^ e)) ∙ add-zero (x % 2 ^ d * 2 ^ e))

-- one slot more
module _ (w : ℕ) {n e : ℕ} {t : List ℕ} {f : Form} (le : e ≤ w) (ft : Fit w n t) (fine : WellFormed w n f) where
  whole : e + (w - e) ≡ w
  whole = omega arith

  whole' : (w - e) + e ≡ w
  whole' = omega arith

  -- what c with y at its end makes of the slot's row, and of a later one
  first_dot : (c : List ℕ) (y : ℕ) → Fit w n c → dot w (snoc c y) (flip ((2 ^ e % 2 ^ w) ∷ t)) ≡ (dot w c (flip t) + y * 2 ^ e) % 2 ^ w
  first_dot c y fc = dot_snoc w y (2 ^ e % 2 ^ w) c (flip t) (fc.sized ∙ sym (fit_flip w ft).sized) ∙ simp push (simp pull (ap (red (2 ^ w)) (omega arith)))

  later_dot : (c : List ℕ) (y : ℕ) (v : List ℕ) → Fit w n c → Fit w n v → dot w (snoc c y) (flip (0 ∷ v)) ≡ dot w c (flip v)
  later_dot c y v fc fv = dot_snoc w y 0 c (flip v) (fc.sized ∙ sym (fit_flip w fv).sized) ∙ ap (λ (z : ℕ). z % 2 ^ w) (omega arith) ∙ dot_mod w c (flip v)

  -- so a longer row annihilates the longer form exactly if the shorter does the shorter, and the new row comes to 0
  pub ann_up : (c : List ℕ) (y : ℕ) → y < 2 ^ w → Annihilates w n f c → (dot w c (flip t) + y * 2 ^ e) % 2 ^ w ≡ 0 → Annihilates w (suc n) (slot e t ∷ f) (snoc c y)
  ann_up c y h a g = record {
    fits = fit_snoc w h a.fits;
    kills = in_least w (slot_on le ft fine) (Killed w (snoc c y)) (killed_sub w (suc n) (snoc c y)) (first_dot c y a.fits ∙ g, inside_mono w fine (In w f) (Tail (Killed w (snoc c y))) (λ v fv i. later_dot c y v a.fits fv ∙ a.kills v fv i) (inside_self w fine));
  }

  pub ann_down : (c : List ℕ) (y : ℕ) → Annihilates w (suc n) (slot e t ∷ f) (snoc c y) → Annihilates w n f c
  ann_down c y a = let fc = (fit_unsnoc w a.fits).0 in record { fits = fc; kills = λ v fv i. (sym (later_dot c y v fc fv) ∙ a.kills (0 ∷ v) (fit_nought w fv) (in_later w e fine ft v fv i)) }

  pub ann_row : (c : List ℕ) (y : ℕ) → Annihilates w (suc n) (slot e t ∷ f) (snoc c y) → (dot w c (flip t) + y * 2 ^ e) % 2 ^ w ≡ 0
  ann_row c y a = sym (first_dot c y (fit_unsnoc w a.fits).0) ∙ a.kills ((2 ^ e % 2 ^ w) ∷ t) (fit_cons w (mod_small w (2 ^ e)) ft) (in_first w e fine ft)

  -- at the end behind zeros stand multiples of 2 ^ (w - e), and that itself if it is below 2 ^ w
  pub end_multiple : (y : ℕ) → Annihilates w (suc n) (slot e t ∷ f) (snoc (replicate n 0) y) → (k : ℕ) × (y ≡ k * 2 ^ (w - e))
  end_multiple y a = cancel w y (w - e) e whole' (ap (λ (z : ℕ). z % 2 ^ w) (sym (zero-add (y * 2 ^ e))) ∙ ap (λ (z : ℕ). (z + y * 2 ^ e) % 2 ^ w) (sym (zero_dot w n (flip t))) ∙ ann_row (replicate n 0) y a)

  pub ann_end : 0 < e → Annihilates w (suc n) (slot e t ∷ f) (snoc (replicate n 0) (2 ^ (w - e)))
  ann_end h = ann_up (replicate n 0) (2 ^ (w - e)) (pow-lt {i = w - e} {j = w} (omega arith)) (record { fits = fit_zero w n; kills = λ v fv i. zero_dot w n (flip v) }) (ap (λ (z : ℕ). (z + 2 ^ (w - e) * 2 ^ e) % 2 ^ w) (zero_dot w n (flip t)) ∙ ap (λ (z : ℕ). z % 2 ^ w) (omega (arith, pow-add 2 (w - e) e, ap (λ (z : ℕ). 2 ^ z) whole')) ∙ by_zero w (2 ^ w) 1 (omega (arith, neg_suc w)))

  module _ (h : In w f (times w (2 ^ (w - e)) t)) where
    -- by Howell's property the dot with the slot's rest is a multiple of the pivot
    divisible : (c : List ℕ) → Annihilates w n f c → (l : ℕ) × (dot w c (flip t) ≡ l * 2 ^ e)
    divisible c a = cancel w (dot w c (flip t)) e (w - e) whole (ap (λ (z : ℕ). z % 2 ^ w) (mul_comm (dot w c (flip t)) (2 ^ (w - e))) ∙ sym (dot_times w (2 ^ (w - e)) c (flip t)) ∙ ap (dot w c) (sym (flip_times w (2 ^ (w - e)) t)) ∙ a.kills (times w (2 ^ (w - e)) t) (fit_times w (2 ^ (w - e)) ft) h)

    pub extra_low : (c : List ℕ) → extra w (slot e t) c < 2 ^ (w - e)
    unfolding extra
    extra_low c = mod-lt (neg w * (dot w c (flip t) / 2 ^ e)) (pow_pos (w - e))

    pub extra_is : (c : List ℕ) → Annihilates w n f c → (dot w c (flip t) + extra w (slot e t) c * 2 ^ e) % 2 ^ w ≡ 0
    unfolding extra
    extra_is c a =
        ap (λ (z : ℕ). (dot w c (flip t) + z) % 2 ^ w) scaled
        ∙ ap (λ (z : ℕ). (z + (neg w * l * 2 ^ e) % 2 ^ w) % 2 ^ w) d.1
        ∙ simp push (simp pull (simp out (by_zero w _ (l * 2 ^ e) (omega arith))))
      where
        d : (l : ℕ) × (dot w c (flip t) ≡ l * 2 ^ e)
        d = divisible c a

        l : ℕ
        l = d.0

        quotient : dot w c (flip t) / 2 ^ e ≡ l
        quotient = ap (λ (z : ℕ). z / 2 ^ e) d.1 ∙ mul-div_cancel l (pow_pos e)

        scaled : (neg w * (dot w c (flip t) / 2 ^ e)) % 2 ^ (w - e) * 2 ^ e ≡ (neg w * l * 2 ^ e) % 2 ^ w
        scaled = ap (λ (z : ℕ). (neg w * z) % 2 ^ (w - e) * 2 ^ e) quotient ∙ scale (w - e) e (neg w * l) ∙ ap (λ (z : ℕ). (neg w * l * 2 ^ e) % 2 ^ z) whole'

    pub ann_extra : (c : List ℕ) → Annihilates w n f c → Annihilates w (suc n) (slot e t ∷ f) (snoc c (extra w (slot e t) c))
    ann_extra c a = ann_up c (extra w (slot e t) c) (lt_of_lt_of_le (extra_low c) (pow_mono {i = w - e} {j = w} (omega arith))) a (extra_is c a)

-- a longer row is a shorter one with a place
pub down : (w : ℕ) {n e : ℕ} {t : List ℕ} {f : Form} → e ≤ w → Fit w n t → WellFormed w n f → (c : List ℕ) → Annihilates w (suc n) (slot e t ∷ f) c
    → (d : List ℕ) × (y : ℕ) × (c ≡ snoc d y) × Annihilates w n f d
down w {n} {e} {t} {f} le ft fine c a = let o = unsnoc n c a.fits.sized in (o.0, o.1, o.2, ann_down w le ft fine o.0 o.1 (subst (Annihilates w (suc n) (slot e t ∷ f)) o.2 a))

pub length_fine : (w : ℕ) {n : ℕ} {f : Form} → WellFormed w n f → length f ≡ n
length_fine w no_slots = refl
length_fine w (slot_on le ft fine) = ap suc (length_fine w fine)

append_nil : (rs : List (List ℕ)) → rs ++ [] ≡ rs
append_nil [] = refl
append_nil (r ∷ rs) = ap (λ (z : List (List ℕ)). r ∷ z) (append_nil rs)

less_none : (w : ℕ) → w - 0 ≡ w
less_none w = omega arith

none_below : (m k y : ℕ) → y ≡ k * m → y < m → y ≡ 0
none_below m zero y e h = omega arith
none_below m (suc k) y e h = absurd (omega arith)

best_slot : (w : ℕ) {n : ℕ} (e : ℕ) {t : List ℕ} {f : Form} → e ≤ w → Fit w n t → WellFormed w n f → In w f (times w (2 ^ (w - e)) t)
    → Best (Annihilates w n f) (tell w f) → Best (Annihilates w (suc n) (slot e t ∷ f)) (extend (extra w (slot e t)) (tell w f) ++ final w e n)
unfolding final
best_slot w {n} zero {t} {f} le ft fine h a = rw (append_nil (extend (extra w (slot 0 t)) (tell w f))) (best_extend (Annihilates w n f) (Annihilates w (suc n) (slot 0 t ∷ f)) n (extra w (slot 0 t)) (tell w f) a (λ c b. b.fits.sized) (ann_extra w le ft fine h) (down w le ft fine) (λ y b. (let k = end_multiple w le ft fine y b in none_below (2 ^ w) k.0 y (k.1 ∙ ap (λ (z : ℕ). k.0 * 2 ^ z) (less_none w)) (fit_unsnoc w b.fits).1)))
best_slot w {n} (suc e) {t} {f} le ft fine h a = best_append (Annihilates w n f) (Annihilates w (suc n) (slot (suc e) t ∷ f)) n (extra w (slot (suc e) t)) (tell w f) a (λ c b. b.fits.sized) (ann_extra w le ft fine h) (down w le ft fine) (w - suc e) (ann_end w le ft fine (omega arith)) (λ c b. extra_low w le ft fine h c) (end_multiple w le ft fine)

tell_slot : (w : ℕ) {n : ℕ} (s : Slot) (f : Form) → length f ≡ n → extend (extra w s) (tell w f) ++ final w s.exp n ≡ tell w (s ∷ f)
unfolding tell
tell_slot w s f e = ap (λ (m : ℕ). extend (extra w s) (tell w f) ++ final w s.exp m) (sym e)

tell_none : (w : ℕ) → Best (Annihilates w 0 []) (tell w [])
unfolding tell
tell_none w = best_none (Annihilates w 0 []) (λ c a. empty c a.fits.sized)
  where
    empty : (c : List ℕ) → length c ≡ 0 → c ≡ []
    empty [] e = refl
    empty (x ∷ c) e = absurd (omega arith)

tell_next : (w : ℕ) {n e : ℕ} {t : List ℕ} {f : Form} → e ≤ w → Fit w n t → WellFormed w n f → In w f (times w (2 ^ (w - e)) t)
    → Best (Annihilates w n f) (tell w f) → Best (Annihilates w (suc n) (slot e t ∷ f)) (tell w (slot e t ∷ f))
tell_next w {n} {e} {t} {f} le ft fine h a = subst (Best (Annihilates w (suc n) (slot e t ∷ f))) (tell_slot w (slot e t) f (length_fine w fine)) (best_slot w e le ft fine h a)

pub best_tell : (w : ℕ) {n : ℕ} {f : Form} → WellFormed w n f → Howell w f → Best (Annihilates w n f) (tell w f)
best_tell w no_slots h = tell_none w
best_tell w (slot_on le ft fine) h = tell_next w le ft fine h.0 (best_tell w fine h.1)
