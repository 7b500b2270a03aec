-- what point 0 starts with: the words of which the given rows hold
use Rattle.std.proofs.Common.{◌≡◌, ℕ, zero, suc, ◌+◌, ◌*◌, ◌%◌, ◌^◌, ◌<◌, ◌⊎◌, List, [], ◌∷◌, sym, refl, ap, ◌∙◌, subst, inl, inr, mod-eq_of_lt, arith}
use mathlib.Core.Option.{some}
use native.Mathlib.Decide.{ℕ_discrete}
use Rattle.algebra.proofs.Modular.{push, pull, out, by_both}
use Rattle.algebra.proofs.Vec.{cons_≡, dot_comm}
use Rattle.algebra.proofs.Rows.{none≢some}
use Rattle.algebra.proofs.Only.{no_row}
use Rattle.algebra.proofs.Span.{all_spanned, back}
use Rattle.algebra.proofs.Fit.{fit_tail}
use Rattle.algebra.proofs.FormSpans.{in_nothing, fine_nothing, howell_nothing}
use Rattle.algebra.proofs.Insertions.{made_fine, made_howell}
use Rattle.algebra.proofs.LastPlace.{fit_flip, fits_flips, flip_flip, flip_sums}
use Rattle.algebra.proofs.Annihilators.{each_row, each_to, best_annihilator, ann_closed, ann_sub}
use Rattle.algebra.proofs.Maps.{span_flips, flips_flips, span_least, made_spans}
use Rattle.algebra.proofs.Generated.{gen_one, gen_add}
use Rattle.algebra.specs.Vec.{neg, plus, times, dot, flip, flips}
use Rattle.algebra.specs.Rows.{nth, Lead, Row, here, there, Best}
use Rattle.algebra.specs.Span.{Fit, Span, Each, Ann}
use Rattle.algebra.specs.Form.{Form, WellFormed, In, Howell, nothing, grow}
use Rattle.algebra.specs.Tell.{annihilator}
use Rattle.algebra.specs.System.{Gen, gen_none}
use Rattle.programs.specs.Programs.{Program}
use Rattle.programs.specs.Runs.{State, Holds}
use Rattle.programs.specs.Kept.{Reached, reached}
use Rattle.programs.specs.Theorems.{Given}
use Rattle.programs.proofs.States.{fit_one, one_small, fit_reached, comes_first}

not_first : {q r : List ℕ} {i : ℕ} {rs : List (List ℕ)} {s : List ℕ} → Row q i (r ∷ rs) → q ≡ 1 ∷ s → ((t : List ℕ) → r ≡ 1 ∷ t → ⊥) → ((t : List ℕ) (j : ℕ) → Row (1 ∷ t) j rs → ⊥) → ⊥
not_first {s} here e f g = f s e
not_first {rs} {s} (there {i = j} h) e f g = g s j (subst (λ (x : List ℕ). Row x j rs) e h)

-- a row that begins with 1, if there is one
pub find_one : (rs : List (List ℕ)) → ((s : List ℕ) × (i : ℕ) × Row (1 ∷ s) i rs) ⊎ ((s : List ℕ) (i : ℕ) → Row (1 ∷ s) i rs → ⊥)
find_one [] = inr (λ s i h. no_row h)
find_one (r ∷ rs) = next (find_one rs) (head r)
  where
    head : (q : List ℕ) → ((s : List ℕ) × (q ≡ 1 ∷ s)) ⊎ ((s : List ℕ) → q ≡ 1 ∷ s → ⊥)
    head [] = inr (λ s e. (let z : ◌≡◌ {A = ℕ} 0 1 = cc in omega arith))
    head (x ∷ q) = elim (ℕ_discrete x 1) [ yes e ↦ inl (q, cons_≡ e refl) | no f ↦ inr (λ s e. f (cc)) ]

    next : ((s : List ℕ) × (i : ℕ) × Row (1 ∷ s) i rs) ⊎ ((s : List ℕ) (i : ℕ) → Row (1 ∷ s) i rs → ⊥)
        → ((s : List ℕ) × (r ≡ 1 ∷ s)) ⊎ ((s : List ℕ) → r ≡ 1 ∷ s → ⊥)
        → ((s : List ℕ) × (i : ℕ) × Row (1 ∷ s) i (r ∷ rs)) ⊎ ((s : List ℕ) (i : ℕ) → Row (1 ∷ s) i (r ∷ rs) → ⊥)
    next (inl f) h = inl (f.0, suc f.1, there f.2)
    next (inr g) (inl e) = inl (e.0, 0, subst (λ (q : List ℕ). Row q 0 (r ∷ rs)) e.1 here)
    next (inr g) (inr f) = inr (λ s i h. not_first h refl f g)

-- 1 is a multiple of 1 only
only_one : (k v : ℕ) → 1 ≡ k * v → 0 < v → v ≡ 1
only_one zero v e h = absurd (omega arith)
only_one (suc zero) v e h = omega arith
only_one (suc (suc k)) v e h = absurd (omega arith)

begins_one : (r : List ℕ) → nth r 0 ≡ some 1 → (s : List ℕ) × (r ≡ 1 ∷ s)
begins_one [] e = absurd (none≢some 1 e)
begins_one (x ∷ s) e = (s, cons_≡ (cc) refl)

module _ (w : ℕ) (pos : 0 < w) (gs : List (List ℕ)) (p : Program) (given : Given w gs p) where
  abbrev N : ℕ
  N = suc p.words

  -- the best rows of what annihilates the given rows
  A : List (List ℕ)
  A = annihilator w N gs

  best : Best (Ann w N gs) A
  unfolding A
  best = best_annihilator w N gs given

  A_fits : Each (Fit w N) A
  A_fits = each_row (Fit w N) A (λ r i h. (best.members r i h).fits)

  -- their form, which spans it
  K : Form
  K = grow w (nothing w N) (flips A)

  K_fits : Each (Fit w N) (flips A)
  K_fits = fits_flips w N A A_fits

  to_K : (v : List ℕ) → Ann w N gs v → In w K (flip v)
  unfolding K
  to_K v a = (made_spans w N (flips A) K_fits (flip v) (fit_flip w a.fits)).1 (span_flips w N A A_fits v (all_spanned w N (Ann w N gs) (ann_closed w N gs given) A best v a))

  from_K : (u : List ℕ) → Fit w N u → In w K u → Ann w N gs (flip u)
  unfolding K
  from_K u fu i = span_least w N (Ann w N gs) (ann_sub w N gs given) A A_fits (each_row (Ann w N gs) A (λ r j h. best.members r j h)) (flip u) (subst (λ (z : List (List ℕ)). Span w N z (flip u)) (flips_flips A) (span_flips w N (flips A) K_fits u ((made_spans w N (flips A) K_fits u fu).0 i)))

  -- words of which the given rows hold are what annihilates them, with 1 before
  ann_state : (s : State) → Fit w p.words s → Holds w gs s → Ann w N gs (1 ∷ s)
  ann_state s h g = record { fits = fit_one w pos h; kills = each_to (λ (r : List ℕ). dot w r (1 ∷ s) ≡ 0) (λ (r : List ℕ). dot w (1 ∷ s) r ≡ 0) (λ r e. dot_comm w (1 ∷ s) r ∙ e) gs g }

  state_comes : (s : State) → Ann w N gs (1 ∷ s) → Reached w gs p 0 (flip (1 ∷ s))
  state_comes s a = reached (comes_first w (fit_tail w a.fits) (each_to (λ (r : List ℕ). dot w (1 ∷ s) r ≡ 0) (λ (r : List ℕ). dot w r (1 ∷ s) ≡ 0) (λ r e. dot_comm w r (1 ∷ s) ∙ e) gs a.kills))

  abbrev R : List ℕ → Type 0
  R = Gen w N (Reached w gs p 0)

  -- with one such state, all that annihilates is generated by such states
  generated : (s : State) → Ann w N gs (1 ∷ s) → (v : List ℕ) → Ann w N gs v → R (flip v)
  generated s b [] a = absurd (let e = a.fits.sized in omega arith)
  generated s b (x ∷ t) a = subst R (sym (flip_sums w j (1 ∷ t₁) (1 ∷ s) a₁.fits b.fits) ∙ ap flip whole) (gen_add w N (Reached w gs p 0) (fit_reached w pos gs p 0) j (flip (1 ∷ t₁)) (gen_one w N (Reached w gs p 0) (fit_reached w pos gs p 0) (flip (1 ∷ t₁)) (state_comes t₁ a₁)) (gen_one w N (Reached w gs p 0) (fit_reached w pos gs p 0) (flip (1 ∷ s)) (state_comes s b)))
    where
      j : ℕ
      j = x + neg w

      t₁ : List ℕ
      t₁ = plus w t (times w (neg w * j) s)

      head : (x + (neg w * j * 1) % 2 ^ w) % 2 ^ w ≡ 1
      head = simp push (simp pull (simp out (by_both w _ 1 1 (x + neg w) (omega arith)))) ∙ mod-eq_of_lt (one_small w pos)

      a₁ : Ann w N gs (1 ∷ t₁)
      a₁ = subst (λ (z : ℕ). Ann w N gs (z ∷ t₁)) head ((ann_closed w N gs given).sums (neg w * j) (x ∷ t) (1 ∷ s) a b)

      whole : plus w (1 ∷ t₁) (times w j (1 ∷ s)) ≡ x ∷ t
      whole = ap (λ (z : ℕ). plus w (z ∷ t₁) (times w j (1 ∷ s))) (sym head) ∙ back w j (x ∷ t) (1 ∷ s) (a.fits.sized ∙ sym b.fits.sized) a.fits.small

  -- the start: that form if a state is in it, else nothing
  pub record Start : Type 0 where
    pub form : Form
    pub well : WellFormed w N form
    pub howell : Howell w form
    pub enough : (s : State) → Fit w p.words s → Holds w gs s → In w form (flip (1 ∷ s))
    pub no_more : (u : List ℕ) → Fit w N u → In w form u → R u

  no_state : ((s : List ℕ) (i : ℕ) → Row (1 ∷ s) i A → ⊥) → (s : State) → Ann w N gs (1 ∷ s) → ⊥
  no_state f s a = f o.0 g.1 (subst (λ (r : List ℕ). Row r g.1 A) o.1 g.4)
    where
      g : (r : List ℕ) × (i : ℕ) × (v : ℕ) × (k : ℕ) × Row r i A × Lead r 0 v × (1 ≡ k * v)
      g = best.reaches (1 ∷ s) 0 1 a (record { zeros = refl; is = refl; not_0 = omega arith })

      o : (t : List ℕ) × (g.0 ≡ 1 ∷ t)
      o = begins_one g.0 (g.5.is ∙ ap some (only_one g.3 g.2 g.6 g.5.not_0))

  pub start : Start
  unfolding K
  start = elim (find_one A) [ inl f ↦ record { form = K; well = made_fine w N (flips A) K_fits; howell = made_howell w N (flips A) K_fits; enough = λ s h g. to_K (1 ∷ s) (ann_state s h g); no_more = λ u fu i. subst R (flip_flip u) (generated f.0 (best.members (1 ∷ f.0) f.1 f.2) (flip u) (from_K u fu i)) } | inr f ↦ record { form = nothing w N; well = fine_nothing w N; howell = howell_nothing w N; enough = λ s h g. absurd (no_state f s (ann_state s h g)); no_more = λ u fu i. subst R (sym (in_nothing w N u fu i)) gen_none } ]
