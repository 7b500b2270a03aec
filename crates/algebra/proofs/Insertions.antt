-- many rows inserted into a form; the rows of a form
use mathlib.Core.Path.{◌≡◌, refl, sym, ap, ◌∙◌, subst}
use mathlib.Core.Logic.{inl, inr, ◌↔◌}
use mathlib.Core.List.{List, [], ◌∷◌}
use Prim.Native.Nat.{ℕ, zero, suc, ◌+◌, ◌*◌, ◌%◌, ◌-◌, ◌^◌, ◌<◌, ◌≤◌}
use native.Mathlib.Omega.{arith}
use native.Mathlib.Nat.{mod-eq_of_lt, mul-one}
use lib.ListN.{replicate}
use Rattle.algebra.proofs.Vec.{length_times, dot_mod, dot_plus, dot_times, mod_small}
use Rattle.algebra.proofs.Fit.{fit_less, fit_times, fit_zero, fit_tail, fit_cons, fit_head, fit_nought, Submodule, Tail, Inside}
use Rattle.algebra.proofs.Insert.{inside_insert, fine_insert, Falls, falls_le, weight_insert}
use Rattle.algebra.proofs.FormSpans.{in_sub, in_least, inside_mono, inside_self, howell_insert, fine_nothing, howell_nothing, inside_nothing}
use Rattle.algebra.specs.Vec.{plus, times, less, dot}
use Rattle.algebra.specs.Span.{Fit, Each}
use Rattle.algebra.specs.Form.{Form, insert, grow, WellFormed, no_slots, slot_on, In, Howell, weight, nothing, everything, shift, full}

pub each_map : (P Q : List ℕ → Type 0) → ((c : List ℕ) → P c → Q c) → (rs : List (List ℕ)) → Each P rs → Each Q rs
each_map P Q f [] a = tt
each_map P Q f (r ∷ rs) a = (f r a.0, each_map P Q f rs a.1)

pub each_shift : (S : List ℕ → Type 0) (rs : List (List ℕ)) → Each S (shift rs) ↔ Each (Tail S) rs
unfolding shift
each_shift S [] = (λ a. a, λ a. a)
each_shift S (r ∷ rs) = (λ a. (a.0, (each_shift S rs).0 a.1), λ a. (a.0, (each_shift S rs).1 a.1))

-- inside, by the whole rows
pub inside_full : (w : ℕ) (S : List ℕ → Type 0) (f : Form) → Inside w S f ↔ Each S (full w f)
unfolding full
inside_full w S [] = (λ a. tt, λ a. tt)
inside_full w S (s ∷ f) = (λ a. (a.0, (each_shift S (full w f)).1 ((inside_full w (Tail S) f).0 a.1)), λ a. (a.0, (inside_full w (Tail S) f).1 ((each_shift S (full w f)).0 a.1)))

pub fits_full : (w : ℕ) {n : ℕ} {f : Form} → WellFormed w n f → Each (Fit w n) (full w f)
unfolding full
fits_full w no_slots = tt
fits_full w (slot_on {n} {e} {t} {f} le ft fine) = (fit_cons w (mod_small w (2 ^ e)) ft, (each_shift (Fit w (suc n)) (full w f)).1 (each_map (Fit w n) (Tail (Fit w (suc n))) (λ c h. fit_nought w h) (full w f) (fits_full w fine)))

-- many rows inserted
pub fine_grow : (w : ℕ) {n : ℕ} (f : Form) (vs : List (List ℕ)) → WellFormed w n f → Each (Fit w n) vs → WellFormed w n (grow w f vs)
unfolding grow
fine_grow w f [] fine a = fine
fine_grow w f (v ∷ vs) fine a = fine_grow w (insert w f v) vs (fine_insert w fine v a.0) a.1

pub howell_grow : (w : ℕ) {n : ℕ} (f : Form) (vs : List (List ℕ)) → WellFormed w n f → Howell w f → Each (Fit w n) vs → Howell w (grow w f vs)
unfolding grow
howell_grow w f [] fine h a = h
howell_grow w f (v ∷ vs) fine h a = howell_grow w (insert w f v) vs (fine_insert w fine v a.0) (howell_insert w fine h v a.0) a.1

pub inside_grow : (w : ℕ) {n : ℕ} (S : List ℕ → Type 0) → Submodule w n S → (f : Form) (vs : List (List ℕ)) → WellFormed w n f → Each (Fit w n) vs
    → Inside w S (grow w f vs) ↔ (Inside w S f × Each S vs)
unfolding grow
inside_grow w S sub f [] fine a = (λ i. (i, tt), λ i. i.0)
inside_grow w S sub f (v ∷ vs) fine a =
    let one = inside_insert w fine S v sub a.0 in
    let ih = inside_grow w S sub (insert w f v) vs (fine_insert w fine v a.0) a.1 in
    (λ i. (let j = ih.0 i in let k = one.0 j.0 in (k.0, (k.1, j.1))), λ i. ih.1 (one.1 (i.0, i.1.0), i.1.1))

pub inside_none : (w : ℕ) {n : ℕ} (S : List ℕ → Type 0) → Submodule w n S → Inside w S (nothing w n)
inside_none w {n} S sub = inside_mono w (fine_nothing w n) (λ (v : List ℕ). v ≡ replicate n 0) S (λ v fv e. subst S (sym e) sub.zeros) (inside_nothing w n)

-- dot is below 2 ^ w
pub dot_small : (w : ℕ) (c v : List ℕ) → dot w c v < 2 ^ w
dot_small w c v = rw (← (dot_mod w c v)) (mod_small w (dot w c v))

-- linear, as one equation
pub dot_less : (w : ℕ) {n : ℕ} (g : List ℕ) (k : ℕ) (c d : List ℕ) → Fit w n c → Fit w n d → dot w g (plus w c (times w k d)) ≡ (dot w g c + (k * dot w g d) % 2 ^ w) % 2 ^ w
dot_less w g k c d p q = dot_plus w g c (times w k d) (p.sized ∙ sym q.sized ∙ sym (length_times w k d)) ∙ ap (λ (z : ℕ). (dot w g c + z) % 2 ^ w) (dot_times w k g d)

-- the form that spans everything
pub fine_everything : (w n : ℕ) → WellFormed w n (everything n)
fine_everything w zero = no_slots
fine_everything w (suc n) = slot_on (omega arith) (fit_zero w n) (fine_everything w n)

pub in_everything : (w n : ℕ) (u : List ℕ) → Fit w n u → In w (everything n) u
in_everything w zero [] fu = refl
in_everything w zero (x ∷ u) fu = absurd (let h = fu.sized in omega arith)
in_everything w (suc n) [] fu = absurd (let h = fu.sized in omega arith)
in_everything w (suc n) (x ∷ u) fu = (x, sym (ap (λ (z : ℕ). z % 2 ^ w) (mul-one x) ∙ mod-eq_of_lt (fit_head w fu)), in_everything w n (less w u x (replicate n 0)) (fit_less w x (fit_tail w fu) (fit_zero w n)))

pub howell_everything : (w n : ℕ) → Howell w (everything n)
howell_everything w zero = tt
howell_everything w (suc n) = (in_everything w n (times w (2 ^ (w - 0)) (replicate n 0)) (fit_times w (2 ^ (w - 0)) (fit_zero w n)), howell_everything w n)

pub weight_nothing : (w n : ℕ) → weight (nothing w n) ≡ w * n
weight_nothing w zero = omega arith
weight_nothing w (suc n) = omega (arith, weight_nothing w n)

-- a form never weighs more than w for each place
pub weight_fine : (w : ℕ) {n : ℕ} {f : Form} → WellFormed w n f → weight f ≤ w * n
weight_fine w no_slots = omega arith
weight_fine w (slot_on le ft fine) = omega (arith, le, weight_fine w fine)

pub falls_grow : (w : ℕ) (f : Form) (vs : List (List ℕ)) → Falls f (grow w f vs)
unfolding grow
falls_grow w f [] = inl refl
falls_grow w f (v ∷ vs) = join (weight_insert w f v) (falls_grow w (insert w f v) vs)
  where
    join : {g h : Form} → Falls f g → Falls g h → Falls f h
    join {g} {h} (inl a) (inl b) = inl (b ∙ a)
    join {g} {h} (inl a) (inr b) = let z : weight g ≡ weight f = ap weight a in inr (omega arith)
    join {g} {h} (inr a) b = let z = falls_le g h b in inr (omega arith)

-- what the rows inserted span, with the old span
pub in_grow : (w : ℕ) {n : ℕ} (f : Form) (vs : List (List ℕ)) → WellFormed w n f → Each (Fit w n) vs → (u : List ℕ) → Fit w n u → In w f u → In w (grow w f vs) u
in_grow w f vs fine a u fu i = in_least w fine (In w (grow w f vs)) (in_sub w (fine_grow w f vs fine a)) ((inside_grow w (In w (grow w f vs)) (in_sub w (fine_grow w f vs fine a)) f vs fine a).0 (inside_self w (fine_grow w f vs fine a))).0 u fu i

-- the form of some rows
module _ (w n : ℕ) (vs : List (List ℕ)) (fits : Each (Fit w n) vs) where
  pub made_fine : WellFormed w n (grow w (nothing w n) vs)
  made_fine = fine_grow w (nothing w n) vs (fine_nothing w n) fits

  pub made_howell : Howell w (grow w (nothing w n) vs)
  made_howell = howell_grow w (nothing w n) vs (fine_nothing w n) (howell_nothing w n) fits

  pub made_has : Each (In w (grow w (nothing w n) vs)) vs
  made_has = ((inside_grow w (In w (grow w (nothing w n) vs)) (in_sub w made_fine) (nothing w n) vs (fine_nothing w n) fits).0 (inside_self w made_fine)).1

  pub made_inside : (S : List ℕ → Type 0) → Submodule w n S → Inside w S (grow w (nothing w n) vs) ↔ Each S vs
  made_inside S sub = (λ i. ((inside_grow w S sub (nothing w n) vs (fine_nothing w n) fits).0 i).1, λ e. (inside_grow w S sub (nothing w n) vs (fine_nothing w n) fits).1 (inside_none w S sub, e))

  pub made_least : (S : List ℕ → Type 0) → Submodule w n S → Each S vs → (u : List ℕ) → Fit w n u → In w (grow w (nothing w n) vs) u → S u
  made_least S sub e u fu i = in_least w made_fine S sub ((made_inside S sub).1 e) u fu i
