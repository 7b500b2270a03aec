-- a row inserted into a form: what it then spans
use mathlib.Core.Path.{◌≡◌, refl, sym, ap, ◌∙◌, subst}
use mathlib.Core.Logic.{◌⊎◌, inl, inr, ◌↔◌}
use mathlib.Core.Bool.{Bool, true, false, not}
use mathlib.Core.List.{List, [], ◌∷◌}
use Prim.Native.Nat.{ℕ, suc, ◌+◌, ◌*◌, ◌%◌, ◌/◌, ◌-◌, ◌^◌, ◌<◌, ◌≤◌}
use native.Mathlib.Omega.{arith}
use native.Mathlib.Decide.{dec_le}
use native.Mathlib.Nat.{mul-one, mod-eq_of_lt}
use lib.Pow.{pow-add}
use lib.Count.{count_trailing_zeros, trailing_le}
use lib.Dec.{T, leb, le→leb}
use lib.Arith.{lt→nleb}
use Rattle.algebra.proofs.Modular.{mul_mod_mod, mods, push, pull, red, out, by_zero, by_small}
use Rattle.algebra.proofs.Vec.{cons_≡, times_times, times_mod, times_one, mod_small}
use Rattle.algebra.proofs.Span.{back}
use Rattle.algebra.proofs.Units.{inverse_is, quotient, odd_rest}
use Rattle.algebra.proofs.Fit.{fit_less, fit_times, fit_tail, fit_cons, fit_head, fit_nought, Submodule, Tail, sub_tail, sub_times, Inside}
use Rattle.algebra.specs.Vec.{neg, times, less}
use Rattle.algebra.specs.Span.{Fit}
use Rattle.algebra.specs.Inverse.{inverse}
use Rattle.algebra.specs.Form.{slot, Form, insert, WellFormed, no_slots, slot_on, weight}

pub T_true : (b : Bool) → T b → b ≡ true
T_true true t = refl
T_true false t = absurd t

pub T_false : (b : Bool) → T (not b) → b ≡ false
T_false true t = absurd t
T_false false t = refl

-- the two ways of `insert`
pub insert_big : (w e x : ℕ) (t v : List ℕ) (f : Form) → e ≤ count_trailing_zeros w x → insert w (slot e t ∷ f) (x ∷ v) ≡ slot e t ∷ insert w f (less w v (x / 2 ^ e) t)
unfolding insert
insert_big w e x t v f h = rw (T_true (leb e (count_trailing_zeros w x)) (le→leb e (count_trailing_zeros w x) h), insert)

pub insert_new : (w e x : ℕ) (t v : List ℕ) (f : Form) → count_trailing_zeros w x < e
    → insert w (slot e t ∷ f) (x ∷ v) ≡ slot (count_trailing_zeros w x) (times w (inverse w (x / 2 ^ count_trailing_zeros w x)) v) ∷ insert w f (less w t (2 ^ (e - count_trailing_zeros w x)) (times w (inverse w (x / 2 ^ count_trailing_zeros w x)) v))
unfolding insert
insert_new w e x t v f h = rw (T_false (leb e (count_trailing_zeros w x)) (lt→nleb e (count_trailing_zeros w x) h), insert)

-- where the pivot stays, for a submodule: the row is in it if what is left is
module _ (w : ℕ) {n : ℕ} {S : List ℕ → Type 0} (sub : Submodule w (suc n) S) (e x q : ℕ) (t v : List ℕ) (is : x ≡ q * 2 ^ e) (ft : Fit w n t) (fv : Fit w (suc n) (x ∷ v)) where
  row_fit : Fit w (suc n) ((2 ^ e % 2 ^ w) ∷ t)
  row_fit = fit_cons w (mod_small w (2 ^ e)) ft

  pub big_to : S ((2 ^ e % 2 ^ w) ∷ t) → S (0 ∷ less w v q t) → S (x ∷ v)
  big_to a b = subst S (cons_≡ (head) (back w q v t ((fit_tail w fv).sized ∙ sym ft.sized) (fit_tail w fv).small)) (sub.add q (0 ∷ less w v q t) ((2 ^ e % 2 ^ w) ∷ t) (fit_nought w (fit_less w q (fit_tail w fv) ft)) row_fit b a)
    where
      head : (0 + (q * (2 ^ e % 2 ^ w)) % 2 ^ w) % 2 ^ w ≡ x
      head = simp push (simp pull (simp out (by_small w _ x 0 (fit_head w fv) (omega (arith, is)))))

  pub big_from : S ((2 ^ e % 2 ^ w) ∷ t) → S (x ∷ v) → S (0 ∷ less w v q t)
  big_from a b = subst S (cons_≡ (head) refl) (sub.add (neg w * q) (x ∷ v) ((2 ^ e % 2 ^ w) ∷ t) fv row_fit b a)
    where
      head : (x + (neg w * q * (2 ^ e % 2 ^ w)) % 2 ^ w) % 2 ^ w ≡ 0
      head = simp push (simp pull (simp out (by_zero w _ x (omega (arith, ap (λ (z : ℕ). neg w * z) is)))))

-- where the pivot is new: x is u times 2 ^ i, with y an inverse of u, and i + d is the old power
module _ (w : ℕ) {n : ℕ} {S : List ℕ → Type 0} (sub : Submodule w (suc n) S) (i d x u y : ℕ) (t v : List ℕ) (is : x ≡ u * 2 ^ i) (one : (u * y) % 2 ^ w ≡ 1 % 2 ^ w) (ft : Fit w n t) (fv : Fit w (suc n) (x ∷ v)) where
  new_row : List ℕ
  new_row = (2 ^ i % 2 ^ w) ∷ times w y v

  old_row : List ℕ
  old_row = (2 ^ (i + d) % 2 ^ w) ∷ t

  new_fit : Fit w (suc n) new_row
  unfolding new_row
  new_fit = fit_cons w (mod_small w (2 ^ i)) (fit_times w y (fit_tail w fv))

  old_fit : Fit w (suc n) old_row
  unfolding old_row
  old_fit = fit_cons w (mod_small w (2 ^ (i + d))) ft

  pub new_from : S (x ∷ v) → S ((2 ^ i % 2 ^ w) ∷ times w y v)
  unfolding new_row
  new_from a = subst S (cons_≡ head refl) (sub_times w sub y (x ∷ v) fv a)
    where
      head : (y * x) % 2 ^ w ≡ 2 ^ i % 2 ^ w
      head =
          ap (λ (z : ℕ). z % 2 ^ w) (ap (λ (z : ℕ). y * z) is ∙ regroup)
          ∙ sym (mul_mod_mod (2 ^ i) (u * y) (2 ^ w))
          ∙ ap (λ (z : ℕ). (2 ^ i * z) % 2 ^ w) one
          ∙ mul_mod_mod (2 ^ i) 1 (2 ^ w)
          ∙ ap (λ (z : ℕ). z % 2 ^ w) (mul-one (2 ^ i))
        where
          regroup : y * (u * 2 ^ i) ≡ 2 ^ i * (u * y)
          regroup = omega arith

  pub new_to : S ((2 ^ i % 2 ^ w) ∷ times w y v) → S (x ∷ v)
  unfolding new_row
  new_to a = subst S (cons_≡ head (times_times w u y v ∙ sym (times_mod w (u * y) v) ∙ ap (λ (k : ℕ). times w k v) one ∙ times_mod w 1 v ∙ times_one w v (fit_tail w fv).small)) (sub_times w sub u ((2 ^ i % 2 ^ w) ∷ times w y v) new_fit a)
    where
      head : (u * (2 ^ i % 2 ^ w)) % 2 ^ w ≡ x
      head = simp mods (rw (← is) (mod-eq_of_lt (fit_head w fv)))

  pub old_from : S ((2 ^ (i + d) % 2 ^ w) ∷ t) → S ((2 ^ i % 2 ^ w) ∷ times w y v) → S (0 ∷ less w t (2 ^ d) (times w y v))
  unfolding new_row old_row
  old_from a b = subst S (cons_≡ head refl) (sub.add (neg w * 2 ^ d) ((2 ^ (i + d) % 2 ^ w) ∷ t) ((2 ^ i % 2 ^ w) ∷ times w y v) old_fit new_fit a b)
    where
      head : (2 ^ (i + d) % 2 ^ w + (neg w * 2 ^ d * (2 ^ i % 2 ^ w)) % 2 ^ w) % 2 ^ w ≡ 0
      head = rw (pow-add 2 i d) (simp push (simp pull (simp out (by_zero w _ (2 ^ i * 2 ^ d) (omega arith)))))

  pub old_to : S (0 ∷ less w t (2 ^ d) (times w y v)) → S ((2 ^ i % 2 ^ w) ∷ times w y v) → S ((2 ^ (i + d) % 2 ^ w) ∷ t)
  unfolding new_row old_row
  old_to a b = subst S (cons_≡ head (back w (2 ^ d) t (times w y v) (ft.sized ∙ sym (fit_times w y (fit_tail w fv)).sized) ft.small)) (sub.add (2 ^ d) (0 ∷ less w t (2 ^ d) (times w y v)) ((2 ^ i % 2 ^ w) ∷ times w y v) (fit_nought w (fit_less w (2 ^ d) ft (fit_times w y (fit_tail w fv)))) new_fit a b)
    where
      head : (0 + (2 ^ d * (2 ^ i % 2 ^ w)) % 2 ^ w) % 2 ^ w ≡ 2 ^ (i + d) % 2 ^ w
      head = rw (pow-add 2 i d) (simp push (simp pull (ap (red (2 ^ w)) (omega arith))))

-- the universal property: a form with a row inserted is inside a submodule exactly if the form and the row are
pub inside_insert : (w : ℕ) {n : ℕ} {f : Form} → WellFormed w n f → (S : List ℕ → Type 0) (v : List ℕ) → Submodule w n S → Fit w n v → Inside w S (insert w f v) ↔ (Inside w S f × S v)
unfolding insert
inside_insert w no_slots S [] sub fv = (λ _. (tt, sub.zeros), λ _. tt)
inside_insert w no_slots S (x ∷ v) sub fv = absurd (let h = fv.sized in omega arith)
inside_insert w (slot_on le ft fine) S [] sub fv = absurd (let h = fv.sized in omega arith)
inside_insert w (slot_on {n = m} {e} {t} {f} le ft fine) S (x ∷ v) sub fv = elim (dec_le e (count_trailing_zeros w x)) [ yes h ↦ rw (insert_big w e x t v f h) (big h (inside_insert w fine (Tail S) (less w v (x / 2 ^ e) t) (sub_tail w sub) (fit_less w (x / 2 ^ e) (fit_tail w fv) ft))) | no h ↦ rw (insert_new w e x t v f (omega arith)) (new (omega arith) (inside_insert w fine (Tail S) (less w t (2 ^ (e - i)) (times w (inverse w u) v)) (sub_tail w sub) (fit_less w (2 ^ (e - i)) ft (fit_times w (inverse w u) (fit_tail w fv))))) ]
  where
    i : ℕ
    i = count_trailing_zeros w x

    u : ℕ
    u = x / 2 ^ i

    big : e ≤ i → Inside w (Tail S) (insert w f (less w v (x / 2 ^ e) t)) ↔ (Inside w (Tail S) f × S (0 ∷ less w v (x / 2 ^ e) t))
        → Inside w S (slot e t ∷ insert w f (less w v (x / 2 ^ e) t)) ↔ (Inside w S (slot e t ∷ f) × S (x ∷ v))
    big h ih = (λ a. (let b = ih.0 a.1 in ((a.0, b.0), big_to w sub e x (x / 2 ^ e) t v q ft fv a.0 b.1)), λ a. (a.0.0, ih.1 (a.0.1, big_from w sub e x (x / 2 ^ e) t v q ft fv a.0.0 a.1)))
      where
        q : x ≡ x / 2 ^ e * 2 ^ e
        q = quotient w e x h

    new : i < e
        → Inside w (Tail S) (insert w f (less w t (2 ^ (e - i)) (times w (inverse w u) v))) ↔ (Inside w (Tail S) f × S (0 ∷ less w t (2 ^ (e - i)) (times w (inverse w u) v)))
        → Inside w S (slot i (times w (inverse w u) v) ∷ insert w f (less w t (2 ^ (e - i)) (times w (inverse w u) v))) ↔ (Inside w S (slot e t ∷ f) × S (x ∷ v))
    new h ih = (λ a. (let b = ih.0 a.1 in ((subst (λ (z : ℕ). S ((2 ^ z % 2 ^ w) ∷ t)) sum_is (old_to w sub i (e - i) x u (inverse w u) t v q o ft fv b.1 a.0), b.0), new_to w sub i (e - i) x u (inverse w u) t v q o ft fv a.0)), λ a. (let n1 = new_from w sub i (e - i) x u (inverse w u) t v q o ft fv a.1 in (n1, ih.1 (a.0.1, old_from w sub i (e - i) x u (inverse w u) t v q o ft fv (subst (λ (z : ℕ). S ((2 ^ z % 2 ^ w) ∷ t)) (sym sum_is) a.0.0) n1))))
      where
        q : x ≡ u * 2 ^ i
        q = quotient w i x (omega arith)

        o : (u * inverse w u) % 2 ^ w ≡ 1 % 2 ^ w
        o = inverse_is w u (odd_rest w x (omega arith))

        sum_is : i + (e - i) ≡ e
        sum_is = omega arith

-- a row inserted leaves a form
pub fine_insert : (w : ℕ) {n : ℕ} {f : Form} → WellFormed w n f → (v : List ℕ) → Fit w n v → WellFormed w n (insert w f v)
unfolding insert
fine_insert w no_slots v fv = no_slots
fine_insert w (slot_on le ft fine) [] fv = slot_on le ft fine
fine_insert w (slot_on {n = m} {e} {t} {f} le ft fine) (x ∷ v) fv = elim (dec_le e (count_trailing_zeros w x)) [ yes h ↦ rw (insert_big w e x t v f h) (slot_on le ft (fine_insert w fine (less w v (x / 2 ^ e) t) (fit_less w (x / 2 ^ e) (fit_tail w fv) ft))) | no h ↦ rw (insert_new w e x t v f (omega arith)) (slot_on (trailing_le w x) (fit_times w (inverse w u) (fit_tail w fv)) (fine_insert w fine (less w t (2 ^ (e - i)) (times w (inverse w u) v)) (fit_less w (2 ^ (e - i)) ft (fit_times w (inverse w u) (fit_tail w fv))))) ]
  where
    i : ℕ
    i = count_trailing_zeros w x

    u : ℕ
    u = x / 2 ^ i

-- the weight falls, or nothing changes
abbrev pub Falls : Form → Form → Type 0
Falls f g = (g ≡ f) ⊎ (weight g < weight f)

pub falls_le : (f g : Form) → Falls f g → weight g ≤ weight f
falls_le f g (inl e) = let h : weight g ≡ weight f = ap weight e in omega arith
falls_le f g (inr h) = omega arith

pub weight_insert : (w : ℕ) (f : Form) (v : List ℕ) → Falls f (insert w f v)
unfolding insert
weight_insert w [] v = inl refl
weight_insert w (s ∷ f) [] = inl refl
weight_insert w (s ∷ f) (x ∷ v) = elim (dec_le e i) [ yes h ↦ rw (insert_big w e x t v f h) (big (weight_insert w f (less w v (x / 2 ^ e) t))) | no h ↦ rw (insert_new w e x t v f (omega arith)) (inr (let z = falls_le f (insert w f (less w t (2 ^ (e - i)) (times w (inverse w u) v))) (weight_insert w f (less w t (2 ^ (e - i)) (times w (inverse w u) v))) in omega arith)) ]
  where
    e : ℕ
    e = s.exp

    t : List ℕ
    t = s.rest

    i : ℕ
    i = count_trailing_zeros w x

    u : ℕ
    u = x / 2 ^ i

    big : {g : Form} → Falls f g → Falls (s ∷ f) (s ∷ g)
    big {g} (inl q) = inl (ap {B = Form} (λ (h : Form). s ∷ h) q)
    big {g} (inr q) = inr (omega arith)
