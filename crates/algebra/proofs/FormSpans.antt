-- what a form spans, and that it is Howell's
use mathlib.Core.Path.{◌≡◌, refl, sym, ap, ◌∙◌, subst}
use mathlib.Core.Logic.{◌↔◌}
use mathlib.Core.List.{List, [], ◌∷◌}
use Prim.Native.Nat.{ℕ, zero, suc, ◌+◌, ◌*◌, ◌%◌, ◌/◌, ◌-◌, ◌^◌, ◌<◌, ◌≤◌}
use native.Mathlib.Omega.{arith}
use native.Mathlib.Decide.{dec_le}
use native.Mathlib.Nat.{mul-zero, mul_assoc, suc_inj, div-add-mod, mod_self, eq_of_mul-eq-mul_right}
use lib.ListN.{length, replicate}
use lib.Pow.{pow-add, pow_pos}
use lib.Count.{count_trailing_zeros}
use Rattle.algebra.proofs.Modular.{push, pull, red, out, by_both, by_zero}
use Rattle.algebra.proofs.Vec.{cons_≡, times_times, times_zero, times_one, plus_zero, mod_small}
use Rattle.algebra.proofs.Sums.{times_of_zero, zero_plus_zero}
use Rattle.algebra.proofs.Span.{back}
use Rattle.algebra.proofs.Fit.{fit_less, fit_times, fit_zero, fit_tail, fit_cons, fit_nought, Submodule, Tail, sub_tail, Inside}
use Rattle.algebra.proofs.Insert.{insert_big, insert_new, inside_insert, fine_insert}
use Rattle.algebra.specs.Vec.{neg, plus, times, less}
use Rattle.algebra.specs.Span.{Fit}
use Rattle.algebra.specs.Inverse.{inverse}
use Rattle.algebra.specs.Form.{slot, Form, insert, WellFormed, no_slots, slot_on, In, Howell, nothing}

-- subtracting multiples is linear; no length is asked for, since both sides end with the shortest
pub less_plus : (w a b l : ℕ) (u v t : List ℕ) → plus w (less w u a t) (times w l (less w v b t)) ≡ less w (plus w u (times w l v)) (a + l * b) t
less_plus w a b l [] v t = refl
less_plus w a b l (x ∷ u) [] [] = refl
less_plus w a b l (x ∷ u) [] (z ∷ t) = refl
less_plus w a b l (x ∷ u) (y ∷ v) [] = refl
less_plus w a b l (x ∷ u) (y ∷ v) (z ∷ t) = cons_≡ (simp push (simp pull (ap (red (2 ^ w)) (omega arith)))) (less_plus w a b l u v t)

pub less_zero : (w : ℕ) (v t : List ℕ) (n : ℕ) → Fit w n v → Fit w n t → less w v 0 t ≡ v
less_zero w v t n a b = ap (plus w v) (ap (λ (k : ℕ). times w k t) (mul-zero (neg w)) ∙ times_zero w t ∙ ap (λ (k : ℕ). replicate k 0) b.sized) ∙ plus_zero w n v a.sized a.small

pub less_self : (w k : ℕ) (v : List ℕ) → less w (times w k v) k v ≡ replicate (length v) 0
less_self w k [] = refl
less_self w k (x ∷ v) = cons_≡ (simp push (simp pull (simp out (by_zero w _ (k * x) (omega arith))))) (less_self w k v)

-- what a form spans is closed
pub in_zero : (w : ℕ) {n : ℕ} {f : Form} → WellFormed w n f → In w f (replicate n 0)
in_zero w no_slots = refl
in_zero w (slot_on {n} {e} {t} {f} le ft fine) = (0, sym (by_zero w _ 0 (omega arith)), subst (In w f) (sym (less_zero w (replicate n 0) t n (fit_zero w n) ft)) (in_zero w fine))

pub in_add : (w : ℕ) {n : ℕ} {f : Form} → WellFormed w n f → (l : ℕ) (c d : List ℕ) → In w f c → In w f d → In w f (plus w c (times w l d))
in_add w no_slots l c d p q = rw p
in_add w (slot_on {e} {t} {f} le ft fine) l [] d p q = p
in_add w (slot_on {e} {t} {f} le ft fine) l (x ∷ c) [] p q = q
in_add w (slot_on {e} {t} {f} le ft fine) l (x ∷ c) (y ∷ d) p q = (p.0 + l * q.0, rw (p.1, q.1) (simp push (simp pull (ap (red (2 ^ w)) (omega arith)))), subst (In w f) (less_plus w p.0 q.0 l c d t) (in_add w fine l (less w c p.0 t) (less w d q.0 t) p.2 q.2))

pub in_sub : (w : ℕ) {n : ℕ} {f : Form} → WellFormed w n f → Submodule w n (In w f)
in_sub w fine = record { zeros = in_zero w fine; add = λ k c d p q. in_add w fine k c d }

-- a later row, and the first
pub in_later : (w e : ℕ) {n : ℕ} {t : List ℕ} {f : Form} → WellFormed w n f → Fit w n t → (v : List ℕ) → Fit w n v → In w f v → In w (slot e t ∷ f) (0 ∷ v)
in_later w e {n} {t} {f} fine ft v fv i = (0, sym (by_zero w _ 0 (omega arith)), subst (In w f) (sym (less_zero w v t n fv ft)) i)

pub in_first : (w e : ℕ) {n : ℕ} {t : List ℕ} {f : Form} → WellFormed w n f → Fit w n t → In w (slot e t ∷ f) ((2 ^ e % 2 ^ w) ∷ t)
in_first w e {n} {t} {f} fine ft = (1, ap (λ (z : ℕ). z % 2 ^ w) (omega arith), subst (In w f) (sym (ap (λ (z : List ℕ). less w z 1 t) (sym (times_one w t ft.small)) ∙ less_self w 1 t ∙ ap (λ (k : ℕ). replicate k 0) ft.sized)) (in_zero w fine))

-- a form is inside what it spans, which is the least set
pub inside_mono : (w : ℕ) {n : ℕ} {f : Form} → WellFormed w n f → (S R : List ℕ → Type 0) → ((v : List ℕ) → Fit w n v → S v → R v) → Inside w S f → Inside w R f
inside_mono w no_slots S R h a = tt
inside_mono w (slot_on {n} {e} {t} {f} le ft fine) S R h a = (h ((2 ^ e % 2 ^ w) ∷ t) (fit_cons w (mod_small w (2 ^ e)) ft) a.0, inside_mono w fine (Tail S) (Tail R) (λ v fv. h (0 ∷ v) (fit_nought w fv)) a.1)

pub inside_self : (w : ℕ) {n : ℕ} {f : Form} → WellFormed w n f → Inside w (In w f) f
inside_self w no_slots = tt
inside_self w (slot_on {n} {e} {t} {f} le ft fine) = ((1, ap (λ (z : ℕ). z % 2 ^ w) (omega arith), subst (In w f) (sym nought) (in_zero w fine)), inside_mono w fine (In w f) (Tail (In w (slot e t ∷ f))) (λ v fv i. (0, sym (by_zero w _ 0 (omega arith)), subst (In w f) (sym (less_zero w v t n fv ft)) i)) (inside_self w fine))
  where
    nought : less w t 1 t ≡ replicate n 0
    nought = ap (λ (z : List ℕ). less w z 1 t) (sym (times_one w t ft.small)) ∙ less_self w 1 t ∙ ap (λ (k : ℕ). replicate k 0) ft.sized

pub in_least : (w : ℕ) {n : ℕ} {f : Form} → WellFormed w n f → (S : List ℕ → Type 0) → Submodule w n S → Inside w S f → (u : List ℕ) → Fit w n u → In w f u → S u
in_least w no_slots S sub a u fu i = subst S (sym i) sub.zeros
in_least w (slot_on {n} {e} {t} {f} le ft fine) S sub a [] fu i = absurd i
in_least w (slot_on {n} {e} {t} {f} le ft fine) S sub a (x ∷ u) fu (k, is, i) = subst S (cons_≡ head (back w k u t ((fit_tail w fu).sized ∙ sym ft.sized) (fit_tail w fu).small)) (sub.add k (0 ∷ less w u k t) ((2 ^ e % 2 ^ w) ∷ t) (fit_nought w (fit_less w k (fit_tail w fu) ft)) (fit_cons w (mod_small w (2 ^ e)) ft) (in_least w fine (Tail S) (sub_tail w sub) a.1 (less w u k t) (fit_less w k (fit_tail w fu) ft) i) a.0)
  where
    head : (0 + (k * (2 ^ e % 2 ^ w)) % 2 ^ w) % 2 ^ w ≡ x
    head = rw is (simp push (simp pull (ap (red (2 ^ w)) (omega arith))))

-- a row inserted: the old span is in the new, and so is the row, and no more than both
module _ (w : ℕ) {n : ℕ} {f : Form} (fine : WellFormed w n f) (v : List ℕ) (fv : Fit w n v) where
  grown : Inside w (In w (insert w f v)) f × In w (insert w f v) v
  grown = (inside_insert w fine (In w (insert w f v)) v (in_sub w (fine_insert w fine v fv)) fv).0 (inside_self w (fine_insert w fine v fv))

  pub in_old : (u : List ℕ) → Fit w n u → In w f u → In w (insert w f v) u
  in_old u fu i = in_least w fine (In w (insert w f v)) (in_sub w (fine_insert w fine v fv)) grown.0 u fu i

  pub in_new : In w (insert w f v) v
  in_new = grown.1

  pub in_only : (S : List ℕ → Type 0) → Submodule w n S → Inside w S f → S v → (u : List ℕ) → Fit w n u → In w (insert w f v) u → S u
  in_only S sub a b u fu i = in_least w (fine_insert w fine v fv) S sub ((inside_insert w fine S v sub fv).1 (a, b)) u fu i

  -- just so often the row, and the rest in the old span
  abbrev pub With : List ℕ → Type 0
  With u = (k : ℕ) × In w f (less w u k v)

  with_sub : Submodule w n With
  with_sub = record {
    zeros = (0, subst (In w f) (sym (less_zero w (replicate n 0) v n (fit_zero w n) fv)) (in_zero w fine));
    add = λ k c d p q x y. (x.0 + k * y.0, subst (In w f) (less_plus w x.0 y.0 k c d v) (in_add w fine k (less w c x.0 v) (less w d y.0 v) x.1 y.1));
  }

  pub span_insert : (u : List ℕ) → Fit w n u → In w (insert w f v) u ↔ With u
  span_insert u fu = (λ i. in_only With with_sub (inside_mono w fine (In w f) With (λ v' fw i₁. (0, subst (In w f) (sym (less_zero w v' v n fw fv)) i₁)) (inside_self w fine)) (1, subst (In w f) (sym nought) (in_zero w fine)) u fu i, λ v'. subst (In w (insert w f v)) (back w v'.0 u v (fu.sized ∙ sym fv.sized) fu.small) (in_add w (fine_insert w fine v fv) v'.0 (less w u v'.0 v) v (in_old (less w u v'.0 v) (fit_less w v'.0 fu fv) v'.1) in_new))
    where
      nought : less w v 1 v ≡ replicate n 0
      nought = ap (λ (z : List ℕ). less w z 1 v) (sym (times_one w v fv.small)) ∙ less_self w 1 v ∙ ap (λ (k : ℕ). replicate k 0) fv.sized

-- Howell's property
pub cancel : (w k d e : ℕ) → d + e ≡ w → (k * 2 ^ e) % 2 ^ w ≡ 0 → (l : ℕ) × (k ≡ l * 2 ^ d)
cancel w k d e h g = (q, eq_of_mul-eq-mul_right (2 ^ e) (pow_pos e) k (q * 2 ^ d) (whole ∙ ap (λ (z : ℕ). q * z) (pow-add 2 d e) ∙ sym (mul_assoc q (2 ^ d) (2 ^ e))))
  where
    q : ℕ
    q = (k * 2 ^ e) / 2 ^ w

    whole : k * 2 ^ e ≡ q * 2 ^ (d + e)
    whole = rw h (omega (arith, div-add-mod (k * 2 ^ e) (2 ^ w), g))

-- what begins with 0 is in the span of the rest
pub howell_tail : (w : ℕ) {n : ℕ} {f : Form} {e : ℕ} {t : List ℕ} → WellFormed w n f → e ≤ w → Fit w n t → In w f (times w (2 ^ (w - e)) t)
    → (u : List ℕ) → Fit w n u → In w (slot e t ∷ f) (0 ∷ u) → In w f u
howell_tail w {n} {f} {e} {t} fine le ft h u fu (k, is, i) = subst (In w f) (ap (plus w (less w u k t)) again ∙ back w k u t (fu.sized ∙ sym ft.sized) fu.small) (in_add w fine l (less w u k t) (times w (2 ^ (w - e)) t) i h)
  where
    found : (l : ℕ) × (k ≡ l * 2 ^ (w - e))
    found = cancel w k (w - e) e (omega arith) (sym is)

    l : ℕ
    l = found.0

    again : times w l (times w (2 ^ (w - e)) t) ≡ times w k t
    again = times_times w l (2 ^ (w - e)) t ∙ ap (λ (z : ℕ). times w z t) (sym found.1)

turned : (w a b : ℕ) (t s : List ℕ) → length t ≡ length s → plus w (times w a t) (times w (neg w * a) (less w t b s)) ≡ times w (a * b) s
turned w a b [] [] e = refl
turned w a b [] (y ∷ s) e = absurd (omega arith)
turned w a b (x ∷ t) [] e = absurd (omega arith)
turned w a b (x ∷ t) (y ∷ s) e = cons_≡ (simp push (simp pull (simp out (by_both w _ _ (a * b * y) (a * x + neg w * (a * b * y)) (omega arith))))) (turned w a b t s (suc_inj e))

pub howell_insert : (w : ℕ) {n : ℕ} {f : Form} → WellFormed w n f → Howell w f → (v : List ℕ) → Fit w n v → Howell w (insert w f v)
unfolding insert
howell_insert w no_slots h v fv = tt
howell_insert w (slot_on le ft fine) h [] fv = h
howell_insert w (slot_on {n = m} {e} {t} {f} le ft fine) h (x ∷ v) fv = elim (dec_le e (count_trailing_zeros w x)) [ yes g ↦ rw (insert_big w e x t v f g) (in_old w fine (less w v (x / 2 ^ e) t) (fit_less w (x / 2 ^ e) (fit_tail w fv) ft) (times w (2 ^ (w - e)) t) (fit_times w (2 ^ (w - e)) ft) h.0, howell_insert w fine h.1 (less w v (x / 2 ^ e) t) (fit_less w (x / 2 ^ e) (fit_tail w fv) ft)) | no g ↦ rw (insert_new w e x t v f (omega arith)) (new (omega arith), howell_insert w fine h.1 old fit_old) ]
  where
    i : ℕ
    i = count_trailing_zeros w x

    s : List ℕ
    s = times w (inverse w (x / 2 ^ i)) v

    fit_s : Fit w m s
    fit_s = fit_times w (inverse w (x / 2 ^ i)) (fit_tail w fv)

    old : List ℕ
    old = less w t (2 ^ (e - i)) s

    fit_old : Fit w m old
    fit_old = fit_less w (2 ^ (e - i)) ft fit_s

    new : i < e → In w (insert w f old) (times w (2 ^ (w - i)) s)
    new g = subst (In w (insert w f old)) (turned w (2 ^ (w - e)) (2 ^ (e - i)) t s (ft.sized ∙ sym fit_s.sized) ∙ ap (λ (k : ℕ). times w k s) (sym (pow-add 2 (w - e) (e - i)) ∙ ap (λ (k : ℕ). 2 ^ k) sum_is)) (in_add w (fine_insert w fine old fit_old) (neg w * 2 ^ (w - e)) (times w (2 ^ (w - e)) t) old (in_old w fine old fit_old (times w (2 ^ (w - e)) t) (fit_times w (2 ^ (w - e)) ft) h.0) (in_new w fine old fit_old))
      where
        sum_is : (w - e) + (e - i) ≡ w - i
        sum_is = omega arith

-- the form that spans 0 only
pub fine_nothing : (w n : ℕ) → WellFormed w n (nothing w n)
fine_nothing w zero = no_slots
fine_nothing w (suc n) = slot_on (omega arith) (fit_zero w n) (fine_nothing w n)

pub howell_nothing : (w n : ℕ) → Howell w (nothing w n)
howell_nothing w zero = tt
howell_nothing w (suc n) = (subst (In w (nothing w n)) (sym (times_of_zero w (2 ^ (w - w)) n)) (in_zero w (fine_nothing w n)), howell_nothing w n)

pub inside_nothing : (w n : ℕ) → Inside w (λ (v : List ℕ). v ≡ replicate n 0) (nothing w n)
inside_nothing w zero = tt
inside_nothing w (suc n) = (cons_≡ (mod_self (2 ^ w)) refl, inside_mono w (fine_nothing w n) (λ (v : List ℕ). v ≡ replicate n 0) (λ (v : List ℕ). ◌≡◌ {A = List ℕ} (0 ∷ v) (0 ∷ replicate n 0)) (λ v fv e. cons_≡ refl e) (inside_nothing w n))

pub in_nothing : (w n : ℕ) (u : List ℕ) → Fit w n u → In w (nothing w n) u → u ≡ replicate n 0
in_nothing w n u fu i = in_least w (fine_nothing w n) (λ (v : List ℕ). v ≡ replicate n 0) sub (inside_nothing w n) u fu i
  where
    sub : Submodule w n (λ (v : List ℕ). v ≡ replicate n 0)
    sub = record { zeros = refl; add = λ k c d p q x y. rw (x, y, times_of_zero w k n) (zero_plus_zero w n) }
