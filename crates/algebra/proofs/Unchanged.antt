-- an insertion changes nothing exactly if the vector is in the form's span
use mathlib.Core.Path.{◌≡◌, refl, sym, ap, ◌∙◌, subst}
use mathlib.Core.Logic.{◌↔◌}
use mathlib.Core.List.{List, [], ◌∷◌}
use Prim.Native.Nat.{ℕ, zero, suc, ◌+◌, ◌*◌, ◌%◌, ◌/◌, ◌-◌, ◌^◌, ◌≤◌}
use native.Mathlib.Nat.{pow-suc}
use native.Mathlib.Omega.{arith}
use lib.Count.{count_trailing_zeros}
use Rattle.algebra.specs.Vec.{less}
use Rattle.algebra.specs.Span.{Fit}
use Rattle.algebra.specs.Form.{slot, Form, insert, WellFormed, no_slots, slot_on, In, Howell}
use Rattle.algebra.proofs.Units.{quotient}
use Rattle.algebra.proofs.Fit.{fit_less, fit_tail}
use Rattle.algebra.proofs.Insert.{insert_big, big_from}
use Rattle.algebra.proofs.FormSpans.{in_sub, in_first, in_new, howell_tail}
use Rattle.algebra.proofs.Tell.{scale}

-- a multiple of 2 ^ e has e zeros below
multiple_zeros : (w e l x : ℕ) → e ≤ w → x ≡ l * 2 ^ e → e ≤ count_trailing_zeros w x
unfolding count_trailing_zeros
multiple_zeros w zero l x h is = omega arith
multiple_zeros zero (suc e) l x h is = absurd (omega arith)
multiple_zeros (suc w) (suc e) l x h is = rw even (omega (arith, multiple_zeros w e l (x / 2) (omega arith) half))
  where
    twice : x ≡ 2 * (l * 2 ^ e)
    twice = is ∙ ap (λ (z : ℕ). l * z) (pow-suc 2 e) ∙ omega arith

    even : x % 2 ≡ 0
    even = omega (arith, twice)

    half : x / 2 ≡ l * 2 ^ e
    half = omega (arith, twice)

-- what the span has begins with a multiple of the pivot, and what is left of it is in the span of the rest
unchanged : (w : ℕ) {n : ℕ} {f : Form} → WellFormed w n f → Howell w f → (v : List ℕ) → Fit w n v → In w f v → insert w f v ≡ f
unfolding insert
unchanged w no_slots h v fv i = refl
unchanged w (slot_on le ft fine) h [] fv i = absurd i
unchanged w (slot_on {n} {e} {t} {f} le ft fine) h (x ∷ v) fv i =
    insert_big w e x t v f zeros
    ∙ ap {A = Form} {B = Form} (λ (g : Form). slot e t ∷ g) (unchanged w fine h.1 (less w v (x / 2 ^ e) t) (fit_less w (x / 2 ^ e) (fit_tail w fv) ft) rest)
  where
    zeros : e ≤ count_trailing_zeros w x
    zeros = multiple_zeros w e (i.0 % 2 ^ (w - e)) x le (i.1 ∙ sym (scale (w - e) e i.0 ∙ ap (λ (z : ℕ). (i.0 * 2 ^ e) % 2 ^ z) (let q : w - e + e ≡ w = omega arith in q)))

    left : In w (slot e t ∷ f) (0 ∷ less w v (x / 2 ^ e) t)
    left = big_from w (in_sub w (slot_on le ft fine)) e x (x / 2 ^ e) t v (quotient w e x zeros) ft fv (in_first w e fine ft) i

    rest : In w f (less w v (x / 2 ^ e) t)
    rest = howell_tail w fine le ft h.0 (less w v (x / 2 ^ e) t) (fit_less w (x / 2 ^ e) (fit_tail w fv) ft) left

pub unchanged_spanned : (w n : ℕ) (f : Form) (v : List ℕ) → WellFormed w n f → Howell w f → Fit w n v → (insert w f v ≡ f) ↔ In w f v
unchanged_spanned w n f v fine h fv = (λ e. subst (λ (g : Form). In w g v) e (in_new w fine v fv), unchanged w fine h v fv)
