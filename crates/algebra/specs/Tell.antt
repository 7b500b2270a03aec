-- The annihilator of a Howell form by substitution, place by place, with no second elimination.
-- A form has its places in the other order (the last word's first), so that rows told get a place at their end.
use Rattle.std.specs.Prelude.{◌≡◌, List, [], ◌∷◌, ◌++◌, ℕ, zero, suc, ◌*◌, ◌%◌, ◌/◌, ◌-◌, ◌^◌, length, replicate}
use Rattle.algebra.specs.Vec.{neg, dot, snoc, flip, flips}
use Rattle.algebra.specs.Span.{Fit}
use Rattle.algebra.specs.Form.{Slot, Form, In, form_of}

-- what a row of the later slots' annihilator gets at the slot's place: the least number that makes the slot's row come to 0
unfoldable pub extra : ℕ → Slot → List ℕ → ℕ
extra w s r = (neg w * (dot w r (flip s.rest) / 2 ^ s.exp)) % 2 ^ (w - s.exp)

unfoldable pub extend : (List ℕ → ℕ) → List (List ℕ) → List (List ℕ)
extend g [] = []
extend g (r ∷ rs) = snoc r (g r) ∷ extend g rs

-- the row that has its lead at the slot's place
unfoldable pub final : ℕ → ℕ → ℕ → List (List ℕ)
final w zero n = []
final w (suc e) n = snoc (replicate n 0) (2 ^ (w - suc e)) ∷ []

unfoldable pub tell : ℕ → Form → List (List ℕ)
unfolding extend final
tell w [] = []
tell w (s ∷ f) = extend (extra w s) (tell w f) ++ final w s.exp (length f)

-- the annihilator of rows of n places; and the rows of their span in Howell's reduced form, the annihilator's annihilator
unfoldable pub annihilator : ℕ → ℕ → List (List ℕ) → List (List ℕ)
unfolding tell
annihilator w n rs = tell w (form_of w n (flips rs))

unfoldable pub howell_rows : ℕ → ℕ → List (List ℕ) → List (List ℕ)
unfolding annihilator
howell_rows w n rs = annihilator w n (annihilator w n rs)

-- c annihilates what a form spans
pub record Annihilates (w n : ℕ) (f : Form) (c : List ℕ) : Type 0 where
  pub fits : Fit w n c
  pub kills : (v : List ℕ) → Fit w n v → In w f v → dot w c (flip v) ≡ 0
