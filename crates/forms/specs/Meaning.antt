-- What the table of n places at the word `at` of the words ws means. Rows and laws are in natural order, the number's place
-- first, so that a form, which has its last place first, is asked for their flip.
use Rattle.std.specs.Prelude.{ℕ, List}
use Rattle.algebra.specs.Vec.{flip}
use Rattle.algebra.specs.Form.{In, Howell}
use Rattle.forms.specs.Flat.{form_at}

-- the row u is a sum of the table's rows
abbrev pub Spans : ℕ → ℕ → ℕ → List ℕ → List ℕ → Type 0
Spans w n at ws u = In w (form_at w n at ws) (flip u)

-- the table has Howell's property
abbrev pub HowellAt : ℕ → ℕ → ℕ → List ℕ → Type 0
HowellAt w n at ws = Howell w (form_at w n at ws)
