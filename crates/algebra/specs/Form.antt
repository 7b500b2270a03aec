-- Howell forms: a slot for each place, with the exponent of the pivot that stands there and the rest of the pivot's row.
-- Exponent w (pivot 2 ^ w, which is 0) means that the place has no row, so that there is no case apart.
use Rattle.std.specs.Prelude.{◌≡◌, true, false, List, [], ◌∷◌, ℕ, zero, suc, ◌+◌, ◌*◌, ◌%◌, ◌/◌, ◌-◌, ◌^◌, ◌≤◌, replicate, leb}
use Rattle.std.specs.Int.Count.{count_trailing_zeros}
use Rattle.algebra.specs.Vec.{times, less}
use Rattle.algebra.specs.Span.{Fit}
use Rattle.algebra.specs.Inverse.{inverse}

pub record Slot : Type 0 where
  pub exp : ℕ
  pub rest : List ℕ

abbrev pub slot : ℕ → List ℕ → Slot
slot e t = record { exp = e; rest = t }

abbrev pub Form : Type 0
Form = List Slot

-- a vector inserted into a form: at each place the row with more zeros below is reduced by the other, and goes on
unfoldable pub insert : ℕ → Form → List ℕ → Form
insert w [] v = []
insert w (s ∷ f) [] = s ∷ f
insert w (s ∷ f) (x ∷ v) =
    let i : ℕ = count_trailing_zeros w x in
    elim (leb s.exp i) [
      | true ↦ s ∷ insert w f (less w v (x / 2 ^ s.exp) s.rest)
      | false ↦ (let new : List ℕ = times w (inverse w (x / 2 ^ i)) v in slot i new ∷ insert w f (less w s.rest (2 ^ (s.exp - i)) new))
    ]

unfoldable pub grow : ℕ → Form → List (List ℕ) → Form
grow w f [] = f
grow w f (v ∷ vs) = grow w (insert w f v) vs

-- a form of n places
pub data WellFormed (w : ℕ) : ℕ → Form → Type 0 where
  no_slots : WellFormed w 0 []
  slot_on : {n e : ℕ} {t : List ℕ} {f : Form} → e ≤ w → Fit w n t → WellFormed w n f → WellFormed w (suc n) (slot e t ∷ f)

-- what a form spans: so many times the first row, and the rest in the span of the others
abbrev pub In : ℕ → Form → List ℕ → Type 0
In w [] v = v ≡ []
In w (s ∷ f) [] = ⊥
In w (s ∷ f) (x ∷ v) = (k : ℕ) × (x ≡ (k * 2 ^ s.exp) % 2 ^ w) × In w f (less w v k s.rest)

-- Howell's property: the multiple of a row that makes its pivot 0 is in the span of the later rows
abbrev pub Howell : ℕ → Form → Type 0
Howell w [] = Unit
Howell w (s ∷ f) = In w f (times w (2 ^ (w - s.exp)) s.rest) × Howell w f

-- the exponents added up: the weight falls where a form changes
abbrev pub weight : Form → ℕ
weight [] = 0
weight (s ∷ f) = s.exp + weight f

-- the form that spans 0 only, and the one that spans everything
abbrev pub nothing : ℕ → ℕ → Form
nothing w zero = []
nothing w (suc n) = slot w (replicate n 0) ∷ nothing w n

abbrev pub everything : ℕ → Form
everything zero = []
everything (suc n) = slot 0 (replicate n 0) ∷ everything n

-- the form of rows of n places
abbrev pub form_of : ℕ → ℕ → List (List ℕ) → Form
form_of w n vs = grow w (nothing w n) vs

-- the rows of the slots, whole
unfoldable pub shift : List (List ℕ) → List (List ℕ)
shift [] = []
shift (r ∷ rs) = (0 ∷ r) ∷ shift rs

unfoldable pub full : ℕ → Form → List (List ℕ)
unfolding shift
full w [] = []
full w (s ∷ f) = ((2 ^ s.exp % 2 ^ w) ∷ s.rest) ∷ shift (full w f)
