-- A text of numbers as one writes it: each number in decimal, and a byte of white space behind it.
use Rattle.std.specs.Prelude.{◌≡◌, ℕ, ◌<◌, true, List, [], ◌∷◌, ◌++◌, map, decimal}
use Rattle.text.specs.Bytes.{white}

pub record Entry : Type 0 where
  pub number : ℕ
  pub space : ℕ

abbrev pub written : List Entry → List ℕ
written [] = []
written (e ∷ es) = decimal e.number ++ (e.space ∷ written es)

-- each number is below 2^32, and white space follows it
abbrev pub Proper : List Entry → Type 0
Proper [] = Unit {0}
Proper (e ∷ es) = (e.number < 4294967296) × (white e.space ≡ true) × Proper es

abbrev pub numbers_of : List Entry → List ℕ
numbers_of es = map (λ e. e.number) es
