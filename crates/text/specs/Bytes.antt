-- Kinds of bytes, and the bytes before the first of a kind.
use Rattle.std.specs.Prelude.{ℕ, Bool, cond, ◌&&◌, ◌||◌, List, [], ◌∷◌, ◌==◌, nat_le}

-- a tab, a line feed, a carriage return or a space
abbrev pub white : ℕ → Bool
white b = b == 9 || (b == 10 || (b == 13 || b == 32))

abbrev pub digit : ℕ → Bool
digit b = nat_le 48 b && nat_le b 57

abbrev pub feed : ℕ → Bool
feed b = b == 10

-- the bytes before the first of which `stop` holds
abbrev pub before : (ℕ → Bool) → List ℕ → List ℕ
before stop [] = []
before stop (b ∷ bs) = cond (stop b) [] (b ∷ before stop bs)
