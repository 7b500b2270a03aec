-- The tokens of a text: its longest runs of bytes that are not white space.
use Rattle.std.specs.Prelude.{ℕ, Bool, false, cond, not, ◌&&◌, List, [], ◌∷◌}
use Rattle.text.specs.Bytes.{white, before}

abbrev pub word : List ℕ → List ℕ
word bs = before white bs

abbrev pub black : ℕ → Bool
black b = not (white b)

-- the tokens that begin in what is left of a text; `inside` says that the byte before is part of one
abbrev pub tokens_from : Bool → List ℕ → List (List ℕ)
tokens_from inside [] = []
tokens_from inside (b ∷ bs) = cond (black b && not inside) (word (b ∷ bs) ∷ tokens_from (black b) bs) (tokens_from (black b) bs)

abbrev pub tokens : List ℕ → List (List ℕ)
tokens bs = tokens_from false bs
