-- How a word or a point is named, and whether there are as many names as it takes. A function that writes takes what is written before, and gives it with more behind.
use Rattle.std.specs.Prelude.{◌≡◌, ℕ, List, [], ◌∷◌, ◌++◌, length, Some, None, Ok, Err, codes, decimal, Option, Result, ◌≢◌}
use Rattle.std.specs.Borrow.{Bor}
use Rattle.std.specs.List.{slice_get}
use Rattle.std.specs.Option.{option_map}
use Rattle.text.specs.Lines.{names_of}
use Rattle.text.specs.Tokens.{tokens}

-- what a line holds, where there is one
abbrev pub line_of : Option (Bor (List ℕ)) → Option (List ℕ)
line_of l = option_map (λ x. x.now) l

-- the name, or a letter and a number
abbrev pub with_named : Option (List ℕ) → ℕ → ℕ → List ℕ → List ℕ
with_named None letter i out = (out ++ (letter ∷ [])) ++ decimal i
with_named (Some n) letter i out = out ++ n

abbrev pub name_of : Option (List ℕ) → ℕ → Option (List ℕ)
name_of None i = None
name_of (Some line) i = slice_get (tokens line) i

abbrev pub with_name : Option (List ℕ) → ℕ → ℕ → List ℕ → List ℕ
with_name line letter i out = with_named (name_of line i) letter i out

-- a line of names, if there is one, has so many; or it has another number of them
abbrev pub Fitting : Option (List ℕ) → ℕ → Type 0
Fitting None k = Unit {0}
Fitting (Some l) k = length (tokens l) ≡ k

abbrev pub Misfit : Option (List ℕ) → ℕ → ℕ → Type 0
Misfit None k n = ⊥
Misfit (Some l) k n = (length (tokens l) ≡ n) × (n ≢ k)

abbrev pub FitSays : Option (List ℕ) → ℕ → Result (Unit {0}) ℕ → Type 0
FitSays l k (Ok _) = Fitting l k
FitSays l k (Err n) = Misfit l k n

-- the lines of names of a text
abbrev pub word_names : List ℕ → Option (List ℕ)
word_names text = names_of (codes "words") text

abbrev pub point_names : List ℕ → Option (List ℕ)
point_names text = names_of (codes "points") text
