-- How the steps of a program are written: for each point its name, and below it the steps that start there.
use Rattle.std.specs.Prelude.{ℕ, zero, suc, Bool, true, false, cond, List, [], ◌∷◌, ◌++◌, codes, Option, ◌==◌}
use Rattle.programs.specs.Programs.{Action, set, any, skip, Step}
use Rattle.listing.specs.Names.{with_name}
use Rattle.listing.specs.Sums.{with_sum}

-- the word that becomes something
abbrev pub with_target : Option (List ℕ) → ℕ → List ℕ → List ℕ
with_target words x out = with_name words 120 x (out ++ codes " : ") ++ codes " := "

abbrev pub with_action : Option (List ℕ) → Action → List ℕ → List ℕ
with_action words (set x cs) out = with_sum words cs (with_target words x out)
with_action words (any x) out = with_target words x out ++ codes "?"
with_action words skip out = out

abbrev pub with_step : Option (List ℕ) → Option (List ℕ) → Step → List ℕ → List ℕ
with_step words points s out = with_action words s.action (with_name points 112 s.to (out ++ codes "  -> ")) ++ (10 ∷ [])

-- the steps that start from a point; `first` says that none has been written
abbrev pub with_steps : Option (List ℕ) → Option (List ℕ) → ℕ → Bool → List Step → List ℕ → List ℕ
with_steps words points point first [] out = cond first (out ++ codes "  no steps\n") out
with_steps words points point first (s ∷ ss) out = cond (s.from == point) (with_steps words points point false ss (with_step words points s out)) (with_steps words points point first ss out)

-- n points from i on
abbrev pub with_points : Option (List ℕ) → Option (List ℕ) → List Step → ℕ → ℕ → List ℕ → List ℕ
with_points words points ss zero i out = out
with_points words points ss (suc n) i out = with_points words points ss n (suc i) (with_steps words points i true ss (with_name points 112 i out ++ (10 ∷ [])))
