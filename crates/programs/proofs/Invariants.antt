-- laws of two worked programs, by a row for each point that every step keeps
use Rattle.std.proofs.Common.{◌≡◌, ℕ, zero, suc, ◌*◌, ◌%◌, List, [], ◌∷◌, length, refl, ap, ◌∙◌}
use Rattle.algebra.specs.Vec.{dot}
use Rattle.algebra.proofs.Sums.{times_dot}
use Rattle.algebra.proofs.Tell.{zero_dot}
use Rattle.programs.specs.Runs.{State, makes_set, makes_skip, at_first, at_later, Move, Run, begins, goes, Law}
use Rattle.programs.specs.Kept.{set_map, put_in}
use Rattle.programs.specs.Cases.{counters, doubling, three_two, even}
use Rattle.programs.proofs.States.{fit_run}
use Rattle.programs.proofs.Adjoint.{adjoint}

-- a state behind a step that sets a word: its row comes to what the row with the step put in comes to before
behind : (k x : ℕ) (cs c s : List ℕ) → length cs ≡ suc k → length c ≡ suc k → length s ≡ k → dot 32 c (set_map 32 x cs (1 ∷ s)) ≡ dot 32 (put_in 32 x cs c) (1 ∷ s)
behind k x cs c s ls lc lk = adjoint 32 k x cs c (1 ∷ s) ls lc (ap suc lk)

-- the row of each point of the counters
abbrev row_of : ℕ → List ℕ
row_of zero = 0 ∷ 0 ∷ 0 ∷ []
row_of (suc zero) = three_two
row_of (suc (suc zero)) = three_two
row_of (suc (suc (suc zero))) = 4294967290 ∷ 3 ∷ 4294967294 ∷ []
row_of (suc (suc (suc (suc n)))) = 0 ∷ 1 ∷ 0 ∷ []

kept : {ms : List Move} {n : ℕ} {s : State} → Run 32 [] counters ms n s → dot 32 (row_of n) (1 ∷ s) ≡ 0
kept (begins {s} h g) = zero_dot 32 3 (1 ∷ s)
kept (goes {s} r at_first makes_set) = behind 2 0 (0 ∷ 0 ∷ 0 ∷ []) (row_of 4) s refl refl (fit_run 32 r).sized ∙ zero_dot 32 3 (1 ∷ s)
kept (goes {s} r (at_later at_first) makes_set) =
    behind 2 1 (0 ∷ 0 ∷ 0 ∷ []) (row_of 1) s refl refl (fit_run 32 r).sized
    ∙ times_dot 32 3 (row_of 4) (1 ∷ s)
    ∙ ap (λ (z : ℕ). (3 * z) % 4294967296) (kept r)
kept (goes {s} r (at_later (at_later at_first)) makes_set) = behind 2 0 (2 ∷ 1 ∷ 0 ∷ []) (row_of 3) s refl refl (fit_run 32 r).sized ∙ kept r
kept (goes {s} r (at_later (at_later (at_later at_first))) makes_set) = behind 2 1 (3 ∷ 0 ∷ 1 ∷ []) (row_of 1) s refl refl (fit_run 32 r).sized ∙ kept r
kept (goes r (at_later (at_later (at_later (at_later at_first)))) makes_skip) = kept r
kept (goes r (at_later (at_later (at_later (at_later (at_later a))))) m) = elim a [ ]

pub three_two_law : Law 32 [] counters 1 three_two
three_two_law = record { fits = record { sized = refl; small = tt }; holds = λ s c. kept c.run }

-- the row of each point of the doubling
abbrev parity : ℕ → List ℕ
parity zero = 0 ∷ 0 ∷ []
parity (suc n) = even

doubled : {ms : List Move} {n : ℕ} {s : State} → Run 32 [] doubling ms n s → dot 32 (parity n) (1 ∷ s) ≡ 0
doubled (begins {s} h g) = zero_dot 32 2 (1 ∷ s)
doubled (goes {s} r at_first makes_set) = behind 1 0 (0 ∷ 2 ∷ []) even s refl refl (fit_run 32 r).sized ∙ zero_dot 32 2 (1 ∷ s)
doubled (goes {s} r (at_later at_first) makes_skip) = zero_dot 32 2 (1 ∷ s)
doubled (goes r (at_later (at_later a)) m) = elim a [ ]

pub even_law : Law 32 [] doubling 1 even
even_law = record { fits = record { sized = refl; small = tt }; holds = λ s c. doubled c.run }
