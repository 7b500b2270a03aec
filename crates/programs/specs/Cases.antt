-- Worked programs of 32-bit words: what is proved of the definitions by computing.
use Rattle.std.specs.Prelude.{◌≡◌, ℕ, List, [], ◌∷◌}
use Rattle.algebra.specs.Vec.{dot, sum}
use Rattle.programs.specs.Programs.{Action, set, any, skip, Step, Program, Reads}
use Rattle.programs.specs.Runs.{Comes, Law}
use Rattle.programs.specs.Kept.{mix}
use Rattle.programs.specs.Plain.{base}

abbrev pub step : ℕ → ℕ → Action → Step
step from to action = record { from = from; to = to; action = action }

-- 0 to 4 to 1: both words 0; 1 to 3 to 1: 2 more and 3 more; 1 to 2: out
abbrev pub counters : Program
counters = record {
  words = 2;
  points = 5;
  steps =
      step 0 4 (set 0 (0 ∷ 0 ∷ 0 ∷ []))
      ∷ step 4 1 (set 1 (0 ∷ 0 ∷ 0 ∷ []))
      ∷ step 1 3 (set 0 (2 ∷ 1 ∷ 0 ∷ []))
      ∷ step 3 1 (set 1 (3 ∷ 0 ∷ 1 ∷ []))
      ∷ step 1 2 skip
      ∷ [];
}

-- 0 to 1: x becomes 2 x; 1 to 0: back
abbrev pub doubling : Program
doubling = record { words = 1; points = 2; steps = step 0 1 (set 0 (0 ∷ 2 ∷ [])) ∷ step 1 0 skip ∷ [] }

-- 0 to 1: x becomes 5 and 3 x; 1 to 0: x becomes anything
abbrev pub two_steps : Program
two_steps = record { words = 1; points = 2; steps = step 0 1 (set 0 (5 ∷ 3 ∷ [])) ∷ step 1 0 (any 0) ∷ [] }

-- 3 x - 2 y, and half of the modulus times x
abbrev pub three_two : List ℕ
three_two = 0 ∷ 3 ∷ 4294967294 ∷ []

abbrev pub even : List ℕ
even = 0 ∷ 2147483648 ∷ []

pub record Cases : Type 0 where
  -- the loop after one round and after two, and the law at both
  pub round_1 : Comes 32 [] counters 1 (2 ∷ 3 ∷ [])
  pub round_2 : Comes 32 [] counters 1 (4 ∷ 6 ∷ [])
  pub law_1 : dot 32 three_two (1 ∷ 2 ∷ 3 ∷ []) ≡ 0
  pub law_2 : dot 32 three_two (1 ∷ 4 ∷ 6 ∷ []) ≡ 0
  -- and at every state that comes there
  pub law : Law 32 [] counters 1 three_two
  -- 6 comes behind the doubling and is even; 7 is not. All that comes there is even, so 7 does not come
  pub six : Comes 32 [] doubling 1 (6 ∷ [])
  pub even_6 : dot 32 even (1 ∷ 6 ∷ []) ≡ 0
  pub odd_7 : dot 32 even (1 ∷ 7 ∷ []) ≡ 0 → ⊥
  pub even_law : Law 32 [] doubling 1 even
  pub seven : Comes 32 [] doubling 1 (7 ∷ []) → ⊥
  -- a sum of rows; and 2 times (2, 3) less once (0, 0) is (4, 6)
  pub rows : sum 32 3 (2 ∷ 1 ∷ []) ((1 ∷ 0 ∷ 5 ∷ []) ∷ (0 ∷ 4 ∷ 4294967290 ∷ []) ∷ []) ≡ 2 ∷ 4 ∷ 4 ∷ []
  pub states : mix 32 2 (2 ∷ 4294967295 ∷ []) ((2 ∷ 3 ∷ []) ∷ (0 ∷ 0 ∷ []) ∷ []) ≡ 1 ∷ 4 ∷ 6 ∷ []
  -- the words of a program: they are its words, and it is a program
  pub words : Reads base (1 ∷ 2 ∷ 2 ∷ 0 ∷ 1 ∷ 0 ∷ 0 ∷ 5 ∷ 3 ∷ 1 ∷ 0 ∷ 1 ∷ 0 ∷ []) two_steps
