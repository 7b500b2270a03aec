-- What the reader of programs promises.
use Rattle.std.specs.Prelude.{◌≡◌, ℕ, suc, ◌+◌, ◌<◌, ◌≤◌, T, ◌⊎◌, List, ◌∷◌, ◌++◌, length, take, drop, Ok, Err, Result, ◌≢◌, slice_index}
use Rattle.programs.specs.declared.step.Action as code_action
use Rattle.programs.specs.declared.step.Action.TheVariants.{Set, Any, Skip}
use Rattle.programs.specs.declared.step.Step as code_step
use Rattle.programs.specs.declared.step.Limits as code_limits
use Rattle.programs.specs.declared.step.Header.{Header}
use Rattle.programs.specs.declared.step.Wrong.{Wrong}
use Rattle.programs.specs.declared.step.Fault.{Fault}
use Rattle.programs.specs.declared.step.Fault.TheVariants.{Ends, Words, Points, Steps, Point, Kind, Word, Longer}
use Rattle.programs.specs.Programs.{Limits, Action, set, any, skip, Step, Program, valid_step, valid_steps, valid, encode_step, encode_steps, encode, Reads, OneProgram}

-- what values of the code stand for; its numbers are words of 32 bits
abbrev pub action_of : code_action.Action → Action
action_of (Set x cs) = set x cs.now
action_of (Any x) = any x
action_of Skip = skip

abbrev pub step_of : code_step.Step → Step
step_of s = record { from = s.from; to = s.to; action = action_of s.action }

abbrev pub bound : ℕ
bound = 4294967296

abbrev pub limits_of : code_limits.Limits → Limits
limits_of l = record { max_words = l.words; max_points = l.points; max_steps = l.steps; bound = bound }

-- a valid step stands at the beginning of the words, and takes n of them
pub record Starts (k m : ℕ) (ws : List ℕ) (s : Step) (n : ℕ) : Type 0 where
  pub valid : T (valid_step bound k m s)
  pub is : ws ≡ encode_step s ++ drop n ws
  pub size : length (encode_step s) ≡ n
  pub within : n ≤ length ws

-- what is wrong with a step at the word `at` of its words
abbrev pub StepFault : ℕ → ℕ → List ℕ → ℕ → Fault → Type 0
StepFault k m ws at Ends = at ≡ length ws
StepFault k m ws at Point = (at < 2) × (m ≤ slice_index ws at)
StepFault k m ws at Kind = (at ≡ 2) × (2 < slice_index ws at)
StepFault k m ws at Word = (at ≡ 3) × (k ≤ slice_index ws at)
StepFault k m ws at Words = ⊥
StepFault k m ws at Points = ⊥
StepFault k m ws at Steps = ⊥
StepFault k m ws at Longer = ⊥

-- no valid step stands at the beginning of the words, and `at` is the first word that shows it: some valid step has the
-- words before it, and none has it too. So `at` is the only such place
pub record NoStep (k m : ℕ) (ws : List ℕ) (at : ℕ) (fault : Fault) : Type 0 where
  pub within : at ≤ length ws
  pub refutes : (s : Step) (rest : List ℕ) → T (valid_step bound k m s) → take (suc at) (encode_step s ++ rest) ≢ take (suc at) ws
  pub begins : 0 < k → 0 < m → (s : Step) × T (valid_step bound k m s) × (at ≤ length (encode_step s)) × (take at (encode_step s) ≡ take at ws)
  pub why : StepFault k m ws at fault

abbrev pub StepSays : ℕ → ℕ → List ℕ → Result (code_step.Step × ℕ) Wrong → Type 0
StepSays k m ws (Ok x) = Starts k m ws (step_of x.0) x.1
StepSays k m ws (Err e) = NoStep k m ws e.at e.fault

-- the words begin with a header of k words, m points and n steps, and with the steps ss, which end before the word a
pub record Before (z : Limits) (ws : List ℕ) (k m n : ℕ) (ss : List Step) (a : ℕ) : Type 0 where
  pub words : (1 ≤ k) × (k ≤ z.max_words)
  pub points : (1 ≤ m) × (m ≤ z.max_points)
  pub steps : n ≤ z.max_steps
  pub many : length ss ≤ n
  pub valid : T (valid_steps z.bound k m ss)
  pub is : take a ws ≡ k ∷ m ∷ n ∷ encode_steps ss
  pub size : 3 + length (encode_steps ss) ≡ a
  pub within : a ≤ length ws

-- what is wrong with a program at the word `at`
abbrev pub ProgramFault : Limits → List ℕ → ℕ → Fault → Type 0
ProgramFault z ws at Ends = at ≡ length ws
ProgramFault z ws at Words = (at ≡ 0) × ((slice_index ws 0 ≡ 0) ⊎ (z.max_words < slice_index ws 0))
ProgramFault z ws at Points = (at ≡ 1) × ((slice_index ws 1 ≡ 0) ⊎ (z.max_points < slice_index ws 1))
ProgramFault z ws at Steps = (at ≡ 2) × (z.max_steps < slice_index ws 2)
ProgramFault z ws at Point = (k m n : ℕ) × (ss : List Step) × (a : ℕ) × (i : ℕ) × Before z ws k m n ss a × (at ≡ a + i) × StepFault k m (drop a ws) i Point
ProgramFault z ws at Kind = (k m n : ℕ) × (ss : List Step) × (a : ℕ) × (i : ℕ) × Before z ws k m n ss a × (at ≡ a + i) × StepFault k m (drop a ws) i Kind
ProgramFault z ws at Word = (k m n : ℕ) × (ss : List Step) × (a : ℕ) × (i : ℕ) × Before z ws k m n ss a × (at ≡ a + i) × StepFault k m (drop a ws) i Word
ProgramFault z ws at Longer = (p : Program) × T (valid z p) × (encode p ≡ take at ws) × (at < length ws)

-- the words are no program, and `at` is the first word that shows it: some program has the words before it, and none has
-- it too. So `at` is the only such place
pub record NoProgram (z : Limits) (ws : List ℕ) (at : ℕ) (fault : Fault) : Type 0 where
  pub none : (p : Program) → Reads z ws p → ⊥
  pub within : at ≤ length ws
  pub refutes : (p : Program) → T (valid z p) → take (suc at) (encode p) ≢ take (suc at) ws
  pub begins : 1 ≤ z.max_words → 1 ≤ z.max_points → (p : Program) × T (valid z p) × (at ≤ length (encode p)) × (take at (encode p) ≡ take at ws)
  pub why : ProgramFault z ws at fault

-- where each of the steps begins, as far as there is room for it; what stands behind is unchanged
pub record Started (ss : List Step) (o o' : List ℕ) : Type 0 where
  pub len : length o' ≡ length o
  pub here : (j : ℕ) → j < length ss → j < length o → slice_index o' j ≡ 3 + length (encode_steps (take j ss))
  pub later : (j : ℕ) → length ss ≤ j → slice_index o' j ≡ slice_index o j

-- what a refusal leaves: the starts of the steps that stand whole before the word `at`, if the header does
abbrev pub Left : Limits → List ℕ → ℕ → List ℕ → List ℕ → Type 0
Left z ws at o o' = ((at < 3) × (o' ≡ o)) ⊎ ((k m n : ℕ) × (ss : List Step) × (a : ℕ) × Before z ws k m n ss a × (a ≤ at) × Started ss o o')

abbrev pub ReadSays : Limits → List ℕ → List ℕ → List ℕ → Result Header Wrong → Type 0
ReadSays z ws o o' (Ok h) = (p : Program) × Reads z ws p × (h.words ≡ p.words) × (h.points ≡ p.points) × (h.steps ≡ length p.steps) × Started p.steps o o'
ReadSays z ws o o' (Err e) = NoProgram z ws e.at e.fault × Left z ws e.at o o'

-- the promise of the reading call
pub record ReadPost (z : Limits) (ws o o' : List ℕ) (r : Result Header Wrong) : Type 0 where
  pub says : ReadSays z ws o o' r
  pub one_program : OneProgram z
