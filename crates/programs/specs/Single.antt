-- What the reading of a single word, and of the three counts, promises.
use Rattle.std.specs.Prelude.{◌≡◌, ℕ, ◌+◌, ◌<◌, ◌≤◌, ◌⊎◌, List, [], length, take, drop, Ok, Err, Result, slice_index, slice_index_or}
use Rattle.std.specs.declared.ops.Bound.{Bound}
use Rattle.std.specs.Range.Bound.{MatchBound}
use Rattle.programs.specs.declared.step.Header.{Header}
use Rattle.programs.specs.declared.step.Wrong.{Wrong}
use Rattle.programs.specs.declared.step.Fault.{Fault}
use Rattle.programs.specs.declared.step.Fault.TheVariants.{Ends}
use Rattle.programs.specs.Programs.{Limits}
use Rattle.programs.specs.Reading.{Before, NoProgram}

-- the word `at` is not there
pub record Missing (ws : List ℕ) (at : ℕ) (e : Wrong) : Type 0 where
  pub here : e.at ≡ at
  pub fault : e.fault ≡ Ends
  pub ends : at ≡ length ws

-- it is there, and is n
pub record There (ws : List ℕ) (at n : ℕ) : Type 0 where
  pub within : at < length ws
  pub is : slice_index_or ws at 0 ≡ n

abbrev pub WordSays : List ℕ → ℕ → Result ℕ Wrong → Type 0
WordSays ws at (Ok n) = There ws at n
WordSays ws at (Err e) = Missing ws at e

-- n is in the range with these ends; it is outside
abbrev pub InRange : Bound ℕ → Bound ℕ → ℕ → Type 0
InRange start end n = MatchBound start (λ a. a ≤ n) (λ a. a < n) (Unit {0}) × MatchBound end (λ b. n ≤ b) (λ b. n < b) (Unit {0})

abbrev pub OutOfRange : Bound ℕ → Bound ℕ → ℕ → Type 0
OutOfRange start end n = MatchBound start (λ a. n < a) (λ a. n ≤ a) ⊥ ⊎ MatchBound end (λ b. b < n) (λ b. b ≤ n) ⊥

-- it is n, in the range; or it is outside
pub record Inside (ws : List ℕ) (at : ℕ) (start end : Bound ℕ) (n : ℕ) : Type 0 where
  pub within : at < length ws
  pub is : slice_index_or ws at 0 ≡ n
  pub inside : InRange start end n

pub record Outside (ws : List ℕ) (at : ℕ) (start end : Bound ℕ) (f : Fault) (e : Wrong) : Type 0 where
  pub here : e.at ≡ at
  pub fault : e.fault ≡ f
  pub within : at < length ws
  pub outside : OutOfRange start end (slice_index ws at)

abbrev pub RangeSays : List ℕ → ℕ → Bound ℕ → Bound ℕ → Fault → Result ℕ Wrong → Type 0
RangeSays ws at start end f (Ok n) = Inside ws at start end n
RangeSays ws at start end f (Err e) = Missing ws at e ⊎ Outside ws at start end f e

-- the n words from `at` on are there, and are ns; or there are fewer
pub record Part (ws : List ℕ) (at n : ℕ) (ns : List ℕ) : Type 0 where
  pub within : at + n ≤ length ws
  pub is : take n (drop at ws) ≡ ns

pub record Short (ws : List ℕ) (at n : ℕ) (e : Wrong) : Type 0 where
  pub here : e.at ≡ length ws
  pub fault : e.fault ≡ Ends
  pub ends : length ws < at + n

-- the counts with no step yet, or the first that no program has
abbrev pub HeaderSays : Limits → List ℕ → Result Header Wrong → Type 0
HeaderSays z ws (Ok h) = Before z ws h.words h.points h.steps [] 3
HeaderSays z ws (Err e) = NoProgram z ws e.at e.fault × (e.at < 3)
