-- A row inserted into a table, place by place, the last place first.
use Rattle.std.specs.Prelude.{◌≡◌, ℕ, suc, ◌+◌, ◌*◌, ◌^◌, ◌<◌, ◌≤◌, Bool, true, false, ◌≢◌, ◌↔◌, List, ◌∷◌, length, take, drop, replicate, Some, None, Option, slice_index}
use Rattle.algebra.specs.Vec.{less, flip}
use Rattle.algebra.specs.Span.{Fit}
use Rattle.algebra.specs.Form.{Form, insert, weight}
use Rattle.algebra.specs.Theorems.{Inserting}
use Rattle.forms.specs.declared.row.Row.{Row}
use Rattle.forms.specs.declared.row.Changes.{Changes}
use Rattle.forms.specs.Flat.{row_at, word_at, pivot_at, exponent_at, slot_at, read, table_at}
use Rattle.forms.specs.Meaning.{Spans, HowellAt}

-- the row v inserted at its place k into the table s: t is the table then, and u the row that goes on to the places before k
pub record Turned (w n k : ℕ) (s t v u : List ℕ) (changed : Bool) : Type 0 where
  pub step : (f : Form) → insert w (slot_at w n k s ∷ f) (flip (take (suc k) v)) ≡ slot_at w n k t ∷ insert w f (flip (take k u))
  -- the other rows are as they were, and so is what stands behind the pivot
  pub kept : (q : ℕ) → q ≢ k → row_at n q t ≡ row_at n q s
  pub tail : (i : ℕ) → k < i → i < n → word_at n k i t ≡ word_at n k i s
  pub falls : changed ≡ true → exponent_at w n k t < exponent_at w n k s
  pub power : changed ≡ true → pivot_at n k t ≡ 2 ^ exponent_at w n k t
  pub same : changed ≡ false → t ≡ s

-- the rows of the table s that are told as changed in the table t: `count` places, first in the list `ps`, which was `os`
pub record Changed (w n : ℕ) (s t os ps : List ℕ) (count : ℕ) : Type 0 where
  pub few : count ≤ n
  pub within : (j : ℕ) → j < count → slice_index ps j < n
  pub down : (i j : ℕ) → i < j → j < count → slice_index ps j < slice_index ps i
  -- the exponent of each of them fell, and its pivot is a power of two
  pub fell : (j : ℕ) → j < count → exponent_at w n (slice_index ps j) t < exponent_at w n (slice_index ps j) s
  pub powers : (j : ℕ) → j < count → pivot_at n (slice_index ps j) t ≡ 2 ^ exponent_at w n (slice_index ps j) t
  -- all other rows are as they were, and so is what stands behind the pivots, and the list behind the places
  pub kept : (q : ℕ) → q < n → ((j : ℕ) → j < count → slice_index ps j ≢ q) → row_at n q t ≡ row_at n q s
  pub tails : (q i : ℕ) → q < i → i < n → word_at n q i t ≡ word_at n q i s
  pub behind : (j : ℕ) → count ≤ j → slice_index ps j ≡ slice_index os j
  -- so the sum of the exponents falls by as much as rows are told, or more
  pub sum : weight (read w n n t) + count ≤ weight (read w n n s)

-- the row v inserted into the table s: t is the table then
pub record Inserted (w n : ℕ) (s v t os ps : List ℕ) (count : ℕ) : Type 0 where
  pub form : read w n n t ≡ insert w (read w n n s) (flip v)
  pub changed : Changed w n s t os ps count

-- what an insertion means: the table t spans what s did and the row v, and nothing else, and is a Howell form if s was one
pub record Grown (w n at : ℕ) (s t v : List ℕ) : Type 0 where
  pub spans : (u : List ℕ) → Fit w n u → Spans w n at t u ↔ ((k : ℕ) × Spans w n at s (less w u k v))
  pub howell : HowellAt w n at s → HowellAt w n at t

-- the row v inserted into the table at the word `at` of the words s, which are t then
pub record InsertedAt (w n at : ℕ) (s t v os ps : List ℕ) (count : ℕ) : Type 0 where
  pub room : (at + n * n ≤ length s) × (n ≤ length os)
  pub here : Inserted w n (table_at n at s) v (table_at n at t) os ps count
  pub grown : Grown w n at s t v
  -- no row changes exactly if the row v is a sum of the table's rows
  pub spanned : HowellAt w n at s → (count ≡ 0) ↔ Spans w n at s v
  -- all other words are as they were
  pub before : take at t ≡ take at s
  pub behind : drop (at + n * n) t ≡ drop (at + n * n) s
  -- what is proved of insertions: among it that the form of any rows spans their sums, and how often a form can grow
  pub theory : Inserting

-- the promise of `insert`
abbrev pub InsertPost : ℕ → ℕ → List ℕ → List ℕ → List ℕ → List ℕ → List ℕ → List ℕ → Option ℕ → Type 0
InsertPost w at s t v v' os ps None = (at + length v * length v ≤ length s → length v ≤ length os → ⊥) × (t ≡ s) × (v' ≡ v) × (ps ≡ os)
InsertPost w at s t v v' os ps (Some count) = InsertedAt w (length v) at s t v os ps count

-- the promise of `insert_row`
abbrev pub InsertRowPost : ℕ → ℕ → List ℕ → List ℕ → Row → Option Changes → Type 0
InsertRowPost at n s t row None = (n ≤ 17 → at + n * n ≤ length s → ⊥) × (t ≡ s)
InsertRowPost at n s t row (Some c) = (n ≤ 17) × InsertedAt 32 n at s t (take n row.words) (replicate 17 0) c.places c.count
