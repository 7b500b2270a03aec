-- How lent words are read as a Howell form. A table of n places is n rows of n words, one behind the other: row k begins at
-- the word k * n, has its pivot at its place k and its entries at the places before that. What stands behind the pivot is
-- not read. No other definition, and no code but src/table.rt, knows this.
use Rattle.std.specs.Prelude.{◌≡◌, ℕ, zero, suc, ◌+◌, ◌*◌, ◌≤◌, List, [], ◌∷◌, length, Some, None, Option, slice_index, slice_range}
use Rattle.std.specs.Int.Count.{count_trailing_zeros}
use Rattle.algebra.specs.Vec.{flip}
use Rattle.algebra.specs.Form.{Slot, slot, Form}

-- the words from a up to b
abbrev pub part : ℕ → ℕ → List ℕ → List ℕ
part a b ws = slice_range ws a b

-- row k, whole, and that it is among the words
abbrev pub row_at : ℕ → ℕ → List ℕ → List ℕ
row_at n k ws = part (k * n) (k * n + n) ws

abbrev pub RowIn : ℕ → ℕ → List ℕ → Type 0
RowIn n k ws = k * n + n ≤ length ws

-- the word at place i of row k; its pivot
abbrev pub word_at : ℕ → ℕ → ℕ → List ℕ → ℕ
word_at n k i ws = slice_index ws (k * n + i)

abbrev pub pivot_at : ℕ → ℕ → List ℕ → ℕ
pivot_at n k ws = word_at n k k ws

-- the exponent of the pivot: the zeros below in it. A pivot of 0, which is 2 ^ w, means that the place has no row
abbrev pub exponent_at : ℕ → ℕ → ℕ → List ℕ → ℕ
exponent_at w n k ws = count_trailing_zeros w (pivot_at n k ws)

-- the entries of row k, before its pivot
abbrev pub entries_at : ℕ → ℕ → List ℕ → List ℕ
entries_at n k ws = part (k * n) (k * n + k) ws

abbrev pub slot_at : ℕ → ℕ → ℕ → List ℕ → Slot
slot_at w n k ws = slot (exponent_at w n k ws) (flip (entries_at n k ws))

-- the form of the first k places; a form has its last place first
unfoldable pub read : ℕ → ℕ → ℕ → List ℕ → Form
read w n zero ws = []
read w n (suc k) ws = slot_at w n k ws ∷ read w n k ws

-- the table of n places that begins at the word `at` of larger words, and its form
abbrev pub table_at : ℕ → ℕ → List ℕ → List ℕ
table_at n at ws = part at (at + n * n) ws

abbrev pub form_at : ℕ → ℕ → ℕ → List ℕ → Form
form_at w n at ws = read w n n (table_at n at ws)

-- the table ends at the word `end`, and that is within the first `len` words; or it does not end within them
abbrev pub EndSays : ℕ → ℕ → ℕ → Option ℕ → Type 0
EndSays len at n None = at + n * n ≤ len → ⊥
EndSays len at n (Some end) = (end ≡ at + n * n) × (end ≤ len)
