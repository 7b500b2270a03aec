-- What a text of numbers means.
use Rattle.std.specs.Prelude.{◌≡◌, ℕ, zero, suc, ◌+◌, ◌≤◌, List, [], ◌∷◌, ◌++◌, length, drop, IfOk, Some, None, Ok, Err, Option, Result}
use Rattle.text.specs.Entries.{Entry, written, Proper, numbers_of}
use Rattle.text.specs.Turns.{turn_of, flaw_at}
use Rattle.text.specs.declared.modes.Mode.{Mode}
use Rattle.text.specs.declared.modes.Mode.TheVariants.{LineStart}
use Rattle.text.specs.declared.modes.Turn.{Turn}
use Rattle.text.specs.declared.modes.Turn.TheVariants.{Goes, Ends}
use Rattle.text.specs.declared.types.Flaw.{Flaw}
use Rattle.text.specs.declared.types.What.TheVariants.{TooMany}

-- the numbers up to the first flaw, and the flaw
pub record Meaning : Type 0 where
  pub numbers : List ℕ
  pub flaw : Option Flaw

abbrev pub flawed : Flaw → Meaning
flawed f = record { numbers = []; flaw = Some f }

abbrev pub fine : Meaning
fine = record { numbers = []; flaw = None }

-- these numbers, and then what m has
abbrev pub after : List ℕ → Meaning → Meaning
after ns m = record { numbers = ns ++ m.numbers; flaw = m.flaw }

-- a turn with so much room left, where `rest` says what follows
abbrev pub continued : Result Turn Flaw → ℕ → (ℕ → Mode → Meaning) → Meaning
continued (Ok (Goes mode)) room rest = rest room mode
continued (Ok (Ends d mode)) zero rest = flawed (flaw_at d.from TooMany)
continued (Ok (Ends d mode)) (suc room) rest = after (d.value ∷ []) (rest room mode)
continued (Err f) room rest = flawed f

-- what is left of a text, from the offset `at`; the end of the text ends a number as a line feed would
abbrev pub meaning : ℕ → Mode → ℕ → List ℕ → Meaning
meaning room mode at [] = continued (turn_of mode at 10) room (λ _ _. fine)
meaning room mode at (b ∷ bs) = continued (turn_of mode at b) room (λ left next. meaning left next (at + 1) bs)

abbrev pub meaning_of : ℕ → List ℕ → Meaning
meaning_of room text = meaning room LineStart 0 text

abbrev pub answered : List ℕ → Option Flaw → Result ℕ Flaw
answered ns None = Ok (length ns)
answered ns (Some f) = Err f

-- how many numbers were read, or the flaw
abbrev pub answer_of : Meaning → Result ℕ Flaw
answer_of m = answered m.numbers m.flaw

-- the numbers in front of what stands behind them
abbrev pub store_of : Meaning → List ℕ → List ℕ
store_of m out = m.numbers ++ drop (length m.numbers) out

-- where the text is what one writes of these entries, just their numbers are read
abbrev pub ReadBack : List ℕ → List ℕ → List ℕ → Result ℕ Flaw → Type 0
ReadBack text out exit r =
    (es : List Entry) → Proper es → length es ≤ length out → text ≡ written es → (r ≡ Ok (length es)) × (exit ≡ numbers_of es ++ drop (length es) out)

-- what the call answers, and what it leaves where `out` stood
pub record Reads (text out exit : List ℕ) (r : Result ℕ Flaw) : Type 0 where
  pub answer : r ≡ answer_of (meaning_of (length out) text)
  pub store : exit ≡ store_of (meaning_of (length out) text) out
  pub len : length exit ≡ length out
  pub within : IfOk r (λ count. count ≤ length out)
  pub back : ReadBack text out exit r
