-- What one byte makes of where the reader of numbers stands.
use Rattle.std.specs.Prelude.{ℕ, ◌+◌, ◌-◌, ◌*◌, cond, ◌==◌, nat_lt, Ok, Err, Result}
use Rattle.text.specs.Bytes.{white, digit}
use Rattle.text.specs.declared.modes.Digits.{Digits}
use Rattle.text.specs.declared.modes.Mode.{Mode}
use Rattle.text.specs.declared.modes.Mode.TheVariants.{LineStart, Gap, Comment, Number}
use Rattle.text.specs.declared.modes.Turn.{Turn}
use Rattle.text.specs.declared.modes.Turn.TheVariants.{Goes, Ends}
use Rattle.text.specs.declared.types.Flaw.{Flaw}
use Rattle.text.specs.declared.types.What.{What}
use Rattle.text.specs.declared.types.What.TheVariants.{NoNumber, TooLarge}

abbrev pub flaw_at : ℕ → What → Flaw
flaw_at at what = record { at = at; what = what }

abbrev pub mode_after_white : ℕ → Mode
mode_after_white b = cond (b == 10) LineStart Gap

-- the token that began at `from`, whose digits so far have this value
abbrev pub digits_so_far : ℕ → ℕ → Digits
digits_so_far from value = record { from = from; value = value }

-- one more byte of the token
abbrev pub grown : Digits → ℕ → Result Turn Flaw
grown d b =
    cond (digit b)
    (cond (nat_lt (d.value * 10 + (b - 48)) 4294967296) (Ok (Goes (Number (digits_so_far d.from (d.value * 10 + (b - 48)))))) (Err (flaw_at d.from TooLarge)))
    (Err (flaw_at d.from NoNumber))

-- the byte at the offset `at`
abbrev pub turn_of : Mode → ℕ → ℕ → Result Turn Flaw
turn_of LineStart at b = cond (b == 35) (Ok (Goes Comment)) (cond (white b) (Ok (Goes (mode_after_white b))) (grown (digits_so_far at 0) b))
turn_of Gap at b = cond (white b) (Ok (Goes (mode_after_white b))) (grown (digits_so_far at 0) b)
turn_of Comment at b = Ok (Goes (cond (b == 10) LineStart Comment))
turn_of (Number d) at b = cond (white b) (Ok (Ends d (mode_after_white b))) (grown d b)
