-- What a turn does to the numbers that are stored.
use Rattle.std.specs.Prelude.{ℕ, ◌+◌, cond, List, Ok, Err, Result, nat_lt, slice_set}
use Rattle.text.specs.Turns.{flaw_at}
use Rattle.text.specs.declared.modes.Mode.{Mode}
use Rattle.text.specs.declared.modes.Turn.{Turn}
use Rattle.text.specs.declared.modes.Turn.TheVariants.{Goes, Ends}
use Rattle.text.specs.declared.types.Flaw.{Flaw}
use Rattle.text.specs.declared.types.What.TheVariants.{TooMany}

-- how many numbers stand in front then, where there were `count` and there is room for `size`
abbrev pub settled : Turn → ℕ → ℕ → Result (ℕ × Mode) Flaw
settled (Goes mode) count size = Ok (count, mode)
settled (Ends d mode) count size = cond (nat_lt count size) (Ok (count + 1, mode)) (Err (flaw_at d.from TooMany))

abbrev pub stored : Turn → ℕ → List ℕ → List ℕ
stored (Goes mode) count out = out
stored (Ends d mode) count out = slice_set out count d.value
