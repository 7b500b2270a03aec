-- the worked examples, by computing
use mathlib.Core.Path.{refl}
use lib.Count.{count_trailing_zeros}
use Rattle.algebra.specs.Vec.{neg}
use Rattle.algebra.specs.Inverse.{newton, rounds, inverse}
use Rattle.algebra.specs.Form.{insert, grow}
use Rattle.algebra.specs.Tell.{extra, extend, final, tell, annihilator, howell_rows}
use Rattle.algebra.specs.Examples.{Examples}

pub examples : Examples
unfolding howell_rows annihilator tell extra extend final grow insert inverse rounds newton neg count_trailing_zeros
examples = record {
  third_32 = refl;
  third_64 = refl;
  five_32 = refl;
  five_64 = refl;
  five_3 = refl;
  no_rows = refl;
  evens = refl;
  three_two = refl;
  two_rows = refl;
  fours = refl;
  span = refl;
  not_halved = refl;
}
