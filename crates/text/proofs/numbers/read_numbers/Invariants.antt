use Rattle.text.proofs.Reading.{Sofar}
use Rattle.text.proofs.numbers.read_numbers.Given as goal

abbrev pub invariant-loop-at : goal.invariant-loop-at
invariant-loop-at l = Sofar l.text l.initial.out l.at l.count l.mode l.out
