use Rattle.programs.proofs.Turns.{Turn}
use Rattle.programs.proofs.reader.read_program.Given as goal

abbrev pub invariant-loop-i : goal.invariant-loop-i
invariant-loop-i l = Turn l.words l.header.words l.header.points l.header.steps l.i l.at l.initial.starts l.starts
