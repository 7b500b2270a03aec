use Rattle.forms.proofs.RowSums.{Added}
use Rattle.forms.proofs.rows.add_multiple.Given as goal

abbrev pub invariant-loop-i : goal.invariant-loop-i
invariant-loop-i l = Added 32 l.i l.k l.initial.v l.t l.v
