use Rattle.forms.proofs.RowSums.{Exchanged}
use Rattle.forms.proofs.rows.exchange.Given as goal

abbrev pub invariant-loop-i : goal.invariant-loop-i
invariant-loop-i l = Exchanged 32 l.i l.unit l.k l.initial.v l.initial.t l.v l.t
