use Rattle.forms.proofs.Telling.{Law}
use Rattle.forms.proofs.table.Table.write_law.Given as goal

abbrev pub invariant-loop-k : goal.invariant-loop-k
invariant-loop-k l = Law 32 l.self.places l.self.words.now l.q l.k l.law
