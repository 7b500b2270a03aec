use Rattle.std.proofs.Common.{◌≡◌, ℕ, ◌<◌, ◌≤◌, get_or, length}
use Rattle.forms.proofs.Inserts.{Inserting}
use Rattle.forms.proofs.insert.pass.Given as goal

-- the row is 0 at the places that were looked at
abbrev pub invariant-loop-k : goal.invariant-loop-k
invariant-loop-k l = (j : ℕ) → l.k ≤ j → j < l.done → get_or l.row j 0 ≡ 0

abbrev pub invariant-places : goal.invariant-places
invariant-places l = Inserting 32 (length l.initial.row) l.done l.initial.table l.initial.row l.table l.row l.initial.changed l.changed l.count

abbrev pub decreases-places : goal.decreases-places
decreases-places l = l.done
