use Rattle.std.proofs.Common.{◌≡◌, ℕ, ◌-◌, ◌<◌, ◌≤◌}
use Rattle.forms.specs.Flat.{exponent_at}
use Rattle.forms.specs.Laws.{Written}
use Rattle.forms.proofs.Telling.{told}
use Rattle.forms.proofs.table.Table.write_laws.Given as goal

-- the pivots of the places that were looked at are 1
abbrev pub invariant-loop-q : goal.invariant-loop-q
invariant-loop-q l = (j : ℕ) → l.next ≤ j → j < l.q → exponent_at 32 l.n j l.self.words.now ≡ 0

abbrev pub invariant-rows : goal.invariant-rows
invariant-rows l = Written l.n (told 32 l.n l.self.words.now l.n l.next) l.initial.rows l.rows l.count × (l.count ≤ l.next) × (l.next ≤ l.n)

abbrev pub decreases-rows : goal.decreases-rows
decreases-rows l = l.n - l.next
