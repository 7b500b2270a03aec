use Rattle.std.proofs.Common.{◌≡◌, ◌<◌, take}
use Rattle.algebra.specs.Vec.{dot}
use Rattle.forms.proofs.rows.dot.Given as goal

abbrev pub invariant-loop-i : goal.invariant-loop-i
invariant-loop-i l = (l.sum ≡ dot 32 (take l.i l.c) (take l.i l.x)) × (l.sum < 4294967296)
