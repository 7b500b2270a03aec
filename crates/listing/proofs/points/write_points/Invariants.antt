use Rattle.std.proofs.Common.{◌≡◌, ◌-◌, vec_items}
use Rattle.programs.specs.Programs.{Program}
use Rattle.listing.specs.Naming.{word_line, point_line}
use Rattle.listing.specs.Program.{LaidIn}
use Rattle.listing.specs.Steps.{with_points}
use Rattle.listing.proofs.points.write_points.Given as goal

abbrev pub invariant-loop-point : goal.invariant-loop-point
invariant-loop-point l = (p : Program) → LaidIn p l.program → with_points (word_line l.naming) (point_line l.naming) p.steps (p.points - l.point) l.point (vec_items l.out) ≡ with_points (word_line l.naming) (point_line l.naming) p.steps p.points 0 (vec_items l.initial.out)
