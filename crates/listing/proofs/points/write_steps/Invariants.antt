use Rattle.std.proofs.Common.{◌≡◌, true, List, vec_items}
use Rattle.programs.specs.Programs.{Program, Step}
use Rattle.listing.specs.Naming.{word_line, point_line}
use Rattle.listing.specs.Program.{LaidIn, AreLeft}
use Rattle.listing.specs.Steps.{with_steps}
use Rattle.listing.proofs.points.write_steps.Given as goal

abbrev pub invariant-loop-step : goal.invariant-loop-step
invariant-loop-step l = (p : Program) → LaidIn p l.program → (ss : List Step) × AreLeft ss l.step-iterator × (with_steps (word_line l.naming) (point_line l.naming) l.point l.first ss (vec_items l.out) ≡ with_steps (word_line l.naming) (point_line l.naming) l.point true p.steps (vec_items l.initial.out))
