use Rattle.std.proofs.Common.{◌≡◌, ◌<◌, length, subst, rules}
use Rattle.programs.specs.Reading.{step_of, StepSays}
use Rattle.listing.proofs.Placed.{none_left, first_taken, reads_first, steps_behind}
use Rattle.listing.proofs.program.StepsIterator.next.Goals as goal

pub returns-then-is_empty-clause-steps : goal.returns-then-is_empty-clause-steps
returns-then-is_empty-clause-steps c =
    let none : length c.args.self.now.words.now ≡ 0 = search rules in
    none_left c.args.self.now.words.now c.args.self.now.header none

pub unwrap-n-requires : goal.unwrap-n-requires
unwrap-n-requires c =
    let some : 0 < length c.args.self.now.words.now = search rules in
    reads_first c.args.self.now.words.now c.args.self.now.header some c.args.self.now.laid c.read_step.result c.read_step.ensures

pub invariant_of-self : goal.invariant_of-self
invariant_of-self c =
    let some : 0 < length c.args.self.now.words.now = search rules in
    let t = subst (StepSays c.args.self.now.header.words c.args.self.now.header.points c.args.self.now.words.now) c.unwrap-n.ensures c.read_step.ensures in
    record { laid = steps_behind c.args.self.now.words.now c.args.self.now.header some c.args.self.now.laid (step_of c.unwrap-n.result.0) c.unwrap-n.result.1 t }

pub returns-clause-steps : goal.returns-clause-steps
returns-clause-steps c =
    let some : 0 < length c.args.self.now.words.now = search rules in
    let t = subst (StepSays c.args.self.now.header.words c.args.self.now.header.points c.args.self.now.words.now) c.unwrap-n.ensures c.read_step.ensures in
    first_taken c.args.self.now.words.now c.args.self.now.header some (step_of c.unwrap-n.result.0) c.unwrap-n.result.1 t
