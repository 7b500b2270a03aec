use Rattle.listing.proofs.Placed.{are_steps}
use Rattle.listing.proofs.program.Program.steps.Goals as goal

pub invariant_of-result : goal.invariant_of-result
invariant_of-result c = record { laid = are_steps c.args.self.words.now c.args.self.header c.args.self.laid }
