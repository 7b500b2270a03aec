use Rattle.algebra.proofs.theorems.Goals as goal
use Rattle.algebra.proofs.Proved.{algebra}
use Rattle.algebra.proofs.Examples.{examples}

pub returns : goal.returns
returns c = record { algebra = algebra; examples = examples }
