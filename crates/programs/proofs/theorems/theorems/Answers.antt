use Rattle.programs.proofs.theorems.theorems.Goals as goal
use Rattle.programs.proofs.Proved.{proved}
use Rattle.programs.proofs.At32.{plain}
use Rattle.programs.proofs.Worked.{cases}

pub returns : goal.returns
returns c = record { general = proved; plain = plain; cases = cases }
