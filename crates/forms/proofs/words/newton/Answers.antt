use Rattle.forms.proofs.Inverses.{newton_wraps}
use Rattle.forms.proofs.words.newton.Goals as goal

pub returns : goal.returns
returns c = newton_wraps 32 c.args.u c.args.a
