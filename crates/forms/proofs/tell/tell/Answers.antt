use Rattle.std.proofs.Common.{arith, rules}
use Rattle.forms.proofs.TableLaws.{told_at}
use Rattle.forms.proofs.tell.tell.Goals as goal

pub returns : goal.returns
returns c =
    let is = c.in_ok-end.ensures in
    told_at 32 c.args.n c.args.at c.in_ok-end.end c.args.work.now c.args.rows.now _ _ is.0 is.1 (omega arith) (search rules) c.write_laws.ensures
