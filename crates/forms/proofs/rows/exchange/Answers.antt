use Rattle.std.proofs.Common.{arith}
use Rattle.forms.proofs.RowSums.{exchanged_new, exchanged_left}
use Rattle.forms.proofs.rows.exchange.Goals as goal

pub returns : goal.returns
returns c =
    record {
      new = exchanged_new 32 c.loop-i.i c.args.unit c.args.k c.args.v.now c.args.t.now c.loop-i.v c.loop-i.t c.requires (omega arith) c.loop-i.invariant;
      left = exchanged_left 32 c.loop-i.i c.args.unit c.args.k c.args.v.now c.args.t.now c.loop-i.v c.loop-i.t c.requires (omega arith) c.loop-i.invariant;
    }
