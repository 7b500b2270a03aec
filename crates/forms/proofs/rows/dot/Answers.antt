use Rattle.std.proofs.Common.{◌≡◌, ℕ, ◌+◌, ◌*◌, ◌%◌, get_or, sym, ap, ◌∙◌, arith}
use Rattle.forms.proofs.RowSums.{dot_more, dot_all}
use Rattle.forms.proofs.rows.dot.Goals as goal

pub loop-i-preserved : goal.loop-i-preserved
loop-i-preserved c =
    let e = dot_more 32 c.loop-i.i c.args.c.now c.args.x.now (omega arith) (omega arith) in
    let s : c.mul_add-sum.result ≡ (c.loop-i.sum + get_or c.args.c.now c.loop-i.i 0 * get_or c.args.x.now c.loop-i.i 0) % 4294967296 = c.mul_add-sum.ensures in
    (s ∙ ap (λ (z : ℕ). (z + get_or c.args.c.now c.loop-i.i 0 * get_or c.args.x.now c.loop-i.i 0) % 4294967296) c.loop-i.invariant.0 ∙ sym e, omega arith)

pub returns : goal.returns
returns c = c.loop-i.invariant.0 ∙ dot_all 32 c.loop-i.i c.args.c.now c.args.x.now c.requires (omega arith)
