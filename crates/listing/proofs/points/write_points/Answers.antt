use Rattle.std.proofs.Common.{vec_items, arith}
use Rattle.listing.specs.Naming.{word_line, point_line}
use Rattle.listing.proofs.Placed.{points_more}
use Rattle.listing.proofs.points.write_points.Goals as goal

pub loop-point-preserved : goal.loop-point-preserved
loop-point-preserved c = λ p l.
    let e = points_more (word_line c.args.naming) (point_line c.args.naming) p.steps p.points c.loop-point.point (vec_items c.loop-point.out) (omega (arith, l.points)) in
    let i = c.loop-point.invariant p l in
    let n = c.in_ok-write.ensures in
    let f = c.in_ok-writeln.ensures in
    let s = c.in_ok-write_steps.ensures p l in
    cc
