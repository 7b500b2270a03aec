use Rattle.std.proofs.Common.{length, ap, arith}
use Rattle.text.proofs.Starts.{counts_begin, counts_pass, tokens_none}
use Rattle.text.proofs.names.count_names.Goals as goal
use Rattle.text.proofs.names.count_names.Goals.{then-black+then-not-inside, else-black}

pub loop-byte-preserved : goal.loop-byte-preserved
loop-byte-preserved c =
    elim c.if-black.branch [
      | then-black+then-not-inside w ↦
          counts_begin _ _ _ _ c.loop-byte-test.true c.is_white-black.ensures _ _ _ _ w.if-black.true w.if-not-inside.true w.count-is w.inside-is c.loop-byte.invariant
      | else-black w ↦
          counts_pass _ _ _ _ c.loop-byte-test.true c.is_white-black.ensures _ _ _ _ w.else-black.either w.count-is w.inside-is c.loop-byte.invariant
    ]

pub returns : goal.returns
returns c = omega (arith, c.loop-byte.invariant.0, ap length (tokens_none c.args.line.now c.loop-byte.byte-index c.loop-byte.inside c.loop-byte-test.false))
