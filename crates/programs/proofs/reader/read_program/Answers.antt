use Rattle.std.proofs.Common.{◌≡◌, ◌+◌, refl, inl, arith, rules}
use Rattle.std.proofs.lemmas.List.{take_rest}
use Rattle.programs.specs.Reading.{ReadPost, limits_of, step_of}
use Rattle.programs.proofs.One.{one_program}
use Rattle.programs.proofs.Refusals.{refused, kept, changed}
use Rattle.programs.proofs.Turns.{turn_more, turn_full, turn_wrong, turn_longer, turn_last}
use Rattle.programs.proofs.reader.read_program.Goals as goal
use Rattle.programs.proofs.reader.read_program.Goals.{then-i-starts, else-i-starts}

pub returns-in_err-header : goal.returns-in_err-header
returns-in_err-header c =
    let n = c.in_err-header.ensures in
    refused (ReadPost _ _ _ _) c.from_residual.ensures.1 (record { says = (n.0, inl (n.1, refl)); one_program = one_program (limits_of c.args.limits) })

pub returns-in_err-n : goal.returns-in_err-n
returns-in_err-n c =
    let w = changed _ c.read_step.result c.map_err.result c.in_err-n.field-0.0 c.map_err.ensures.cases c.in_err-n.was in
    let d = w.0 in
    let learnt = w.2 in
    let e = c.in_err-n.field-0.0 in
    let place : e.at ≡ c.loop-i.at + d.at = search rules in
    let same : e.fault ≡ d.fault = search rules in
    refused (ReadPost _ _ _ _) c.from_residual-in_err-n.ensures.1
    (record {
      says =
          turn_wrong _ _ _ _ _ _ _ _ c.loop-i.invariant c.args.limits c.in_ok-header.ensures c.loop-i-test.true d e place same
          (rw (w.1, take_rest) at c.read_step.ensures);
      one_program = one_program (limits_of c.args.limits);
    })

pub loop-i-preserved : goal.loop-i-preserved
loop-i-preserved c =
    let r = kept _ c.read_step.result c.map_err.result (c.in_ok-n.field-0-0, c.in_ok-n.n) c.map_err.ensures.cases c.in_ok-n.was in
    let h = rw (r, take_rest) at c.read_step.ensures in
    elim c.if-i-starts.branch [
      | then-i-starts w ↦ rw w.starts-is (turn_more _ _ _ _ _ _ _ _ c.loop-i.invariant c.loop-i-test.true (step_of c.in_ok-n.field-0-0) c.in_ok-n.n h)
      | else-i-starts w ↦
          rw w.starts-is
          (turn_full _ _ _ _ _ _ _ _ c.loop-i.invariant c.loop-i-test.true (omega (arith, c.loop-i.invariant.started.len)) (step_of c.in_ok-n.field-0-0) c.in_ok-n.n h)
    ]

pub returns-then-at-words : goal.returns-then-at-words
returns-then-at-words c =
    record {
      says = turn_longer _ _ _ _ _ _ _ _ c.loop-i.invariant c.args.limits c.in_ok-header.ensures (omega arith) c.if-at-words.true;
      one_program = one_program (limits_of c.args.limits);
    }

pub returns : goal.returns
returns c =
    record {
      says = turn_last _ _ _ _ _ _ _ _ c.loop-i.invariant c.args.limits c.in_ok-header.ensures (omega arith) c.if-at-words.false;
      one_program = one_program (limits_of c.args.limits);
    }
