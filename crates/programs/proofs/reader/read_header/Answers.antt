use Rattle.programs.specs.Reading.{limits_of}
use Rattle.programs.specs.Single.{HeaderSays}
use Rattle.programs.proofs.HeaderRead.{wrong_words, wrong_points, wrong_steps}
use Rattle.programs.proofs.Refusals.{refused}
use Rattle.programs.proofs.reader.read_header.Goals as goal

pub returns-in_err-word_in : goal.returns-in_err-word_in
returns-in_err-word_in c =
    refused (HeaderSays _ _) c.from_residual.ensures.1
    (wrong_words (limits_of c.args.limits) _ c.in_err-word_in.field-0.0 (rw (c.new.ensures.start, c.new.ensures.end) at c.in_err-word_in.ensures.says))

pub returns-in_err-word_in-2 : goal.returns-in_err-word_in-2
returns-in_err-word_in-2 c =
    let p = rw (c.new.ensures.start, c.new.ensures.end) at c.in_ok-word_in.ensures.says in
    let one = c.in_ok-word_in.ensures.read in
    refused (HeaderSays _ _) c.from_residual-in_err-word_in-2.ensures.1
    (wrong_points (limits_of c.args.limits) _ p c.in_err-word_in-2.field-0.0 (rw (one.0, one.1, c.new-2.ensures.start, c.new-2.ensures.end) at c.in_err-word_in-2.ensures.says))

pub returns-in_err-word_in-3 : goal.returns-in_err-word_in-3
returns-in_err-word_in-3 c =
    let p = rw (c.new.ensures.start, c.new.ensures.end) at c.in_ok-word_in.ensures.says in
    let one = c.in_ok-word_in.ensures.read in
    let q = rw (one.0, one.1, c.new-2.ensures.start, c.new-2.ensures.end) at c.in_ok-word_in-2.ensures.says in
    let two = rw (one.0, one.1) at c.in_ok-word_in-2.ensures.read in
    refused (HeaderSays _ _) c.from_residual-in_err-word_in-3.ensures.1 (wrong_steps (limits_of c.args.limits) _ p q c.in_err-word_in-3.field-0.0 (rw (two.0, two.1) at c.in_err-word_in-3.ensures.says))
