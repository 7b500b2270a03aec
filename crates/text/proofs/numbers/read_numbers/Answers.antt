use Rattle.std.proofs.Common.{◌≡◌, ◌+◌, length, get_or, drop, sym, ◌∙◌, arith}
use Rattle.std.proofs.lemmas.Result.{err_from_is_err_and}
use Rattle.text.specs.Turns.{turn_of}
use Rattle.text.specs.Numbers.{fine, meaning, meaning_of}
use Rattle.text.proofs.Settling.{Called, refused, called_ok, called_err}
use Rattle.text.proofs.Reading.{before_byte, before_end, read_all, read_part}
use Rattle.text.proofs.numbers.read_numbers.Goals as goal
use Rattle.text.proofs.numbers.read_numbers.Goals.{After-settle, After-settle-2}

in_loop : (c : After-settle) → Called (meaning_of (length c.args.out.now) c.args.text.now) c.args.out.now c.loop-at.out c.settle.new.out c.loop-at.count (λ left next. meaning left next (c.loop-at.at + 1) (drop (c.loop-at.at + 1) c.args.text.now)) c.in_ok-turn.turn (turn_of c.loop-at.mode c.loop-at.at (get_or c.args.text.now c.loop-at.at 0)) c.settle.result
in_loop c = record {
  before = before_byte _ _ _ _ _ _ c.loop-at.invariant c.loop-at-test.true;
  turned = sym c.turn_of.ensures ∙ c.in_ok-turn.was;
  answer = c.settle.ensures.answer;
  store = c.settle.ensures.store;
}

at_end : (c : After-settle-2) → Called (meaning_of (length c.args.out.now) c.args.text.now) c.args.out.now c.loop-at.out c.settle-2.new.out c.loop-at.count (λ _ _. fine) c.in_ok-last.last (turn_of c.loop-at.mode (length c.args.text.now) 10) c.settle-2.result
at_end c = let whole : c.loop-at.at ≡ length c.args.text.now = omega arith in record {
  before = before_end _ _ _ _ _ _ c.loop-at.invariant whole;
  turned = sym c.turn_of-2.ensures ∙ c.in_ok-last.was;
  answer = c.settle-2.ensures.answer;
  store = c.settle-2.ensures.store;
}

pub returns-in_err-turn : goal.returns-in_err-turn
returns-in_err-turn c =
    let p = err_from_is_err_and c.from_residual.result c.from_residual.ensures.1 in
    rw (p.1, p.2) (read_part _ _ _ _ _ (refused _ _ _ _ _ _ _ (sym c.turn_of.ensures ∙ c.in_err-turn.was) (before_byte _ _ _ _ _ _ c.loop-at.invariant c.loop-at-test.true)))

pub returns-in_err-count : goal.returns-in_err-count
returns-in_err-count c =
    let p = err_from_is_err_and c.from_residual-in_err-count.result c.from_residual-in_err-count.ensures.1 in
    rw (p.1, p.2) (read_part _ _ _ _ _ (called_err _ _ _ _ _ _ _ _ _ _ c.in_err-count.was (in_loop (goal.at.returns-in_err-count c).After-settle)))

pub loop-at-preserved : goal.loop-at-preserved
loop-at-preserved c = called_ok _ _ _ _ _ _ _ _ _ _ c.in_ok-count.was (in_loop (goal.at.loop-at-preserved c).After-settle)

pub returns-in_err-last : goal.returns-in_err-last
returns-in_err-last c =
    let whole : c.loop-at.at ≡ length c.args.text.now = omega arith in
    let p = err_from_is_err_and c.from_residual-in_err-last.result c.from_residual-in_err-last.ensures.1 in
    rw (p.1, p.2) (read_part _ _ _ _ _ (refused _ _ _ _ _ _ _ (sym c.turn_of-2.ensures ∙ c.in_err-last.was) (before_end _ _ _ _ _ _ c.loop-at.invariant whole)))

pub returns-in_err-count-2 : goal.returns-in_err-count-2
returns-in_err-count-2 c =
    let p = err_from_is_err_and c.from_residual-in_err-count-2.result c.from_residual-in_err-count-2.ensures.1 in
    rw (p.1, p.2) (read_part _ _ _ _ _ (called_err _ _ _ _ _ _ _ _ _ _ c.in_err-count-2.was (at_end (goal.at.returns-in_err-count-2 c).After-settle-2)))

pub returns : goal.returns
returns c = read_all _ _ _ _ (called_ok _ _ _ _ _ _ _ _ _ _ c.in_ok-count-2.was (at_end (goal.at.returns c).After-settle-2))
