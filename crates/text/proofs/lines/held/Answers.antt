use Rattle.std.proofs.Common.{rules, ap, ◌∙◌, tests}
use Rattle.std.specs.Option.{option_map}
use Rattle.text.proofs.Prefixes.{told_not, told_key, closed_is}
use Rattle.text.proofs.lines.held.Goals as goal

pub returns-in_err-rest : goal.returns-in_err-rest
returns-in_err-rest c =
    let sign = c.in_ok-strip_prefix.ensures.cases in
    ap (option_map (λ x. x.now)) c.from_residual-in_err-rest.ensures ∙ told_not c.args.key.now c.args.line.now _ sign.0 sign.1 c.in_err-rest.ensures.cases

pub returns : goal.returns
returns c =
    let sign = c.in_ok-strip_prefix.ensures.cases in
    let key = c.in_ok-rest.ensures.cases in
    let ends = closed_is c.in_ok-rest.rest.now _ _ c.first.ensures.value c.is_none_or-closed.ensures (λ x k. search (rules, tests)) in
    ap (option_map (λ x. x.now)) c.then_some.ensures ∙ told_key c.args.key.now c.args.line.now _ sign.0 sign.1 c.in_ok-rest.rest _ key.0 key.1 ends
