use Rattle.std.proofs.Common.{rules, take, drop, ◌-◌, length, ap, ◌∙◌, tests}
use Rattle.std.proofs.lemmas.Iterator.{YieldsList-from_slice}
use Rattle.std.proofs.lemmas.Iterator.Search.{position_from_yields_List}
use Rattle.std.proofs.lemmas.List.{take_rest, drop_min}
use Rattle.text.specs.Bytes.{white}
use Rattle.text.specs.Tokens.{word}
use Rattle.text.proofs.Parts.{before_found}
use Rattle.text.proofs.places.token.Goals as goal

pub returns : goal.returns
returns c =
    let rest = take (length c.args.text.now - c.min.result) (drop c.min.result c.args.text.now) in
    let found = position_from_yields_List white _ _ c.position.result c.position.ensures.ran (YieldsList-from_slice rest c.iter.ensures.rest) (λ x b q k. search (rules, tests)) in
    before_found white rest _ _ found c.unwrap_or-end.ensures ∙ ap word (take_rest c.args.text.now c.min.result ∙ ap (λ n. drop n c.args.text.now) c.min.ensures ∙ drop_min c.args.from c.args.text.now)
