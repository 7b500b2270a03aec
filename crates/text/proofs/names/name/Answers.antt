use Rattle.std.proofs.Common.{rules, ap, ◌∙◌, tests}
use Rattle.std.specs.List.{slice_get}
use Rattle.std.proofs.lemmas.Iterator.Consumers.{YieldsList-at, YieldsList-from_filter, nth_from_yields_List}
use Rattle.std.proofs.lemmas.Iterator.Splits.{YieldsList-from_slice_split}
use Rattle.text.specs.Bytes.{white}
use Rattle.text.proofs.Parts.{full, tokens_are}
use Rattle.text.proofs.names.name.Goals as goal

pub returns : goal.returns
returns c =
    nth_from_yields_List c.nth.result _ c.args.i c.nth.ensures.ran
    (YieldsList-from_filter _ full (YieldsList-at c.filter.ensures.source (YieldsList-from_slice_split _ white c.args.line.now c.split.ensures.rest c.split.ensures.done c.split.ensures.closure (λ x b q k. search (rules, tests)))) c.filter.ensures.closure (λ x b q k. search (rules, tests)))
    ∙ ap (λ ts. slice_get ts c.args.i) (tokens_are c.args.line.now)
