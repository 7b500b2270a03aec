use Rattle.std.proofs.Common.{rules, ◌+◌, not, take, reverse, ap, ◌∙◌, tests}
use Rattle.std.specs.Slice.Iter.{iter_rest}
use Rattle.std.proofs.lemmas.Iterator.{YieldsList-from_slice}
use Rattle.std.proofs.lemmas.Iterator.Adapters.{YieldsList-from_rev_slice}
use Rattle.std.proofs.lemmas.Iterator.Consumers.{YieldsList-at, YieldsList-from_filter, count_from_yields_List}
use Rattle.std.proofs.lemmas.Iterator.Search.{YieldsList-from_take_while}
use Rattle.std.proofs.lemmas.List.{take_min}
use Rattle.std.proofs.lemmas.List.Sums.{length-filter}
use Rattle.std.proofs.lemmas.List.Folds.{length-prefix_len}
use Rattle.text.specs.Bytes.{feed}
use Rattle.text.specs.Places.{place_of}
use Rattle.text.proofs.places.place.Goals as goal

pub returns : goal.returns
returns c =
    let front = take c.min.result c.args.text.now in
    let feeds = count_from_yields_List c.filter.result c.count-line.result c.count-line.ensures.ran (YieldsList-from_filter _ feed (YieldsList-at c.filter.ensures.source (YieldsList-from_slice front c.iter.ensures.rest)) c.filter.ensures.closure (λ x b q k. search (rules, tests))) ∙ length-filter feed front in
    let behind = count_from_yields_List c.take_while.result c.count-column.result c.count-column.ensures.ran (YieldsList-from_take_while _ (λ b. not (feed b)) (YieldsList-at c.take_while.ensures.source (YieldsList-from_rev_slice front (ap iter_rest c.rev.ensures.source ∙ c.iter-2.ensures.rest))) c.take_while.ensures.closure c.take_while.ensures.done (λ x b q k. search (rules, tests))) ∙ length-prefix_len (λ b. not (feed b)) (reverse front) in
    (λ k. record { line = 1 + feeds k; column = 1 + behind k }) ∙ ap place_of (ap (λ n. take n c.args.text.now) c.min.ensures ∙ take_min c.args.at c.args.text.now)
