use Rattle.std.proofs.Common.{rules, ◌∙◌, tests}
use Rattle.std.proofs.lemmas.Iterator.Splits.{YieldsList-from_slice_split}
use Rattle.text.specs.Bytes.{feed}
use Rattle.text.specs.Lines.{told}
use Rattle.text.proofs.Parts.{names_are}
use Rattle.text.proofs.Found.{found}
use Rattle.text.proofs.lines.names.Goals as goal

pub returns : goal.returns
returns c =
    found _ (λ x. x.now) (told c.args.key.now) (λ x r q k. search (rules, tests)) _ _ c.find_map.result c.find_map.ensures.ran c.find_map.ensures.runs
    (YieldsList-from_slice_split _ feed c.args.text.now c.split.ensures.rest c.split.ensures.done c.split.ensures.closure (λ x b q k. search (rules, tests)))
    ∙ names_are c.args.key.now c.args.text.now
