use Rattle.std.proofs.Common.{◌≡◌, ℕ, ◌-◌, List, length, replicate, ap, ◌∙◌, rules}
use Rattle.std.proofs.lemmas.List.{places}
use Rattle.forms.specs.Flat.{part}
use Rattle.forms.proofs.Clearing.{cleared_at}
use Rattle.forms.proofs.clear.clear.Goals as goal

pub returns : goal.returns
returns c =
    let is = c.in_ok-end.ensures in
    let len : length (part c.args.at c.in_ok-end.end c.args.work.now) ≡ c.in_ok-end.end - c.args.at = search (rules, places) in
    cleared_at 32 c.args.n c.args.at c.in_ok-end.end c.args.work.now _ is.0 is.1
    (c.fill.ensures.after (λ y h. h) ∙ ap {A = ℕ} {B = List ℕ} (λ (z : ℕ). replicate z 0) len)
