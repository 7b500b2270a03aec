use Rattle.std.proofs.Common.{length, refl, arith, rules}
use Rattle.std.proofs.lemmas.List.{places}
use Rattle.forms.proofs.Grown.{inserted_part}
use Rattle.forms.proofs.insert.insert.Goals as goal

pub returns : goal.returns
returns c =
    let is = c.in_ok-end.ensures in
    inserted_part 32 (length c.args.row.now) c.args.at c.in_ok-end.end c.args.work.now _ c.args.row.now c.args.changed.now _ _ is.0 is.1 (omega arith) refl
    (search (rules, places)) (search rules) (search rules) c.pass.ensures
