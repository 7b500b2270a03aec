use Rattle.std.proofs.Common.{take, rules}
use Rattle.forms.proofs.Reading.{row_in}
use Rattle.forms.proofs.Cancels.{extra_at, sum_from}
use Rattle.forms.proofs.table.Table.extend.Goals as goal

pub returns : goal.returns
returns c =
    let e = extra_at 32 c.args.self.now.places c.args.k c.args.self.now.words.now (take c.args.k c.args.law.now) in
    let s = sum_from 32 c.args.self.now.places c.args.k c.args.lead c.args.self.now.words.now c.args.law.now (row_in c.args.self.now.places c.args.k c.args.self.now.words.now (search rules) c.requires.place) c.requires.sized c.requires.place c.requires.before c.requires.zeros in
    cc
