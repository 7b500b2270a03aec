use Rattle.std.proofs.Common.{◌≡◌, ℕ, List, sym, ap, ◌∙◌, subst, arith}
use Rattle.forms.specs.Laws.{Written}
use Rattle.forms.proofs.Reading.{row_before}
use Rattle.forms.proofs.Telling.{told, tell_told, told_start, told_zeros, told_turn}
use Rattle.forms.proofs.table.Table.write_laws.Goals as goal

pub rows-init : goal.rows-init
rows-init c = (told_start 32 c.args.self.now.places c.args.self.now.words.now c.args.rows.now, omega arith, omega arith)

pub rows-preserved : goal.rows-preserved
rows-preserved c = (
  told_turn 32 c.args.self.now.places c.args.self.now.words.now c.rows.next c.loop-q.q c.rows.count c.args.rows.now c.rows.rows c.write_law.new.law c.loop-q.auto.q c.loop-q-test.true
      c.loop-q.invariant (omega arith) c.write_law.ensures
      (let room = row_before c.args.self.now.places c.rows.count c.args.self.now.places (omega (arith, c.rows.invariant.1)) in omega arith) c.rows.invariant.0,
  omega (arith, c.rows.invariant.1),
  omega arith,
)

pub returns : goal.returns
returns c =
    let zeros = told_zeros 32 c.args.self.now.places c.args.self.now.words.now c.args.self.now.places c.rows.next c.loop-q.q c.loop-q.auto.q c.loop-q.invariant in
    let all : c.loop-q.q ≡ c.args.self.now.places = omega (arith, c.rows.invariant.2) in
    subst (λ (x : List (List ℕ)). Written c.args.self.now.places x c.args.rows.now c.rows.rows c.rows.count)
    (sym zeros ∙ ap (told 32 c.args.self.now.places c.args.self.now.words.now c.args.self.now.places) all ∙ sym (tell_told 32 c.args.self.now.places c.args.self.now.words.now c.args.self.now.places)) c.rows.invariant.0
