use Rattle.std.proofs.Common.{◌≡◌, ℕ, ◌-◌, ◌^◌, List, length, take, replicate, ap, ◌∙◌, arith, rules}
use Rattle.std.proofs.lemmas.Nat.{one_shl}
use Rattle.std.proofs.lemmas.List.{places}
use Rattle.forms.proofs.Telling.{law_start, law_step}
use Rattle.forms.proofs.table.Table.write_law.Goals as goal

pub loop-k-init : goal.loop-k-init
loop-k-init c =
    let len : length (take c.args.q c.args.law.now) ≡ c.args.q = search (rules, places) in
    law_start 32 c.args.self.now.places c.args.self.now.words.now c.args.q _ c.args.law.now c.fill.new.self c.requires.place c.requires.sized
    (c.fill.ensures.after (λ y h. h) ∙ ap {A = ℕ} {B = List ℕ} (λ (z : ℕ). replicate z 0) len)
    (one_shl (32 - c.exponent.result) 32 (omega arith) ∙ ap (λ (x : ℕ). 2 ^ (32 - x)) c.exponent.ensures.is)

pub loop-k-preserved : goal.loop-k-preserved
loop-k-preserved c =
    law_step 32 c.args.self.now.places c.args.self.now.words.now c.args.q c.loop-k.k c.loop-k.law _ (omega arith) c.loop-k-test.true c.extend.ensures c.loop-k.invariant
