use Rattle.std.proofs.Common.{◌≡◌, ℕ, ◌+◌, ◌-◌, ◌*◌, ◌%◌, ◌^◌, ◌<◌, ◌≤◌, get_or, length, Option, None, Some, SomeIff, unwrap_or, refl, sym, ap, ◌∙◌, arith}
use lib.Count.{trailing_le}
use Rattle.algebra.specs.Vec.{neg}
use Rattle.algebra.proofs.Modular.{sub_wraps}
use Rattle.algebra.proofs.Units.{odd_rest}
use Rattle.forms.proofs.Turns.{turned_new, turned_keep}
use Rattle.forms.proofs.table.insert_at.Goals as goal

pub inverse-unit-requires : goal.inverse-unit-requires
inverse-unit-requires c = odd_rest 32 _ (omega (arith, trailing_le 32 (get_or c.args.table.now (c.args.k * (length c.args.row.now) + c.args.k) 0)))

-- 2 ^ d as the code shifts it
shifted : (o : Option ℕ) (d r : ℕ) → d ≤ 32 → SomeIff o (d < 32) ((1 * 2 ^ d) % 2 ^ 32) → r ≡ unwrap_or o 0 → r ≡ 2 ^ d % 2 ^ 32
shifted None d r h s e =
    let same : d ≡ 32 = omega (arith, s) in
    e ∙ ap (λ (z : ℕ). 2 ^ z % 2 ^ 32) (sym same)
shifted (Some x) d r h s e = omega (arith, e, s.1)

-- the negative as the code makes it
negated : (a r : ℕ) → r < 4294967296 → (r + a) % 4294967296 ≡ 0 → r ≡ (neg 32 * a) % 2 ^ 32
negated a r h e =
    let d : r ≡ (0 + (4294967296 - a % 4294967296)) % 4294967296 = omega arith in
    d ∙ sub_wraps 32 0 a ∙ ap (λ (z : ℕ). z % 4294967296) (omega arith)

pub returns-then-new-old : goal.returns-then-new-old
returns-then-new-old c =
    turned_new 32 (length c.args.row.now) c.args.k c.args.table.now c.args.row.now c.requires.room refl c.requires.place
    _ _ _ _ _ c.if-new-old.true (omega arith) c.inverse-unit.ensures
    (negated _ _ (omega arith) c.wrapping_neg.ensures ∙ ap (λ (z : ℕ). (neg 32 * z) % 4294967296) (shifted _ _ _ (omega (arith, trailing_le 32 (get_or c.args.table.now (c.args.k * (length c.args.row.now) + c.args.k) 0))) c.checked_shl.ensures c.unwrap_or-times.ensures))
    c.exchange.ensures.new c.exchange.ensures.left

pub returns-else-new-old : goal.returns-else-new-old
returns-else-new-old c =
    turned_keep 32 (length c.args.row.now) c.args.k c.args.table.now c.args.row.now c.requires.room refl c.requires.place
    _ _ c.if-new-old.false (negated _ _ (omega arith) c.wrapping_neg-else-new-old.ensures) c.add_multiple.ensures
