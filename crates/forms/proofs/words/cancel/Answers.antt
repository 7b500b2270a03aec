use Rattle.std.proofs.Common.{◌≡◌, ℕ, ◌-◌, ◌*◌, ◌/◌, ◌%◌, ◌^◌, ◌≤◌, arith}
use Rattle.std.proofs.lemmas.Nat.{one_shl, and_mask}
use Rattle.forms.proofs.Cancels.{quotient_below, cancels}
use Rattle.forms.proofs.words.cancel.Goals as goal

modulus_is : (e : ℕ) → e ≤ 32 → (1 * 2 ^ (32 - e)) % 18446744073709551616 ≡ 2 ^ (32 - e)
modulus_is e h = one_shl (32 - e) 64 (omega arith)

pub overflow_sub-result : goal.overflow_sub-result
overflow_sub-result c = omega (arith, modulus_is c.args.e c.requires, quotient_below 32 c.args.e c.requires c.args.sum c.ranges.sum.fits)

pub returns : goal.returns
returns c =
    rw (modulus_is c.args.e c.requires, and_mask (2 ^ (32 - c.args.e) - c.args.sum / 2 ^ c.args.e) (32 - c.args.e))
    (cancels 32 c.args.e c.requires (c.args.sum / 2 ^ c.args.e) (omega (arith, quotient_below 32 c.args.e c.requires c.args.sum c.ranges.sum.fits)))
