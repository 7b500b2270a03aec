-- The inverse of an odd number modulo 2 ^ w.
use Rattle.std.specs.Prelude.{ℕ, zero, suc, ◌+◌, ◌*◌, ◌%◌, ◌-◌, ◌^◌}
use Rattle.algebra.specs.Vec.{neg}

-- Newton's step: it doubles the number of low digits of `a` that are right
unfoldable pub newton : ℕ → ℕ → ℕ → ℕ
newton w u a = (a * ((2 + neg w * (u * a)) % 2 ^ w)) % 2 ^ w

unfoldable pub rounds : ℕ → ℕ → ℕ → ℕ
rounds w zero u = 1
rounds w (suc k) u = newton w u (rounds w k u)

-- six rounds are enough for 64 bits, and one more for each further bit is more than enough
unfoldable pub inverse : ℕ → ℕ → ℕ
inverse w u = rounds w (6 + (w - 64)) u
