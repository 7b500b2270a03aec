-- odd numbers have inverses; a number is an odd one times a power of two
use mathlib.Core.Path.{◌≡◌, refl, sym, ap, ◌∙◌}
use mathlib.Core.Logic.{◌⊎◌, inl, inr}
use Prim.Native.Nat.{ℕ, zero, suc, ◌+◌, ◌*◌, ◌%◌, ◌/◌, ◌-◌, ◌^◌, ◌<◌, ◌≤◌}
use native.Mathlib.Omega.{arith}
use native.Mathlib.Nat.{mod-mod_of_dvd, dvd-mul_left, add-mul-mod_self_left, pow-suc, mul_assoc, mul-div_cancel, mod-eq_of_lt, div-add-mod, mod_self, mod-one, mul-one, add-suc}
use lib.Pow.{pow-add, pow_pos, pow-lt}
use lib.Count.{count_trailing_zeros, under, trailing_of_zero}
use native.Mathlib.Decide.{dec_le}
use Rattle.algebra.proofs.Modular.{mul_mod_mod, neg_suc}
use Rattle.algebra.specs.Vec.{neg}
use Rattle.algebra.specs.Inverse.{newton, rounds, inverse}

-- a remainder by what divides the modulus
pub mod_all_mod : (w c p x : ℕ) → c * p ≡ 2 ^ w → x % 2 ^ w % p ≡ x % p
mod_all_mod w c p x h = rw (← h) (mod-mod_of_dvd p x (dvd-mul_left p c))

mul_all_mod : (w c p x y : ℕ) → c * p ≡ 2 ^ w → (x * (y % 2 ^ w)) % p ≡ (x * y) % p
mul_all_mod w c p x y h = sym (mul_mod_mod x (y % 2 ^ w) p) ∙ ap (λ (z : ℕ). (x * z) % p) (mod_all_mod w c p y h) ∙ mul_mod_mod x y p

-- from digits right below p to digits right below q, where q divides p * p
pub newton_step : (w c d p q u a : ℕ) → c * q ≡ 2 ^ w → d * q ≡ p * p → (u * a) % p ≡ 1 → (u * newton w u a) % q ≡ 1 % q
unfolding newton
newton_step w c d p q u a h g o =
    mul_all_mod w c q u (a * (b % 2 ^ w)) h ∙ ap (λ (x : ℕ). x % q) regroup ∙ mul_all_mod w c q (u * a) b h ∙ ap (λ (x : ℕ). x % q) (ring (u * a) is) ∙ add-mul-mod_self_left 1 q (c * (1 + 2 * (p * e)) + neg w * (d * (e * e)))
  where
    b : ℕ
    b = 2 + neg w * (u * a)

    e : ℕ
    e = (u * a) / p

    regroup : u * (a * (b % 2 ^ w)) ≡ (u * a) * (b % 2 ^ w)
    regroup = sym (mul_assoc u a (b % 2 ^ w))

    is : u * a ≡ 1 + p * e
    is = omega (arith, div-add-mod (u * a) p)

    ring : (z : ℕ) → z ≡ 1 + p * e → z * (2 + neg w * z) ≡ 1 + q * (c * (1 + 2 * (p * e)) + neg w * (d * (e * e)))
    ring z f = rw f (omega (arith, ap (λ (t : ℕ). t * (1 + 2 * (p * e))) (h ∙ neg_suc w), ap (λ (t : ℕ). neg w * (e * e) * t) g))

divides : (i j : ℕ) → i ≤ j → 2 ^ (j - i) * 2 ^ i ≡ 2 ^ j
divides i j h = sym (pow-add 2 (j - i) i) ∙ ap (λ (z : ℕ). 2 ^ z) (omega arith)

one_mod : (j : ℕ) → 0 < j → 1 % 2 ^ j ≡ 1
one_mod j h = mod-eq_of_lt (pow-lt {i = 0} {j = j} h)

-- after k rounds 2 ^ k digits are right
pub rounds_are : (w k j u : ℕ) → u % 2 ≡ 1 → j ≤ w → j ≤ 2 ^ k → (u * rounds w k u) % 2 ^ j ≡ 1 % 2 ^ j
unfolding rounds
rounds_are w k zero u h le l = mod-one (u * rounds w k u)
rounds_are w zero (suc zero) u h le l = omega arith
rounds_are w zero (suc (suc j)) u h le l = absurd (omega arith)
rounds_are w (suc k) (suc j) u h le l = newton_step w (2 ^ (w - suc j)) (2 ^ ((i + i) - suc j)) (2 ^ i) (2 ^ suc j) u (rounds w k u) (divides (suc j) w le) (divides (suc j) (i + i) (omega arith) ∙ pow-add 2 i i) (rounds_are w k i u h (omega arith) (omega (arith, pow-suc 2 k)) ∙ one_mod i (omega arith))
  where
    i : ℕ
    i = suc (j / 2)

big : (d : ℕ) → 64 + d ≤ 2 ^ (6 + d)
big zero = omega arith
big (suc d) = omega (arith, big d, pow-suc 2 (6 + d), ap (λ (z : ℕ). 2 ^ z) (add-suc 6 d))

pub inverse_is : (w u : ℕ) → u % 2 ≡ 1 → (u * inverse w u) % 2 ^ w ≡ 1 % 2 ^ w
unfolding inverse
inverse_is w u h = rounds_are w (6 + (w - 64)) w u h (omega arith) (omega (arith, big (w - 64)))

-- an inverse below 2 ^ w is the inverse
pub inverse_only : (w u a b : ℕ) → a < 2 ^ w → b < 2 ^ w → (u * a) % 2 ^ w ≡ 1 % 2 ^ w → (u * b) % 2 ^ w ≡ 1 % 2 ^ w → a ≡ b
inverse_only w u a b la lb ha hb = sym (mod-eq_of_lt la) ∙ sym (turn a b hb) ∙ ap (λ (x : ℕ). x % 2 ^ w) (omega arith) ∙ turn b a ha ∙ mod-eq_of_lt lb
  where
    turn : (x y : ℕ) → (u * y) % 2 ^ w ≡ 1 % 2 ^ w → (x * (u * y)) % 2 ^ w ≡ x % 2 ^ w
    turn x y h = sym (mul_mod_mod x (u * y) (2 ^ w)) ∙ ap (λ (z : ℕ). (x * z) % 2 ^ w) h ∙ mul_mod_mod x 1 (2 ^ w) ∙ ap (λ (z : ℕ). z % 2 ^ w) (mul-one x)

-- the zeros below the lowest digit
pub record Split (k x t : ℕ) : Type 0 where
  pub unit : ℕ
  pub is : x ≡ unit * 2 ^ t
  pub odd : (t ≡ k) ⊎ (unit % 2 ≡ 1)

split_by : (k x d t : ℕ) → x % 2 ≡ d → Split k (x / 2) t → Split (suc k) x (under d t)
split_by k x zero t h s = record { unit = s.unit; is = rw pow-suc (omega (arith, s.is)); odd = elim s.odd [ inl e ↦ inl (ap suc e) | inr o ↦ inr o ] }
split_by k x (suc d) t h s = record { unit = x; is = omega arith; odd = inr (omega arith) }

pub split : (k x : ℕ) → Split k x (count_trailing_zeros k x)
unfolding count_trailing_zeros
split zero x = record { unit = x; is = omega arith; odd = inl refl }
split (suc k) x = split_by k x (x % 2) (count_trailing_zeros k (x / 2)) refl (split k (x / 2))

-- the exponent can be read off the row: 2 ^ e has e zeros below, and 0, for 2 ^ w, has w
trailing_pow : (k e : ℕ) → e < k → count_trailing_zeros k (2 ^ e) ≡ e
unfolding count_trailing_zeros
trailing_pow zero e h = absurd (omega arith)
trailing_pow (suc k) zero h = refl
trailing_pow (suc k) (suc e) h = rw (even, half) (ap suc (trailing_pow k e (omega arith)))
  where
    even : 2 ^ suc e % 2 ≡ 0
    even = omega arith

    half : 2 ^ suc e / 2 ≡ 2 ^ e
    half = omega arith

pub trailing_slot : (w e : ℕ) → e ≤ w → count_trailing_zeros w (2 ^ e % 2 ^ w) ≡ e
trailing_slot w e h = elim (dec_le w e) [ yes p ↦ (let q : e ≡ w = omega arith in rw (q, mod_self (2 ^ w)) (trailing_of_zero w)) | no p ↦ ap (count_trailing_zeros w) (mod-eq_of_lt (pow-lt {i = e} {j = w} (omega arith))) ∙ trailing_pow w e (omega arith) ]

-- x is so many times 2 ^ e
pub quotient : (w e x : ℕ) → e ≤ count_trailing_zeros w x → x ≡ x / 2 ^ e * 2 ^ e
quotient w e x h = is ∙ ap (λ (z : ℕ). z * 2 ^ e) (sym (mul-div_cancel (u * 2 ^ d) (pow_pos e)) ∙ ap (λ (z : ℕ). z / 2 ^ e) (sym is))
  where
    s : Split w x (count_trailing_zeros w x)
    s = split w x

    u : ℕ
    u = s.unit

    d : ℕ
    d = count_trailing_zeros w x - e

    whole : d + e ≡ count_trailing_zeros w x
    whole = omega arith

    is : x ≡ u * 2 ^ d * 2 ^ e
    is = s.is ∙ ap (λ (z : ℕ). u * 2 ^ z) (sym whole) ∙ ap (λ (z : ℕ). u * z) (pow-add 2 d e) ∙ sym (mul_assoc u (2 ^ d) (2 ^ e))

-- where fewer than w zeros stand below, the rest is odd
pub odd_rest : (w x : ℕ) → count_trailing_zeros w x < w → (x / 2 ^ count_trailing_zeros w x) % 2 ≡ 1
odd_rest w x h = elim s.odd [ inl e ↦ absurd (omega arith) | inr o ↦ ap (λ (z : ℕ). z / 2 ^ count_trailing_zeros w x % 2) s.is ∙ ap (λ (z : ℕ). z % 2) (mul-div_cancel s.unit (pow_pos (count_trailing_zeros w x))) ∙ o ]
  where
    s : Split w x (count_trailing_zeros w x)
    s = split w x
