-- inverses of odd numbers, from a start that is right modulo 8
use Rattle.std.proofs.Common.{◌≡◌, ℕ, zero, suc, ◌+◌, ◌-◌, ◌*◌, ◌/◌, ◌%◌, ◌^◌, ◌<◌, ◌⊎◌, refl, ap, ◌∙◌, inl, inr, arith}
use Rattle.algebra.specs.Vec.{neg}
use Rattle.algebra.specs.Inverse.{newton, rounds, inverse}
use Rattle.algebra.proofs.Modular.{sub_wraps}
use Rattle.algebra.proofs.Vec.{mod_small}
use Rattle.algebra.proofs.Units.{newton_step, inverse_is, inverse_only}

-- Newton's step as machines take it
pub newton_wraps : (w u a : ℕ) → (a * ((2 + (2 ^ w - (u * a) % 2 ^ w)) % 2 ^ w)) % 2 ^ w ≡ newton w u a
unfolding newton
newton_wraps w u a = ap (λ (z : ℕ). (a * z) % 2 ^ w) (sub_wraps w 2 (u * a))

newton_small : (w u a : ℕ) → newton w u a < 2 ^ w
unfolding newton
newton_small w u a = mod_small w (a * ((2 + neg w * (u * a)) % 2 ^ w))

inverse_small : (u : ℕ) → inverse 32 u < 2 ^ 32
unfolding inverse rounds
inverse_small u = newton_small 32 u (rounds 32 5 u)

-- the square of an odd number is 1 modulo 8
odd_square : (u : ℕ) → u % 2 ≡ 1 → (u * u) % 8 ≡ 1
odd_square u h = elim sides [ inl e ↦ low e | inr e ↦ high e ]
  where
    p : ℕ
    p = u / 4

    sides : (u ≡ 4 * p + 1) ⊎ (u ≡ 4 * p + 3)
    sides = near (u % 4) refl
      where
        near : (r : ℕ) → r ≡ u % 4 → (u ≡ 4 * p + 1) ⊎ (u ≡ 4 * p + 3)
        near zero e = absurd (omega arith)
        near (suc zero) e = inl (omega arith)
        near (suc (suc zero)) e = absurd (omega arith)
        near (suc (suc (suc zero))) e = inr (omega arith)
        near (suc (suc (suc (suc r)))) e = absurd (omega arith)

    low : u ≡ 4 * p + 1 → (u * u) % 8 ≡ 1
    low e = ap (λ (z : ℕ). (z * z) % 8) e ∙ (let q : (4 * p + 1) * (4 * p + 1) ≡ 8 * (2 * (p * p) + p) + 1 = omega arith in omega arith)

    high : u ≡ 4 * p + 3 → (u * u) % 8 ≡ 1
    high e = ap (λ (z : ℕ). (z * z) % 8) e ∙ (let q : (4 * p + 3) * (4 * p + 3) ≡ 8 * (2 * (p * p) + 3 * p + 1) + 1 = omega arith in omega arith)

-- four steps from the number itself give the inverse of 32 bits
pub four_steps : (u : ℕ) → u % 2 ≡ 1 → newton 32 u (newton 32 u (newton 32 u (newton 32 u u))) ≡ inverse 32 u
four_steps u h =
    inverse_only 32 u (newton 32 u (newton 32 u (newton 32 u (newton 32 u u)))) (inverse 32 u)
    (newton_small 32 u (newton 32 u (newton 32 u (newton 32 u u)))) (inverse_small u)
    (newton_step 32 1 65536 16777216 4294967296 u _ refl refl
    (newton_step 32 256 1 4096 16777216 u _ refl refl
    (newton_step 32 1048576 1 64 4096 u _ refl refl
    (newton_step 32 67108864 1 8 64 u u refl refl (odd_square u h)))))
    (inverse_is 32 u h)
