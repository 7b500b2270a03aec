-- what cancels a sum that a power of two divides
use Rattle.std.proofs.Common.{◌≡◌, ℕ, suc, ◌+◌, ◌-◌, ◌*◌, ◌/◌, ◌%◌, ◌^◌, ◌<◌, ◌≤◌, List, length, take, drop, replicate, sym, ap, ◌∙◌, ap₂, div-lt_iff_lt-mul, arith, pow_pos, pow-add, rules}
use native.Mathlib.Nat.{add-mul-mod_self_left}
use Rattle.std.proofs.lemmas.List.{places, take-take, drop-drop}
use Rattle.std.proofs.lemmas.Slice.{between_is}
use Rattle.algebra.specs.Vec.{neg, dot}
use Rattle.algebra.specs.Tell.{extra}
use Rattle.algebra.proofs.Modular.{neg_suc}
use Rattle.algebra.proofs.LastPlace.{flip_flip}
use Rattle.forms.specs.Flat.{part, exponent_at, entries_at, slot_at}
use Rattle.forms.proofs.RowSums.{dot_drop}

module _ (w e : ℕ) (h : e ≤ w) where
  powers : 2 ^ (w - e) * 2 ^ e ≡ 2 ^ w
  powers = sym (pow-add 2 (w - e) e) ∙ ap (λ (z : ℕ). 2 ^ z) (omega arith)

  pub quotient_below : (x : ℕ) → x < 2 ^ w → x / 2 ^ e < 2 ^ (w - e)
  quotient_below x l = (div-lt_iff_lt-mul (pow_pos e)).1 (omega (arith, powers))

  pub cancels : (y : ℕ) → y ≤ 2 ^ (w - e) → (2 ^ (w - e) - y) % 2 ^ (w - e) ≡ (neg w * y) % 2 ^ (w - e)
  cancels y l = go (2 ^ (w - e)) (2 ^ e) (neg w) (powers ∙ neg_suc w) l
    where
      go : (m p q : ℕ) → m * p ≡ suc q → y ≤ m → (m - y) % m ≡ (q * y) % m
      go m p q f b =
          sym (add-mul-mod_self_left (m - y) m (p * y))
          ∙ ap (λ (z : ℕ). z % m) (let g = ap (λ (z : ℕ). z * y) f in let i : m - y + m * (p * y) ≡ q * y + m * 1 = omega arith in i)
          ∙ add-mul-mod_self_left (q * y) m 1

-- the word that a law gets at place k, from what its words before that come to with the entries of row k
pub extra_at : (w n k : ℕ) (ws c : List ℕ) → (neg w * (dot w c (entries_at n k ws) / 2 ^ exponent_at w n k ws)) % 2 ^ (w - exponent_at w n k ws) ≡ extra w (slot_at w n k ws) c
unfolding extra
extra_at w n k ws c = ap (λ (z : List ℕ). (neg w * (dot w c z / 2 ^ exponent_at w n k ws)) % 2 ^ (w - exponent_at w n k ws)) (sym (flip_flip (entries_at n k ws)))

-- the words before the law's lead need not be looked at
pub sum_from : (w n k lead : ℕ) (ws law : List ℕ) → k * n + n ≤ length ws → length law ≡ n → k < n → lead ≤ k → take lead law ≡ replicate lead 0
    → dot w (part lead k law) (part (k * n + lead) (k * n + k) ws) ≡ dot w (take k law) (entries_at n k ws)
sum_from w n k lead ws law room sized place before zeros =
    ap₂ (dot w) (between_is law lead k) far
    ∙ dot_drop w lead (take k law) (entries_at n k ws) (let e : length (entries_at n k ws) ≡ k = search (rules, places) in omega arith) (take-take lead k law before ∙ zeros)
  where
    far : part (k * n + lead) (k * n + k) ws ≡ drop lead (entries_at n k ws)
    far =
        between_is ws (k * n + lead) (k * n + k) ∙ sym (drop-drop lead (k * n) (take (k * n + k) ws)) ∙ ap (drop lead) (sym (between_is ws (k * n) (k * n + k)))
