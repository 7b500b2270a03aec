-- sums of rows, place by place as a loop makes them, and as lists
use Rattle.std.proofs.Common.{◌≡◌, ℕ, zero, suc, ◌+◌, ◌*◌, ◌%◌, ◌^◌, ◌<◌, ◌≤◌, List, [], ◌∷◌, length, get_or, take, drop, replicate, sym, refl, ap, ◌∙◌, le_of_suc-le-suc, add-one, arith}
use native.Mathlib.Nat.{suc_inj, zero-mod, add-mod-mod}
use Rattle.std.proofs.lemmas.List.{ext_get_or, get_or_past, take_all}
use Rattle.algebra.specs.Vec.{plus, times, dot}
use Rattle.algebra.proofs.Modular.{mods}
use Rattle.algebra.proofs.Vec.{length_plus, length_times, dot_mod}

pub get_or_times : (w k i : ℕ) (v : List ℕ) → get_or (times w k v) i 0 ≡ (k * get_or v i 0) % 2 ^ w
get_or_times w k i [] = sym (ap (λ (z : ℕ). z % 2 ^ w) (omega arith) ∙ zero-mod (2 ^ w))
get_or_times w k zero (x ∷ v) = refl
get_or_times w k (suc i) (x ∷ v) = get_or_times w k i v

pub get_or_plus : (w i : ℕ) (v t : List ℕ) → i < length v → length v ≡ length t → get_or (plus w v t) i 0 ≡ (get_or v i 0 + get_or t i 0) % 2 ^ w
get_or_plus w i [] t h e = absurd (omega arith)
get_or_plus w i (x ∷ v) [] h e = absurd (omega arith)
get_or_plus w zero (x ∷ v) (y ∷ t) h e = refl
get_or_plus w (suc i) (x ∷ v) (y ∷ t) h e = get_or_plus w i v t (le_of_suc-le-suc h) (suc_inj e)

-- in the first n places u is v + k t, and behind them v
pub record Added (w n k : ℕ) (v t u : List ℕ) : Type 0 where
  pub len : length u ≡ length v
  pub front : (i : ℕ) → i < n → get_or u i 0 ≡ (get_or v i 0 + k * get_or t i 0) % 2 ^ w
  pub back : (i : ℕ) → n ≤ i → get_or u i 0 ≡ get_or v i 0

pub added_all : (w n k : ℕ) (v t u : List ℕ) → length v ≡ length t → length v ≤ n → Added w n k v t u → u ≡ plus w v (times w k t)
added_all w n k v t u e h a =
    ext_get_or 0 u (plus w v (times w k t)) (a.len ∙ sym (length_plus w v (times w k t) same))
    (λ i b.
    let c : i < length v = omega (arith, a.len) in
    a.front i (omega arith)
    ∙ sym (add-mod-mod (get_or v i 0) (k * get_or t i 0) (2 ^ w))
    ∙ ap (λ (z : ℕ). (get_or v i 0 + z) % 2 ^ w) (sym (get_or_times w k i t))
    ∙ sym (get_or_plus w i v (times w k t) c same))
  where
    same : length v ≡ length (times w k t)
    same = e ∙ sym (length_times w k t)

-- in the first n places s is c times v and u is t plus k times that; behind them s is t and u is v
pub record Exchanged (w n c k : ℕ) (v t u s : List ℕ) : Type 0 where
  pub len_s : length s ≡ length t
  pub len_u : length u ≡ length v
  pub new : (i : ℕ) → i < n → get_or s i 0 ≡ (0 + c * get_or v i 0) % 2 ^ w
  pub left : (i : ℕ) → i < n → get_or u i 0 ≡ (get_or t i 0 + k * ((0 + c * get_or v i 0) % 2 ^ w)) % 2 ^ w
  pub new_back : (i : ℕ) → n ≤ i → get_or s i 0 ≡ get_or t i 0
  pub left_back : (i : ℕ) → n ≤ i → get_or u i 0 ≡ get_or v i 0

module _ (w n c k : ℕ) (v t u s : List ℕ) (e : length v ≡ length t) (h : length v ≤ n) (x : Exchanged w n c k v t u s) where
  times_at : (i : ℕ) → (0 + c * get_or v i 0) % 2 ^ w ≡ get_or (times w c v) i 0
  times_at i = ap (λ (z : ℕ). z % 2 ^ w) (omega arith) ∙ sym (get_or_times w c i v)

  pub exchanged_new : s ≡ times w c v
  exchanged_new = ext_get_or 0 s (times w c v) (x.len_s ∙ sym e ∙ sym (length_times w c v)) (λ i b. x.new i (omega (arith, x.len_s)) ∙ times_at i)

  pub exchanged_left : u ≡ plus w t (times w k (times w c v))
  exchanged_left =
      added_all w n k t (times w c v) u (sym e ∙ sym (length_times w c v)) (omega arith)
      (record {
        len = x.len_u ∙ e;
        front = λ i b. x.left i b ∙ ap (λ (z : ℕ). (get_or t i 0 + k * z) % 2 ^ w) (times_at i);
        back = λ i b. get_or_past u i 0 (omega (arith, x.len_u)) ∙ sym (get_or_past t i 0 (omega arith));
      })

-- the sum of products, one place more
dot_suc : (w i : ℕ) (c x : List ℕ) → i < length c → i < length x → dot w (take (suc i) c) (take (suc i) x) ≡ (dot w (take i c) (take i x) + get_or c i 0 * get_or x i 0) % 2 ^ w
dot_suc w i [] x h g = absurd (omega arith)
dot_suc w i (a ∷ c) [] h g = absurd (omega arith)
dot_suc w zero (a ∷ c) (b ∷ x) h g = ap (λ (z : ℕ). z % 2 ^ w) (omega arith)
dot_suc w (suc i) (a ∷ c) (b ∷ x) h g = ap (λ (z : ℕ). (a * b + z) % 2 ^ w) (dot_suc w i c x (le_of_suc-le-suc h) (le_of_suc-le-suc g)) ∙ turn (a * b) (dot w (take i c) (take i x)) (get_or c i 0 * get_or x i 0)
  where
    turn : (p q r : ℕ) → (p + (q + r) % 2 ^ w) % 2 ^ w ≡ ((p + q) % 2 ^ w + r) % 2 ^ w
    turn p q r = simp mods (ap (λ (z : ℕ). z % 2 ^ w) (omega arith))

pub dot_more : (w i : ℕ) (c x : List ℕ) → i < length c → i < length x → dot w (take (i + 1) c) (take (i + 1) x) ≡ (dot w (take i c) (take i x) + get_or c i 0 * get_or x i 0) % 2 ^ w
dot_more w i c x h g = rw add-one (dot_suc w i c x h g)

pub dot_all : (w n : ℕ) (c x : List ℕ) → length c ≡ length x → length c ≤ n → dot w (take n c) (take n x) ≡ dot w c x
dot_all w n c x e h = rw (take_all n c h, take_all n x (omega arith))

-- zeros before a place of one add nothing
pub dot_drop : (w q : ℕ) (c x : List ℕ) → q ≤ length x → take q c ≡ replicate q 0 → dot w (drop q c) (drop q x) ≡ dot w c x
dot_drop w zero c x h z = refl
dot_drop w (suc q) [] [] h z = refl
dot_drop w (suc q) [] (b ∷ x) h z = refl
dot_drop w (suc q) (a ∷ c) [] h z = absurd (omega arith)
dot_drop w (suc q) (a ∷ c) (b ∷ x) h z =
    let first : a ≡ 0 = cc in
    let rest : take q c ≡ replicate q 0 = cc in
    dot_drop w q c x (le_of_suc-le-suc h) rest ∙ sym (ap (λ (y : ℕ). (y * b + dot w c x) % 2 ^ w) first ∙ ap (λ (y : ℕ). y % 2 ^ w) (omega arith) ∙ dot_mod w c x)
