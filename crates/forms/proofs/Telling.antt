-- the laws of a table, as they are written, are those that the model tells
use Rattle.std.proofs.Common.{◌≡◌, ℕ, zero, suc, ◌+◌, ◌-◌, ◌*◌, ◌^◌, ◌<◌, ◌≤◌, List, [], ◌∷◌, ◌++◌, length, take, drop, set, replicate, sym, refl, ap, ◌∙◌, subst, ap₂, add-one, arith, rules}
use borrow.Rule.Slice.PartMut.{put_mid}
use Rattle.std.proofs.lemmas.List.{places, length-set, take_at, append-nil, append_assoc, length-append, length-replicate, take-set, take-set-le, take_more_set, drop-drop}
use Rattle.std.proofs.lemmas.Slice.{take-put_mid, drop-put_mid}
use Rattle.algebra.specs.Vec.{snoc}
use Rattle.algebra.specs.Tell.{extra, extend, final, tell}
use Rattle.algebra.proofs.LastPlace.{length_snoc}
use Rattle.forms.specs.Flat.{exponent_at, slot_at, read}
use Rattle.forms.specs.Laws.{law_to, flat, Written}
use Rattle.forms.proofs.Reading.{length_read}

-- a row for a place whose pivot is not 1
unfoldable pub lead_row : ℕ → List ℕ → List (List ℕ)
lead_row zero r = []
lead_row (suc e) r = r ∷ []

-- the laws with their leads at the places before j, up to the place k
unfoldable pub told : ℕ → ℕ → List ℕ → ℕ → ℕ → List (List ℕ)
told w n ws k zero = []
told w n ws k (suc j) = told w n ws k j ++ lead_row (exponent_at w n j ws) (law_to w n ws j (k - suc j))

extend_append : (g : List ℕ → ℕ) (rs ss : List (List ℕ)) → extend g (rs ++ ss) ≡ extend g rs ++ extend g ss
unfolding extend
extend_append g [] ss = refl
extend_append g (r ∷ rs) ss = ap {A = List (List ℕ)} {B = List (List ℕ)} (λ (x : List (List ℕ)). snoc r (g r) ∷ x) (extend_append g rs ss)

extend_lead : (g : List ℕ → ℕ) (e : ℕ) (r : List ℕ) → extend g (lead_row e r) ≡ lead_row e (snoc r (g r))
unfolding extend lead_row
extend_lead g zero r = refl
extend_lead g (suc e) r = refl

snoc_append : (xs : List ℕ) (y : ℕ) → snoc xs y ≡ xs ++ (y ∷ [])
snoc_append [] y = refl
snoc_append (x ∷ xs) y = ap (λ (z : List ℕ). x ∷ z) (snoc_append xs y)

module _ (w n : ℕ) (ws : List ℕ) where
  law_more : (q k : ℕ) → q < k → snoc (law_to w n ws q (k - suc q)) (extra w (slot_at w n k ws) (law_to w n ws q (k - suc q))) ≡ law_to w n ws q (k - q)
  unfolding law_to
  law_more q k h =
      ap (λ (z : ℕ). snoc (law_to w n ws q (k - suc q)) (extra w (slot_at w n z ws) (law_to w n ws q (k - suc q)))) (let e : k ≡ suc (q + (k - suc q)) = omega arith in e)
      ∙ ap (law_to w n ws q) (let e : suc (k - suc q) ≡ k - q = omega arith in e)

  extend_told : (k j : ℕ) → j ≤ k → extend (extra w (slot_at w n k ws)) (told w n ws k j) ≡ told w n ws (suc k) j
  unfolding told extend
  extend_told k zero h = refl
  extend_told k (suc j) h =
      extend_append (extra w (slot_at w n k ws)) (told w n ws k j) (lead_row (exponent_at w n j ws) (law_to w n ws j (k - suc j)))
      ∙ ap₂ (λ (a b : List (List ℕ)). a ++ b) (extend_told k j (omega arith))
      (extend_lead (extra w (slot_at w n k ws)) (exponent_at w n j ws) (law_to w n ws j (k - suc j))
      ∙ ap (lead_row (exponent_at w n j ws)) (law_more j k (omega arith) ∙ ap (law_to w n ws j) (let e : k - j ≡ suc k - suc j = omega arith in e)))

  final_lead : (e k : ℕ) → e ≡ exponent_at w n k ws → final w e k ≡ lead_row e (law_to w n ws k 0)
  unfolding final lead_row law_to
  final_lead zero k h = refl
  final_lead (suc e) k h = ap {A = List ℕ} {B = List (List ℕ)} (λ (x : List ℕ). x ∷ []) (ap (λ (z : ℕ). snoc (replicate k 0) (2 ^ (w - z))) h)

  -- what is written is what the model tells
  pub tell_told : (k : ℕ) → tell w (read w n k ws) ≡ told w n ws k k
  unfolding tell told read
  tell_told zero = refl
  tell_told (suc k) =
      ap₂ (λ (a b : List (List ℕ)). a ++ b) (ap (extend (extra w (slot_at w n k ws))) (tell_told k) ∙ extend_told k k (omega arith))
      (ap (final w (exponent_at w n k ws)) (length_read w n k ws)
      ∙ final_lead (exponent_at w n k ws) k refl
      ∙ ap (λ (z : ℕ). lead_row (exponent_at w n k ws) (law_to w n ws k z)) (let e : 0 ≡ suc k - suc k = omega arith in e))

  -- places whose pivot is 1 have no law
  told_skip : (k j m : ℕ) → ((i : ℕ) → j ≤ i → i < m + j → exponent_at w n i ws ≡ 0) → told w n ws k (m + j) ≡ told w n ws k j
  unfolding told lead_row
  told_skip k j zero z = ap (told w n ws k) (let e : 0 + j ≡ j = omega arith in e)
  told_skip k j (suc m) z =
      ap (told w n ws k) (let e : suc m + j ≡ suc (m + j) = omega arith in e)
      ∙ ap (λ (x : ℕ). told w n ws k (m + j) ++ lead_row x (law_to w n ws (m + j) (k - suc (m + j)))) (z (m + j) (omega arith) (omega arith))
      ∙ append-nil (told w n ws k (m + j)) ∙ told_skip k j m (λ i a b. z i a (omega arith))

  pub told_zeros : (k j q : ℕ) → j ≤ q → ((i : ℕ) → j ≤ i → i < q → exponent_at w n i ws ≡ 0) → told w n ws k q ≡ told w n ws k j
  told_zeros k j q h z = let e : q - j + j ≡ q = omega arith in ap (told w n ws k) (sym e) ∙ told_skip k j (q - j) (λ i a b. z i a (omega arith))

  lead_some : (e : ℕ) (r : List ℕ) → 0 < e → lead_row e r ≡ r ∷ []
  unfolding lead_row
  lead_some zero r h = absurd (omega arith)
  lead_some (suc e) r h = refl

  told_more : (k q : ℕ) → 0 < exponent_at w n q ws → told w n ws k (q + 1) ≡ told w n ws k q ++ (law_to w n ws q (k - suc q) ∷ [])
  unfolding told
  told_more k q h = ap (told w n ws k) (add-one q) ∙ ap (λ (x : List (List ℕ)). told w n ws k q ++ x) (lead_some (exponent_at w n q ws) (law_to w n ws q (k - suc q)) h)

  length_law : (q m : ℕ) → length (law_to w n ws q m) ≡ suc (q + m)
  unfolding law_to
  length_law q zero = length_snoc (replicate q 0) (2 ^ (w - exponent_at w n q ws)) ∙ ap suc (length-replicate q 0 ∙ (let e : q ≡ q + 0 = omega arith in e))
  length_law q (suc m) = length_snoc (law_to w n ws q m) (extra w (slot_at w n (suc (q + m)) ws) (law_to w n ws q m)) ∙ ap suc (length_law q m ∙ (let e : suc (q + m) ≡ q + suc m = omega arith in e))

  -- the loop over the places behind the lead q: the words of the law c before the place k are written
  pub record Law (q k : ℕ) (c : List ℕ) : Type 0 where
    pub sized : length c ≡ n
    pub zeros : take q c ≡ replicate q 0
    pub words : take k c ≡ law_to w n ws q (k - suc q)

  -- zeros before the lead, and the lead
  pub law_start : (q y : ℕ) (c z : List ℕ) → q < n → length c ≡ n → z ≡ replicate q 0 → y ≡ 2 ^ (w - exponent_at w n q ws) → Law q (q + 1) (set (z ++ drop q c) q y)
  unfolding law_to
  law_start q y c z h len is e = record {
    sized = length-set d q y ∙ len_d;
    zeros = take-set d q y ∙ front;
    words =
        take_more_set d q y (omega (arith, len_d))
        ∙ ap₂ (λ (a : List ℕ) (b : ℕ). a ++ (b ∷ [])) front e
        ∙ sym (snoc_append (replicate q 0) (2 ^ (w - exponent_at w n q ws)))
        ∙ ap (law_to w n ws q) (let i : 0 ≡ q + 1 - suc q = omega arith in i);
  }
    where
      d : List ℕ
      d = z ++ drop q c

      len_d : length d ≡ n
      len_d = let l = ap length is ∙ length-replicate {A = ℕ} q 0 in (search (rules, places))

      front : take q d ≡ replicate q 0
      front = take_at z (drop q c) q (ap length is ∙ length-replicate q 0) ∙ is

  pub law_step : (q k : ℕ) (c d : List ℕ) → q < k → k < n → d ≡ set c k (extra w (slot_at w n k ws) (take k c)) → Law q k c → Law q (k + 1) d
  law_step q k c d h l is inv = record {
    sized = ap length is ∙ length-set c k (extra w (slot_at w n k ws) (take k c)) ∙ inv.sized;
    zeros = ap (take q) is ∙ take-set-le q c k (extra w (slot_at w n k ws) (take k c)) (omega arith) ∙ inv.zeros;
    words =
        ap (take (k + 1)) is
        ∙ take_more_set c k (extra w (slot_at w n k ws) (take k c)) (omega (arith, inv.sized))
        ∙ sym (snoc_append (take k c) (extra w (slot_at w n k ws) (take k c)))
        ∙ ap (λ (x : List ℕ). snoc x (extra w (slot_at w n k ws) x)) inv.words
        ∙ law_more q k h ∙ ap (law_to w n ws q) (let e : k - q ≡ k + 1 - suc q = omega arith in e);
  }

-- rows written one behind the other
flat_push : (rs : List (List ℕ)) (r : List ℕ) → flat (rs ++ (r ∷ [])) ≡ flat rs ++ r
flat_push [] r = append-nil r
flat_push (s ∷ rs) r = ap (λ (z : List ℕ). s ++ z) (flat_push rs r) ∙ sym (append_assoc s (flat rs) r)

written_none : (n : ℕ) (s : List ℕ) → Written n [] s s 0
written_none n s = (let z : 0 * n ≡ 0 = omega arith in record { many = refl; rows = ap (λ (y : ℕ). take y s) z; behind = refl })

written_more : (n count : ℕ) (rs : List (List ℕ)) (s t r : List ℕ) → length r ≡ n → count * n + n ≤ length t → Written n rs s t count
    → Written n (rs ++ (r ∷ [])) s (put_mid (count * n) (count * n + n - count * n) t r) (count + 1)
written_more n count rs s t r len room g = record {
  many = ap (λ (y : ℕ). y + 1) g.many ∙ sym (length-append rs (r ∷ []));
  rows = take-put_mid (count * n) (count * n + n - count * n) t r ((count + 1) * n) (omega arith) (omega arith) ∙ ap (λ (y : List ℕ). y ++ r) g.rows ∙ sym (flat_push rs r);
  behind = drop-put_mid (count * n) (count * n + n - count * n) t r ((count + 1) * n) (omega arith) (omega arith) (omega arith) ∙ far t ∙ ap (drop n) g.behind ∙ sym (far s);
}
  where
    far : (z : List ℕ) → drop ((count + 1) * n) z ≡ drop n (drop (count * n) z)
    far z = (let q : (count + 1) * n ≡ count * n + n = omega arith in ap (λ (y : ℕ). drop y z) q) ∙ sym (drop-drop n (count * n) z)

-- no place looked at yet
pub told_start : (w n : ℕ) (ws s : List ℕ) → Written n (told w n ws n 0) s s 0
unfolding told
told_start w n ws s = written_none n s

-- the law of the next place that has one
pub told_turn : (w n : ℕ) (ws : List ℕ) (next q count : ℕ) (s t r : List ℕ) → next ≤ q → q < n → ((i : ℕ) → next ≤ i → i < q → exponent_at w n i ws ≡ 0) → 0 < exponent_at w n q ws
    → r ≡ law_to w n ws q (n - 1 - q) → count * n + n ≤ length t → Written n (told w n ws n next) s t count
    → Written n (told w n ws n (q + 1)) s (put_mid (count * n) (count * n + n - count * n) t r) (count + 1)
told_turn w n ws next q count s t r le lt zeros some is room g =
    subst (λ (x : List (List ℕ)). Written n x s (put_mid (count * n) (count * n + n - count * n) t r) (count + 1)) (sym rows)
    (written_more n count (told w n ws n next) s t r (ap length is ∙ length_law w n ws q (n - 1 - q) ∙ (let e : suc (q + (n - 1 - q)) ≡ n = omega arith in e)) room g)
  where
    rows : told w n ws n (q + 1) ≡ told w n ws n next ++ (r ∷ [])
    rows =
        told_more w n ws n q some
        ∙ ap₂ (λ (a : List (List ℕ)) (b : List ℕ). a ++ (b ∷ [])) (told_zeros w n ws n next q le zeros) (ap (law_to w n ws q) (let e : n - suc q ≡ n - 1 - q = omega arith in e) ∙ sym is)
