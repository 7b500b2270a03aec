-- a row inserted at one place of a table
use Rattle.std.proofs.Common.{◌≡◌, ℕ, zero, suc, ◌+◌, ◌-◌, ◌*◌, ◌/◌, ◌%◌, ◌^◌, ◌<◌, ◌≤◌, true, false, ◌≢◌, ◌⊎◌, List, [], ◌∷◌, ◌++◌, length, get_or, take, drop, set, sym, refl, ap, ◌∙◌, subst, ap₂, inl, inr, le_of_suc-le-suc, mod-eq_of_lt, zero-add, arith, rules}
use native.Mathlib.Nat.{zero-div, sub-zero}
use borrow.Rule.Slice.PartMut.{put_mid}
use lib.Count.{count_trailing_zeros, trailing_le, trailing_of_zero}
use lib.Pow.{pow-lt}
use Rattle.std.proofs.lemmas.List.{places, get_or-set_same, get_or-set_other, length-set, take_at, take-set, length-take-le}
use Rattle.std.proofs.lemmas.Bool.{cases_lt}
use Rattle.std.proofs.lemmas.Slice.{between_is, between-put_mid}
use Rattle.algebra.specs.Vec.{neg, plus, times, less, snoc, flip}
use Rattle.algebra.specs.Span.{Fit}
use Rattle.algebra.specs.Inverse.{inverse}
use Rattle.algebra.specs.Form.{Slot, slot, Form, insert}
use Rattle.algebra.proofs.Modular.{mul_mod_mod}
use Rattle.algebra.proofs.Vec.{length_plus, length_times, times_mod}
use Rattle.algebra.proofs.Units.{trailing_slot}
use Rattle.algebra.proofs.LastPlace.{flip_times, flip_plus, fit_flip}
use Rattle.algebra.proofs.FormSpans.{less_zero}
use Rattle.algebra.proofs.Insert.{insert_big, insert_new}
use Rattle.forms.specs.Flat.{part, exponent_at, entries_at, slot_at}
use Rattle.forms.specs.Insertion.{Turned}
use Rattle.forms.proofs.Reading.{row_before, part_same, fit_part}

-- the place k of a vector, and those before it
pub flip_take : (k : ℕ) (v : List ℕ) → k < length v → flip (take (suc k) v) ≡ get_or v k 0 ∷ flip (take k v)
flip_take k [] h = absurd (omega arith)
flip_take zero (x ∷ v) h = refl
flip_take (suc k) (x ∷ v) h = ap (λ (z : List ℕ). snoc z x) (flip_take k v (le_of_suc-le-suc h))

pub flip_less : (w q : ℕ) (a b : List ℕ) → length a ≡ length b → less w (flip a) q (flip b) ≡ flip (less w a q b)
flip_less w q a b e = sym (flip_plus w a (times w (neg w * q) b) (e ∙ sym (length_times w (neg w * q) b)) ∙ ap (plus w (flip a)) (flip_times w (neg w * q) b))

-- the factor as machines have it
negated : (w q : ℕ) (b : List ℕ) → times w ((neg w * (q % 2 ^ w)) % 2 ^ w) b ≡ times w (neg w * q) b
negated w q b = ap (λ (z : ℕ). times w z b) (mul_mod_mod (neg w) q (2 ^ w)) ∙ times_mod w (neg w * q) b

-- a word and those before it written
abbrev pub written : ℕ → ℕ → ℕ → List ℕ → List ℕ → List ℕ
written from pivot y u s = put_mid from (pivot - from) (set s pivot y) u

module _ (from pivot y : ℕ) (u s : List ℕ) (h : from ≤ pivot) (room : pivot < length s) (len : length u ≡ pivot - from) where
  written_length : length (written from pivot y u s) ≡ length s
  written_length = let l = length-set s pivot y in search (rules, places)

  set_other : (j : ℕ) → j ≢ pivot → get_or (written from pivot y u s) j 0 ≡ get_or (set s pivot y) j 0 → get_or (written from pivot y u s) j 0 ≡ get_or s j 0
  set_other j ne e = e ∙ get_or-set_other s pivot j y 0 ne

  pub written_other : (j : ℕ) → (j < from) ⊎ (pivot < j) → get_or (written from pivot y u s) j 0 ≡ get_or s j 0
  written_other j (inl b) = let l = length-set s pivot y in set_other j (λ e. omega arith) (search (rules, places))
  written_other j (inr b) = let l = length-set s pivot y in set_other j (λ e. omega arith) (search (rules, places))

  pub written_here : get_or (written from pivot y u s) pivot 0 ≡ y
  written_here =
      let l = length-set s pivot y in
      let e : get_or (written from pivot y u s) pivot 0 ≡ get_or (set s pivot y) pivot 0 = search (rules, places) in
      e ∙ get_or-set_same s pivot y 0 (omega arith)

  pub written_part : part from pivot (written from pivot y u s) ≡ u
  written_part = between-put_mid from (pivot - from) (set s pivot y) u pivot (let l = length-set s pivot y in omega arith) len

-- the words before the one written
part_set : (from pivot y : ℕ) (s : List ℕ) → from ≤ pivot → part from pivot (set s pivot y) ≡ part from pivot s
part_set from pivot y s h = between_is (set s pivot y) from pivot ∙ ap (drop from) (take-set s pivot y) ∙ sym (between_is s from pivot)

module _ (w n k : ℕ) (s v : List ℕ) (room : k * n + n ≤ length s) (sized : length v ≡ n) (place : k < n) where
  len_row : length (take k v) ≡ k
  len_row = length-take-le k v (omega arith)

  len_entries : length (entries_at n k s) ≡ k
  len_entries = search (rules, places)

  -- the row v is reduced by the table's row
  pub turned_keep : (q : ℕ) (z : List ℕ)
      → exponent_at w n k s ≤ count_trailing_zeros w (get_or v k 0)
      → q ≡ (neg w * (get_or v k 0 / 2 ^ exponent_at w n k s)) % 2 ^ w
      → z ≡ plus w (take k v) (times w q (entries_at n k s)) → Turned w n k s s v (z ++ drop k v) false
  turned_keep q z le qis zis = record {
    step = λ f.
        ap (insert w (slot_at w n k s ∷ f)) (flip_take k v (omega arith))
        ∙ insert_big w (exponent_at w n k s) (get_or v k 0) (flip (entries_at n k s)) (flip (take k v)) f le
        ∙ ap (λ (a : List ℕ). slot_at w n k s ∷ insert w f a) (flip_less w quotient (take k v) (entries_at n k s) (len_row ∙ sym len_entries) ∙ ap flip (sym z_is ∙ sym (take_at z (drop k v) k len_z)));
    kept = λ q ne. refl;
    tail = λ i l b. refl;
    falls = λ h. absurd (let a : ◌≡◌ {A = ℕ} 0 1 = cc in omega arith);
    power = λ h. absurd (let a : ◌≡◌ {A = ℕ} 0 1 = cc in omega arith);
    same = λ h. refl;
  }
    where
      quotient : ℕ
      quotient = get_or v k 0 / 2 ^ exponent_at w n k s

      z_is : z ≡ less w (take k v) quotient (entries_at n k s)
      z_is =
          zis
          ∙ ap (plus w (take k v)) (ap (λ (a : ℕ). times w a (entries_at n k s)) qis ∙ times_mod w (neg w * quotient) (entries_at n k s))

      len_z : length z ≡ k
      len_z = ap length z_is ∙ length_plus w (take k v) _ (len_row ∙ sym len_entries ∙ sym (length_times w (neg w * quotient) (entries_at n k s))) ∙ len_row

  -- the row v, made to begin with a power of two, is the table's row, and what was there is reduced and goes on
  pub turned_new : (y c q : ℕ) (u z : List ℕ)
      → count_trailing_zeros w (get_or v k 0) < exponent_at w n k s
      → y ≡ 2 ^ count_trailing_zeros w (get_or v k 0) % 2 ^ w
      → c ≡ inverse w (get_or v k 0 / 2 ^ count_trailing_zeros w (get_or v k 0))
      → q ≡ (neg w * (2 ^ (exponent_at w n k s - count_trailing_zeros w (get_or v k 0)) % 2 ^ w)) % 2 ^ w
      → u ≡ times w c (take k v)
      → z ≡ plus w (entries_at n k (set s (k * n + k) y)) (times w q (times w c (take k v)))
      → Turned w n k s (written (k * n) (k * n + k) y u s) v (z ++ drop k v) true
  turned_new y c q u z lt yis cis qis uis zis = record {
    step = λ f.
        ap (insert w (slot_at w n k s ∷ f)) (flip_take k v (omega arith))
        ∙ insert_new w e (get_or v k 0) (flip (entries_at n k s)) (flip (take k v)) f lt
        ∙ ap (λ (a : List ℕ). slot i a ∷ insert w f (less w (flip (entries_at n k s)) (2 ^ (e - i)) a)) new_is
        ∙ ap₂ {A = Slot} {B = Form} {C = Form} (λ (a : Slot) (b : Form). a ∷ b) slot_is
        (ap (insert w f) (flip_less w (2 ^ (e - i)) (entries_at n k s) u (len_entries ∙ sym len_u) ∙ ap flip (sym z_is ∙ sym (take_at z (drop k v) k len_z))));
    kept = λ q ne. part_same (q * n) (q * n + n) t s len_t (λ j a b. other j (apart q ne j a b));
    tail = λ j l b. other (k * n + j) (inr (omega arith));
    falls = λ h. omega (arith, zeros);
    power = λ h. here ∙ yis ∙ mod-eq_of_lt (pow-lt {i = i} {j = w} (omega (arith, trailing_le w (get_or s (k * n + k) 0)))) ∙ ap (λ (a : ℕ). 2 ^ a) (sym zeros);
    same = λ h. absurd (let a : ◌≡◌ {A = ℕ} 0 1 = cc in omega arith);
  }
    where
      e : ℕ
      e = exponent_at w n k s

      i : ℕ
      i = count_trailing_zeros w (get_or v k 0)

      t : List ℕ
      t = written (k * n) (k * n + k) y u s

      u_is : u ≡ times w (inverse w (get_or v k 0 / 2 ^ i)) (take k v)
      u_is = uis ∙ ap (λ (a : ℕ). times w a (take k v)) cis

      new_is : times w (inverse w (get_or v k 0 / 2 ^ i)) (flip (take k v)) ≡ flip u
      new_is = sym (flip_times w (inverse w (get_or v k 0 / 2 ^ i)) (take k v)) ∙ ap flip (sym u_is)

      len_u : length u ≡ k
      len_u = ap length u_is ∙ length_times w (inverse w (get_or v k 0 / 2 ^ i)) (take k v) ∙ len_row

      len : length u ≡ k * n + k - k * n
      len = omega (arith, len_u)

      other : (j : ℕ) → (j < k * n) ⊎ (k * n + k < j) → get_or t j 0 ≡ get_or s j 0
      other = written_other (k * n) (k * n + k) y u s (omega arith) (omega arith) len

      len_t : length t ≡ length s
      len_t = written_length (k * n) (k * n + k) y u s (omega arith) (omega arith) len

      -- the words of other rows
      apart : (q : ℕ) → q ≢ k → (j : ℕ) → q * n ≤ j → j < q * n + n → (j < k * n) ⊎ (k * n + k < j)
      apart q ne j a b = elim (cases_lt q k) [
        | inl l ↦ inl (let d = row_before n q k l in omega arith)
        | inr l ↦ inr (let d = row_before n k q (omega (arith, ne)) in omega arith)
      ]

      here : get_or t (k * n + k) 0 ≡ y
      here = written_here (k * n) (k * n + k) y u s (omega arith) (omega arith) len

      zeros : exponent_at w n k t ≡ i
      zeros = ap (count_trailing_zeros w) (here ∙ yis) ∙ trailing_slot w i (trailing_le w (get_or v k 0))

      slot_is : slot i (flip u) ≡ slot_at w n k t
      slot_is = ap₂ {A = ℕ} {B = List ℕ} {C = Slot} slot (sym zeros) (ap flip (sym (written_part (k * n) (k * n + k) y u s (omega arith) (omega arith) len)))

      z_is : z ≡ less w (entries_at n k s) (2 ^ (e - i)) u
      z_is =
          zis
          ∙ ap₂ (λ (a b : List ℕ). plus w a (times w q b)) (part_set (k * n) (k * n + k) y s (omega arith)) (sym uis)
          ∙ ap (plus w (entries_at n k s)) (ap (λ (a : ℕ). times w a u) qis ∙ negated w (2 ^ (e - i)) u)

      len_z : length z ≡ k
      len_z = ap length z_is ∙ length_plus w (entries_at n k s) _ (len_entries ∙ sym len_u ∙ sym (length_times w (neg w * 2 ^ (e - i)) u)) ∙ len_entries

-- a place at which the row is 0 is passed over
pub insert_zero : (w n k : ℕ) (s v : List ℕ) → k * n + n ≤ length s → length v ≡ n → k < n
    → ((i : ℕ) → get_or s i 0 < 2 ^ w) → ((i : ℕ) → get_or v i 0 < 2 ^ w) → get_or v k 0 ≡ 0
    → (f : Form) → insert w (slot_at w n k s ∷ f) (flip (take (suc k) v)) ≡ slot_at w n k s ∷ insert w f (flip (take k v))
insert_zero w n k s v room sized place small-s small-v z f =
    ap (insert w (slot_at w n k s ∷ f)) (flip_take k v (omega arith))
    ∙ insert_big w e (get_or v k 0) (flip (entries_at n k s)) (flip (take k v)) f (rw (z, trailing_of_zero w) (trailing_le w (get_or s (k * n + k) 0)))
    ∙ ap (λ (a : List ℕ). slot_at w n k s ∷ insert w f a)
    (ap (λ (a : ℕ). less w (flip (take k v)) a (flip (entries_at n k s))) (ap (λ (a : ℕ). a / 2 ^ e) z ∙ zero-div (2 ^ e))
    ∙ less_zero w (flip (take k v)) (flip (entries_at n k s)) k
    (fit_flip w (subst (λ (a : ℕ). Fit w k (take a v)) (sub-zero k) (fit_part w k 0 k v (zero-add k) (omega arith) small-v)))
    (fit_flip w (fit_part w k (k * n) (k * n + k) s refl (omega arith) small-s)))
  where
    e : ℕ
    e = exponent_at w n k s
