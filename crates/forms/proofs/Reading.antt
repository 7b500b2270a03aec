-- forms read from tables: what equal words give, and a form cut at a place
use Rattle.std.proofs.Common.{◌≡◌, ℕ, zero, suc, ◌+◌, ◌-◌, ◌*◌, ◌^◌, ◌<◌, ◌≤◌, ◌≢◌, List, [], ◌∷◌, ◌++◌, length, get_or, sym, refl, ap, ◌∙◌, ap₂, inl, inr, add-suc, mul-le-mul_right, suc-add, zero-add, arith, pow_pos, rules}
use lib.Count.{count_trailing_zeros, trailing_le}
use Rattle.std.proofs.lemmas.List.{places, ext_get_or, get_or_past}
use Rattle.std.proofs.lemmas.List.Edits.{get_or-between}
use Rattle.std.proofs.lemmas.Bool.{cases_lt, cases_eq}
use Rattle.algebra.specs.Vec.{flip}
use Rattle.algebra.specs.Span.{Fit}
use Rattle.algebra.specs.Form.{Slot, slot, Form, WellFormed, no_slots, slot_on, weight}
use Rattle.algebra.proofs.Vec.{below_all}
use Rattle.algebra.proofs.LastPlace.{fit_flip}
use Rattle.forms.specs.Flat.{part, row_at, word_at, RowIn, exponent_at, slot_at, read, table_at, form_at}

-- rows stand one behind the other
pub row_before : (n p q : ℕ) → p < q → p * n + n ≤ q * n
row_before n p q h = omega (arith, mul-le-mul_right n h)

pub row_in : (n k : ℕ) (ws : List ℕ) → n * n ≤ length ws → k < n → RowIn n k ws
row_in n k ws room h = omega (arith, row_before n k n h)

pub part_same : (a b : ℕ) (s t : List ℕ) → length s ≡ length t → ((j : ℕ) → a ≤ j → j < b → get_or s j 0 ≡ get_or t j 0) → part a b s ≡ part a b t
part_same a b s t e h = ext_get_or 0 (part a b s) (part a b t) (search (rules, places)) word
  where
    word : (i : ℕ) → i < length (part a b s) → get_or (part a b s) i 0 ≡ get_or (part a b t) i 0
    word i l =
        let k : length (part a b s) ≤ b - a = search (rules, places) in
        get_or-between s a b i 0 (omega arith) ∙ h (a + i) (omega arith) (omega arith) ∙ sym (get_or-between t a b i 0 (omega arith))

-- a row that is as it was has its slot as it was
pub row_word : (n q i : ℕ) (s t : List ℕ) → i < n → row_at n q s ≡ row_at n q t → word_at n q i s ≡ word_at n q i t
row_word n q i s t h e = sym (get_or-between s (q * n) (q * n + n) i 0 (omega arith)) ∙ ap (λ (z : List ℕ). get_or z i 0) e ∙ get_or-between t (q * n) (q * n + n) i 0 (omega arith)

pub exponent_same : (w n q : ℕ) (s t : List ℕ) → q < n → row_at n q s ≡ row_at n q t → exponent_at w n q s ≡ exponent_at w n q t
exponent_same w n q s t h e = ap (count_trailing_zeros w) (row_word n q q s t h e)

pub slot_same : (w n q : ℕ) (s t : List ℕ) → length s ≡ length t → q < n → row_at n q s ≡ row_at n q t → slot_at w n q s ≡ slot_at w n q t
slot_same w n q s t len h e = ap₂ {A = ℕ} {B = List ℕ} {C = Slot} slot (exponent_same w n q s t h e) (ap flip (part_same (q * n) (q * n + q) s t len word))
  where
    word : (j : ℕ) → q * n ≤ j → j < q * n + q → get_or s j 0 ≡ get_or t j 0
    word j a b =
        let i : q * n + (j - q * n) ≡ j = omega arith in
        ap (λ (z : ℕ). get_or s z 0) (sym i) ∙ row_word n q (j - q * n) s t (omega arith) e ∙ ap (λ (z : ℕ). get_or t z 0) i

pub length_read : (w n k : ℕ) (ws : List ℕ) → length (read w n k ws) ≡ k
unfolding read
length_read w n zero ws = refl
length_read w n (suc k) ws = ap suc (length_read w n k ws)

pub read_same : (w n k : ℕ) (s t : List ℕ) → ((q : ℕ) → q < k → slot_at w n q s ≡ slot_at w n q t) → read w n k s ≡ read w n k t
unfolding read
read_same w n zero s t h = refl
read_same w n (suc k) s t h = ap₂ {A = Slot} {B = Form} {C = Form} (λ (x : Slot) (y : Form). x ∷ y) (h k (omega arith)) (read_same w n k s t (λ q l. h q (omega arith)))

-- the slots of the m places from k on, the last of them first
unfoldable pub slots : ℕ → ℕ → ℕ → ℕ → List ℕ → Form
slots w n k zero ws = []
slots w n k (suc m) ws = slot_at w n (m + k) ws ∷ slots w n k m ws

pub slots_same : (w n k m : ℕ) (s t : List ℕ) → ((q : ℕ) → k ≤ q → q < m + k → slot_at w n q s ≡ slot_at w n q t) → slots w n k m s ≡ slots w n k m t
unfolding slots
slots_same w n k zero s t h = refl
slots_same w n k (suc m) s t h = ap₂ {A = Slot} {B = Form} {C = Form} (λ (x : Slot) (y : Form). x ∷ y) (h (m + k) (omega arith) (omega arith)) (slots_same w n k m s t (λ q a b. h q a (omega arith)))

-- one place more
pub slots_more : (w n k m : ℕ) (ws : List ℕ) → slots w n (suc k) m ws ++ (slot_at w n k ws ∷ []) ≡ slots w n k (suc m) ws
unfolding slots
slots_more w n k zero ws = ap {A = ℕ} {B = Form} (λ (z : ℕ). slot_at w n z ws ∷ []) (sym (zero-add k))
slots_more w n k (suc m) ws = ap₂ {A = Slot} {B = Form} {C = Form} (λ (x : Slot) (y : Form). x ∷ y) (ap (λ (z : ℕ). slot_at w n z ws) (add-suc m k ∙ sym (suc-add m k))) (slots_more w n k m ws)

-- all places
pub slots_read : (w n k : ℕ) (ws : List ℕ) → slots w n 0 k ws ≡ read w n k ws
unfolding slots read
slots_read w n zero ws = refl
slots_read w n (suc k) ws = ap₂ {A = Slot} {B = Form} {C = Form} (λ (x : Slot) (y : Form). x ∷ y) (let e : k + 0 ≡ k = omega arith in ap (λ (z : ℕ). slot_at w n z ws) e) (slots_read w n k ws)

-- the weight where only the exponent at the place k differs
module _ (w n k d : ℕ) (s t : List ℕ) (falls : exponent_at w n k t + d ≤ exponent_at w n k s) where
  weight_below : (m : ℕ) → m ≤ k → ((q : ℕ) → q < m → q ≢ k → exponent_at w n q t ≡ exponent_at w n q s) → weight (read w n m t) ≡ weight (read w n m s)
  unfolding read
  weight_below zero l h = refl
  weight_below (suc m) l h = ap₂ {A = ℕ} {B = ℕ} {C = ℕ} (λ (x y : ℕ). x + y) (h m (omega arith) (λ e. omega arith)) (weight_below m (omega arith) (λ q b. h q (omega arith)))

  pub weight_falls : (m : ℕ) → k < m → ((q : ℕ) → q < m → q ≢ k → exponent_at w n q t ≡ exponent_at w n q s) → weight (read w n m t) + d ≤ weight (read w n m s)
  unfolding read
  weight_falls zero l h = absurd (omega arith)
  weight_falls (suc m) l h = elim (cases_eq m k) [
    | inl e ↦ (let x : exponent_at w n m t + d ≤ exponent_at w n m s = rw e falls in omega (arith, weight_below m (omega arith) (λ q b. h q (omega arith))))
    | inr ne ↦ omega (arith, h m (omega arith) ne, weight_falls m (omega (arith, ne)) (λ q b. h q (omega arith)))
  ]

-- words below a bound
pub fit_words : (w n : ℕ) (v : List ℕ) → length v ≡ n → ((i : ℕ) → get_or v i 0 < 2 ^ w) → Fit w n v
fit_words w n v e small = record { sized = e; small = below_all (2 ^ w) v small }

small_part : (w a b : ℕ) (t : List ℕ) → ((i : ℕ) → get_or t i 0 < 2 ^ w) → (i : ℕ) → get_or (part a b t) i 0 < 2 ^ w
small_part w a b t small i = elim (cases_lt i (b - a)) [
  | inl l ↦ rw (get_or-between t a b i 0 (omega arith)) (small (a + i))
  | inr l ↦ rw (get_or_past (part a b t) i 0 (let e : length (part a b t) ≤ b - a = search (rules, places) in omega arith)) (pow_pos w)
]

pub fit_part : (w k a b : ℕ) (t : List ℕ) → a + k ≡ b → b ≤ length t → ((i : ℕ) → get_or t i 0 < 2 ^ w) → Fit w k (part a b t)
fit_part w k a b t e h small = fit_words w k (part a b t) (search (rules, places)) (small_part w a b t small)

-- any words are a form
pub fine_read : (w n k : ℕ) (t : List ℕ) → k ≤ n → n * n ≤ length t → ((i : ℕ) → get_or t i 0 < 2 ^ w) → WellFormed w k (read w n k t)
unfolding read
fine_read w n zero t h l small = no_slots
fine_read w n (suc k) t h l small =
    slot_on (trailing_le w (get_or t (k * n + k) 0))
    (fit_flip w (fit_part w k (k * n) (k * n + k) t (omega arith) (let b = row_before n k n (omega arith) in omega arith) small))
    (fine_read w n k t (omega arith) l small)

pub fine_form : (w n at : ℕ) (ws : List ℕ) → at + n * n ≤ length ws → ((i : ℕ) → get_or ws i 0 < 2 ^ w) → WellFormed w n (form_at w n at ws)
fine_form w n at ws room small = fine_read w n n (table_at n at ws) (omega arith) (let e : length (table_at n at ws) ≡ n * n = search (rules, places) in omega arith) (small_part w at (at + n * n) ws small)
