-- The parts of a text between the bytes of a kind: its tokens are those between white space that are not empty, and its lines are those between line feeds.
use Rattle.std.proofs.Common.{◌≡◌, ℕ, suc, ◌+◌, Bool, true, false, cond, eqb, ltb, not, ◌&&◌, List, [], ◌∷◌, length, take, None, Some, Option, refl, sym, ap, ◌∙◌, ⊎_elim, arith}
use Rattle.std.specs.List.{slice_split, onto_first, filter, position_or_len}
use Rattle.std.specs.Option.{unwrap_or}
use Rattle.std.proofs.lemmas.List.Sums.{prefix_len-le-length}
use Rattle.std.proofs.lemmas.Bool.{cond-true, cond-false, cases_lt, lt-ltb, le-ltb, ne_eqb}
use Rattle.text.specs.Bytes.{white, feed, before}
use Rattle.text.specs.Tokens.{word, tokens_from, tokens}
use Rattle.text.specs.Lines.{told, names_from, names_of, or_else}

-- ---- what stands before the first byte of a kind

before_is : (stop : ℕ → Bool) (bs : List ℕ) → take (position_or_len stop bs) bs ≡ before stop bs
before_is stop [] = refl
before_is stop (b ∷ bs) =
    let one : 1 + position_or_len stop bs ≡ suc (position_or_len stop bs) = omega arith in
    elim (stop b) as (λ t. take (cond (not t) (1 + position_or_len stop bs) 0) (b ∷ bs) ≡ cond t [] (b ∷ before stop bs)) [
      | true ↦ refl
      | false ↦ ap (λ k. take k (b ∷ bs)) one ∙ ap (λ xs. b ∷ xs) (before_is stop bs)
    ]

-- up to where `position` found it, or to the end
pub before_found : (stop : ℕ → Bool) (bs : List ℕ) (o : Option ℕ) (end : ℕ) → o ≡ cond (ltb (position_or_len stop bs) (length bs)) (Some (position_or_len stop bs)) None → end ≡ unwrap_or o (length bs) → take end bs ≡ before stop bs
before_found stop bs o end found is =
    let n = position_or_len stop bs in
    let known : end ≡ unwrap_or (cond (ltb n (length bs)) (Some n) None) (length bs) = is ∙ ap (λ p. unwrap_or p (length bs)) found in
    let at : end ≡ n =
    ⊎_elim
    (λ lt. known ∙ ap (λ p. unwrap_or p (length bs)) (cond-true _ _ _ (lt-ltb n (length bs) lt)))
    (λ ge. let all = known ∙ ap (λ p. unwrap_or p (length bs)) (cond-false _ _ _ (le-ltb n (length bs) ge)) in omega (arith, all, prefix_len-le-length (λ b. not (stop b)) bs))
    (cases_lt n (length bs))
    in
    ap (λ k. take k bs) at ∙ before_is stop bs

-- ---- the parts

abbrev others : List (List ℕ) → List (List ℕ)
others [] = []
others (part ∷ parts) = parts

first_part : (stop : ℕ → Bool) (bs : List ℕ) → slice_split stop bs ≡ before stop bs ∷ others (slice_split stop bs)
first_part stop [] = refl
first_part stop (b ∷ bs) =
    let parts = slice_split stop bs in
    let longer : onto_first b parts ≡ (b ∷ before stop bs) ∷ others parts = ap (onto_first b) (first_part stop bs) in
    elim (stop b) as (λ t. cond t ([] ∷ parts) (onto_first b parts) ≡ cond t [] (b ∷ before stop bs) ∷ others (cond t ([] ∷ parts) (onto_first b parts))) [
      | true ↦ refl
      | false ↦ longer ∙ ap (λ ps. (b ∷ before stop bs) ∷ others ps) (sym longer)
    ]

-- at a byte that does not stop
first_longer : (stop : ℕ → Bool) (b : ℕ) (bs : List ℕ) → onto_first b (slice_split stop bs) ≡ (b ∷ before stop bs) ∷ others (slice_split stop bs)
first_longer stop b bs = ap (onto_first b) (first_part stop bs)

-- ---- tokens

abbrev pub full : List ℕ → Bool
full part = not (eqb (length part) 0)

full_cons : (b : ℕ) (part : List ℕ) (parts : List (List ℕ)) → filter full ((b ∷ part) ∷ parts) ≡ (b ∷ part) ∷ filter full parts
full_cons b part parts =
    let some : eqb (length (b ∷ part)) 0 ≡ false = ne_eqb (length (b ∷ part)) 0 (λ e. omega arith) in
    ap (λ t. cond (not t) ((b ∷ part) ∷ filter full parts) (filter full parts)) some

-- from a place outside a token, and from one inside
abbrev TokensAre : List ℕ → Type 0
TokensAre bs = (filter full (slice_split white bs) ≡ tokens_from false bs) × (filter full (others (slice_split white bs)) ≡ tokens_from true bs)

tokens_both : (bs : List ℕ) → TokensAre bs
tokens_both [] = (refl, refl)
tokens_both (b ∷ bs) =
    let parts = slice_split white bs in
    let h = tokens_both bs in
    let longer = first_longer white b bs in
    elim (white b) as (λ w. (filter full (cond w ([] ∷ parts) (onto_first b parts)) ≡ cond (not w && true) (cond w [] (b ∷ word bs) ∷ tokens_from (not w) bs) (tokens_from (not w) bs))
    × (filter full (others (cond w ([] ∷ parts) (onto_first b parts))) ≡ cond (not w && false) (cond w [] (b ∷ word bs) ∷ tokens_from (not w) bs) (tokens_from (not w) bs))) [
      | true ↦ (h.0, h.0)
      | false ↦ (ap (filter full) longer ∙ full_cons b (word bs) (others parts) ∙ ap (λ ts. (b ∷ word bs) ∷ ts) h.1, ap (λ ps. filter full (others ps)) longer ∙ h.1)
    ]

pub tokens_are : (bs : List ℕ) → filter full (slice_split white bs) ≡ tokens bs
tokens_are bs = (tokens_both bs).0

-- ---- lines

-- the first answer of h that there is
abbrev pub first_some : (List ℕ → Option (List ℕ)) → List (List ℕ) → Option (List ℕ)
first_some h [] = None
first_some h (x ∷ xs) = or_else (h x) (first_some h xs)

-- from a place where a line starts, and from one where none does
abbrev NamesAre : List ℕ → List ℕ → Type 0
NamesAre key bs = (first_some (told key) (slice_split feed bs) ≡ names_from key true bs) × (first_some (told key) (others (slice_split feed bs)) ≡ names_from key false bs)

names_both : (key bs : List ℕ) → NamesAre key bs
names_both key [] = (refl, refl)
names_both key (b ∷ bs) =
    let parts = slice_split feed bs in
    let h = names_both key bs in
    let longer = first_longer feed b bs in
    elim (feed b) as (λ w. (first_some (told key) (cond w ([] ∷ parts) (onto_first b parts)) ≡ or_else (told key (cond w [] (b ∷ before feed bs))) (names_from key w bs))
    × (first_some (told key) (others (cond w ([] ∷ parts) (onto_first b parts))) ≡ names_from key w bs)) [
      | true ↦ (h.0, h.0)
      | false ↦ (ap (first_some (told key)) longer ∙ ap (or_else (told key (b ∷ before feed bs))) h.1, ap (λ ps. first_some (told key) (others ps)) longer ∙ h.1)
    ]

pub names_are : (key bs : List ℕ) → first_some (told key) (slice_split feed bs) ≡ names_of key bs
names_are key bs = (names_both key bs).0
