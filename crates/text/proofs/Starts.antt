-- The steps of the loop that counts tokens.
use Rattle.std.proofs.Common.{◌≡◌, ℕ, ◌+◌, ◌<◌, ◌≤◌, Bool, true, false, cond, not, ◌&&◌, ◌⊎◌, List, [], ◌∷◌, length, get_or, drop, sym, ap, ◌∙◌, ⊎_elim, arith}
use Rattle.std.proofs.lemmas.List.{at_drop_more, at_drop_all, drop_more}
use Rattle.std.proofs.lemmas.Bool.{and_from, and_left, and_right, not_from_true, not_from_false, cond-true, cond-false}
use Rattle.text.specs.Bytes.{white}
use Rattle.text.specs.Tokens.{word, black, tokens_from}

-- at the byte at i, of which `is_white` answered r
module _ (xs : List ℕ) (i : ℕ) (inside r : Bool) (lt : i < length xs) (is : r ≡ white (get_or xs i 0)) where
  abbrev behind : List (List ℕ)
  behind = tokens_from (not r) (drop (i + 1) xs)

  step : tokens_from inside (drop i xs) ≡ cond (not r && not inside) (word (drop i xs) ∷ behind) behind
  step =
      let now-black : black (get_or xs i 0) ≡ not r = sym (ap not is) in
      let behind-if : Bool → List (List ℕ) = λ t. tokens_from t (drop (i + 1) xs) in
      let named : Bool → List ℕ → List (List ℕ) = λ t ys. cond (t && not inside) (word ys ∷ behind-if t) (behind-if t) in
      at_drop_more (tokens_from inside) xs i 0 lt ∙ (λ k. named (now-black k) (sym (drop_more xs i 0 lt) k))

  pub tokens_begin : r ≡ false → inside ≡ false → tokens_from inside (drop i xs) ≡ word (drop i xs) ∷ behind
  tokens_begin e f = step ∙ cond-true _ _ _ (and_from (not r) (not inside) (not_from_false r e) (not_from_false inside f))

  pub tokens_pass : ((r ≡ false) × (inside ≡ true)) ⊎ (r ≡ true) → tokens_from inside (drop i xs) ≡ behind
  tokens_pass e =
      step ∙ cond-false _ _ _ (⊎_elim (λ h. and_right (not r) (not inside) (not_from_true inside h.1)) (λ h. and_left (not r) (not inside) (not_from_true r h)) e)

  abbrev Counts : ℕ → Bool → ℕ → ℕ → Type 0
  Counts count next j n = (count + length (tokens_from next (drop j xs)) ≡ n) × (count ≤ j)

  pub counts_begin : (n count after : ℕ) (next : Bool) → r ≡ false → inside ≡ false → after ≡ count + 1 → next ≡ not r → Counts count inside i n → Counts after next (i + 1) n
  counts_begin n count after next e f more same h =
      let one = ap length (tokens_begin e f) in
      let to = ap (λ t. length (tokens_from t (drop (i + 1) xs))) same in
      (omega (arith, one, to, h.0), omega (arith, h.1))

  pub counts_pass : (n count after : ℕ) (next : Bool) → ((r ≡ false) × (inside ≡ true)) ⊎ (r ≡ true) → after ≡ count → next ≡ not r → Counts count inside i n → Counts after next (i + 1) n
  counts_pass n count after next e more same h =
      let one = ap length (tokens_pass e) in
      let to = ap (λ t. length (tokens_from t (drop (i + 1) xs))) same in
      (omega (arith, one, to, h.0), omega (arith, h.1))

pub tokens_none : (xs : List ℕ) (i : ℕ) (inside : Bool) → length xs ≤ i → tokens_from inside (drop i xs) ≡ []
tokens_none xs i inside ge = at_drop_all (tokens_from inside) xs i ge
