-- How a sum of words is written: the terms with a factor other than 0 in the order of the words, then the number.
use Rattle.std.specs.Prelude.{ℕ, suc, ◌-◌, Bool, true, false, cond, not, ◌&&◌, List, [], ◌∷◌, ◌++◌, codes, decimal, Option, ◌==◌, nat_lt}
use Rattle.listing.specs.Names.{with_name}

-- above 2 ^ 31 a factor stands for the negative number that it is modulo 2 ^ 32
abbrev pub minus : ℕ → Bool
minus c = nat_lt 2147483648 c

abbrev pub size : ℕ → ℕ
size c = cond (minus c) (4294967296 - c) c

abbrev pub sign : Bool → ℕ → List ℕ
sign first c = cond (minus c) (cond first (codes "-") (codes " - ")) (cond first [] (codes " + "))

-- a factor of a word, with its sign; a factor 1 is not written
abbrev pub factor_text : Bool → ℕ → List ℕ
factor_text first c = cond (size c == 1) (sign first c) (sign first c ++ (decimal (size c) ++ codes " "))

abbrev pub with_term : Option (List ℕ) → Bool → ℕ → ℕ → List ℕ → List ℕ
with_term names first i c out = with_name names 120 i (out ++ factor_text first c)

-- the number behind the terms, with its sign: 0 is written only where there is no term
abbrev pub number_text : Bool → ℕ → List ℕ
number_text first c = cond (c == 0 && not first) [] (sign first c ++ decimal (size c))

abbrev pub with_number : Bool → ℕ → List ℕ → List ℕ
with_number first c out = out ++ number_text first c

-- the factors cs are those of the words from i on
abbrev pub with_terms : Option (List ℕ) → ℕ → Bool → ℕ → List ℕ → List ℕ → List ℕ
with_terms names n first i [] out = with_number first n out
with_terms names n first i (c ∷ cs) out = cond (c == 0) (with_terms names n first (suc i) cs out) (with_terms names n false (suc i) cs (with_term names first i c out))

-- the number, then a factor for each word
abbrev pub with_sum : Option (List ℕ) → List ℕ → List ℕ → List ℕ
with_sum names [] out = out
with_sum names (n ∷ cs) out = with_terms names n true 0 cs out
