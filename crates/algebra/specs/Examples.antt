-- Worked examples: inverses, annihilators and Howell rows of a few rows, at several widths.
use Rattle.std.specs.Prelude.{◌≡◌, [], ◌∷◌}
use Rattle.algebra.specs.Inverse.{inverse}
use Rattle.algebra.specs.Tell.{annihilator, howell_rows}

pub record Examples : Type 0 where
  pub third_32 : inverse 32 3 ≡ 2863311531
  pub third_64 : inverse 64 3 ≡ 12297829382473034411
  -- a word that is 5, of 32, 64 and 3 bits
  pub five_32 : annihilator 32 2 ((1 ∷ 5 ∷ []) ∷ []) ≡ (1 ∷ 858993459 ∷ []) ∷ []
  pub five_64 : annihilator 64 2 ((1 ∷ 5 ∷ []) ∷ []) ≡ (1 ∷ 3689348814741910323 ∷ []) ∷ []
  pub five_3 : annihilator 3 2 ((1 ∷ 5 ∷ []) ∷ []) ≡ (1 ∷ 3 ∷ []) ∷ []
  -- everything annihilates no rows
  pub no_rows : annihilator 32 2 [] ≡ (1 ∷ 0 ∷ []) ∷ (0 ∷ 1 ∷ []) ∷ []
  -- a word that is even
  pub evens : annihilator 32 2 ((1 ∷ 0 ∷ []) ∷ (1 ∷ 2 ∷ []) ∷ []) ≡ (0 ∷ 2147483648 ∷ []) ∷ []
  -- 3 x - 2 y, with a power of two at its lead
  pub three_two : annihilator 32 3 ((1 ∷ 0 ∷ 0 ∷ []) ∷ (1 ∷ 2 ∷ 3 ∷ []) ∷ []) ≡ (0 ∷ 1 ∷ 2863311530 ∷ []) ∷ []
  -- a lead of 2, and a second row that is no multiple of the first
  pub two_rows : annihilator 32 3 ((1 ∷ 2 ∷ 0 ∷ []) ∷ (1 ∷ 4 ∷ 3 ∷ []) ∷ []) ≡ (2 ∷ 2147483647 ∷ 1431655766 ∷ []) ∷ (0 ∷ 2147483648 ∷ 0 ∷ []) ∷ []
  -- a word that is one more than a multiple of four
  pub fours : annihilator 32 2 ((1 ∷ 1 ∷ []) ∷ (1 ∷ 5 ∷ []) ∷ (1 ∷ 21 ∷ []) ∷ []) ≡ (1073741824 ∷ 3221225472 ∷ []) ∷ []
  -- the rows of a span in Howell's form; what is even is not halved
  pub span : howell_rows 32 2 ((3 ∷ 1 ∷ []) ∷ (6 ∷ 4 ∷ []) ∷ []) ≡ (1 ∷ 1 ∷ []) ∷ (0 ∷ 2 ∷ []) ∷ []
  pub not_halved : howell_rows 32 2 ((0 ∷ 2 ∷ []) ∷ []) ≡ (0 ∷ 2 ∷ []) ∷ []
