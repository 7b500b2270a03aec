-- The laws of a table: the rows that come to 0 with all that it spans.
use Rattle.std.specs.Prelude.{◌≡◌, ℕ, zero, suc, ◌+◌, ◌-◌, ◌*◌, ◌^◌, ◌≤◌, List, [], ◌∷◌, ◌++◌, length, take, drop, replicate, Some, None, Option}
use Rattle.algebra.specs.Vec.{dot, snoc}
use Rattle.algebra.specs.Rows.{Best}
use Rattle.algebra.specs.Span.{Fit, Closed, Span, Each}
use Rattle.algebra.specs.Tell.{extra, tell}
use Rattle.algebra.specs.Theorems.{Annihilating}
use Rattle.forms.specs.Flat.{exponent_at, slot_at, form_at}
use Rattle.forms.specs.Meaning.{Spans, HowellAt}

-- the law that has its lead at the place q, up to the m-th place behind that
unfoldable pub law_to : ℕ → ℕ → List ℕ → ℕ → ℕ → List ℕ
law_to w n ws q zero = snoc (replicate q 0) (2 ^ (w - exponent_at w n q ws))
law_to w n ws q (suc m) = snoc (law_to w n ws q m) (extra w (slot_at w n (suc (q + m)) ws) (law_to w n ws q m))

-- rows one behind the other
abbrev pub flat : List (List ℕ) → List ℕ
flat [] = []
flat (r ∷ rs) = r ++ flat rs

-- the rows of n words stand first in the words t, count of them, and behind them t is as s
pub record Written (n : ℕ) (rs : List (List ℕ)) (s t : List ℕ) (count : ℕ) : Type 0 where
  pub many : count ≡ length rs
  pub rows : take (count * n) t ≡ flat rs
  pub behind : drop (count * n) t ≡ drop (count * n) s

-- a law of the table: it comes to 0 with every row that the table spans
pub record LawAt (w n at : ℕ) (ws c : List ℕ) : Type 0 where
  pub fits : Fit w n c
  pub kills : (u : List ℕ) → Fit w n u → Spans w n at ws u → dot w c u ≡ 0

-- the rows of the laws of the table
pub record LawRows (w n at : ℕ) (ws : List ℕ) (rs : List (List ℕ)) : Type 0 where
  pub best : Best (LawAt w n at ws) rs
  -- sums of laws are laws, every law is a sum of the rows, and only one list of rows is such
  pub sums : Closed w n (LawAt w n at ws)
  pub all : (c : List ℕ) → LawAt w n at ws c → Span w n rs c
  pub only : (ss : List (List ℕ)) → Best (LawAt w n at ws) ss → ss ≡ rs
  -- what comes to 0 with them is spanned
  pub enough : (u : List ℕ) → Fit w n u → Each (λ (c : List ℕ). dot w c u ≡ 0) rs → Spans w n at ws u

-- the laws told of the table at the word `at` of the words ws into the words s, which are t then
pub record ToldAt (w n at : ℕ) (ws s t : List ℕ) (count : ℕ) : Type 0 where
  pub room : (at + n * n ≤ length ws) × (n * n ≤ length s)
  pub here : Written n (tell w (form_at w n at ws)) s t count
  pub few : count ≤ n
  -- of a table that has Howell's property, as cleared tables have and insertions keep
  pub laws : HowellAt w n at ws → LawRows w n at ws (tell w (form_at w n at ws))
  -- what is proved of annihilators
  pub theory : Annihilating

-- the promise of `tell`
abbrev pub TellPost : ℕ → ℕ → ℕ → List ℕ → List ℕ → List ℕ → Option ℕ → Type 0
TellPost w at n ws s t None = (at + n * n ≤ length ws → n * n ≤ length s → ⊥) × (t ≡ s)
TellPost w at n ws s t (Some count) = ToldAt w n at ws s t count
