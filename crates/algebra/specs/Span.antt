-- Sets of vectors of n places: closed ones, what rows span, and what annihilates rows.
use Rattle.std.specs.Prelude.{◌≡◌, List, [], ◌∷◌, ℕ, ◌^◌, length, T}
use Rattle.algebra.specs.Vec.{below, plus, times, dot, sum}

-- a vector of n places
pub record Fit (w n : ℕ) (v : List ℕ) : Type 0 where
  pub sized : length v ≡ n
  pub small : T (below (2 ^ w) v)

-- a set of vectors of n places that has c + k d with c and d
pub record Closed (w n : ℕ) (is : List ℕ → Type 0) : Type 0 where
  pub sums : (k : ℕ) (c d : List ℕ) → is c → is d → is (plus w c (times w k d))
  pub sized : (c : List ℕ) → is c → length c ≡ n
  pub small : (c : List ℕ) → is c → T (below (2 ^ w) c)

-- c is a linear combination of the rows
pub record Span (w n : ℕ) (rs : List (List ℕ)) (c : List ℕ) : Type 0 where
  pub weights : List ℕ
  pub many : length weights ≡ length rs
  pub gives : sum w n weights rs ≡ c

-- all of a list are in a set
abbrev pub Each : (List ℕ → Type 0) → List (List ℕ) → Type 0
Each S [] = Unit
Each S (r ∷ rs) = S r × Each S rs

-- c annihilates the rows
pub record Ann (w n : ℕ) (rs : List (List ℕ)) (c : List ℕ) : Type 0 where
  pub fits : Fit w n c
  pub kills : Each (λ (r : List ℕ). dot w c r ≡ 0) rs

-- rows none of which is a linear combination of those before it; the newest stands first
pub data Fresh (w n : ℕ) : List (List ℕ) → Type 0 where
  fresh_none : Fresh w n []
  fresh_more : {v : List ℕ} {vs : List (List ℕ)} → Fresh w n vs → Fit w n v → (Span w n vs v → ⊥) → Fresh w n (v ∷ vs)
