-- Rows in Howell's reduced form, for a set of rows.
use Rattle.std.specs.Prelude.{◌≡◌, List, [], ◌∷◌, ℕ, zero, suc, ◌*◌, ◌^◌, ◌<◌, take, replicate}
use Rattle.std.proofs.Math.Option.{Option, some, none}

abbrev pub nth : {A : Type 0} → List A → ℕ → Option A
nth [] n = none
nth (x ∷ xs) zero = some x
nth (x ∷ xs) (suc n) = nth xs n

-- the first place p at which a row is not 0, and what stands there
pub record Lead (r : List ℕ) (p v : ℕ) : Type 0 where
  pub zeros : take p r ≡ replicate p 0
  pub is : nth r p ≡ some v
  pub not_0 : 0 < v

-- r is the row with index i
pub data Row (r : List ℕ) : ℕ → List (List ℕ) → Type 0 where
  here : {rs : List (List ℕ)} → Row r 0 (r ∷ rs)
  there : {i : ℕ} {s : List ℕ} {rs : List (List ℕ)} → Row r i rs → Row r (suc i) (s ∷ rs)

-- rows of the set, each with a power of two at its lead, their leads in order of places; what stands at the lead of a
-- row in the rows above it is smaller; and the lead of every member of the set is a multiple of the lead of a row at
-- the same place
pub record Best (is : List ℕ → Type 0) (rs : List (List ℕ)) : Type 0 where
  pub members : (r : List ℕ) (i : ℕ) → Row r i rs → is r
  pub leads : (r : List ℕ) (i : ℕ) → Row r i rs → (p : ℕ) × (j : ℕ) × Lead r p (2 ^ j)
  pub ordered : (r s : List ℕ) (i j p q v w : ℕ) → Row r i rs → Row s j rs → i < j → Lead r p v → Lead s q w → p < q
  pub small : (r s : List ℕ) (i j q w x : ℕ) → Row r i rs → Row s j rs → i < j → Lead s q w → nth r q ≡ some x → x < w
  pub reaches : (c : List ℕ) (p v : ℕ) → is c → Lead c p v → (r : List ℕ) × (i : ℕ) × (w : ℕ) × (k : ℕ) × Row r i rs × Lead r p w × (v ≡ k * w)
