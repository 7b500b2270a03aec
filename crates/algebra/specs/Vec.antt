-- Vectors of words of w bits: lists of numbers below 2 ^ w, added and multiplied modulo 2 ^ w.
use Rattle.std.specs.Prelude.{Bool, true, ◌&&◌, List, [], ◌∷◌, ℕ, zero, suc, ◌+◌, ◌*◌, ◌%◌, ◌-◌, ◌^◌, replicate, ltb}

-- minus 1: `neg w * x` stands for - x everywhere, so that nothing is subtracted
unfoldable pub neg : ℕ → ℕ
neg w = 2 ^ w - 1

abbrev pub below : ℕ → List ℕ → Bool
below m [] = true
below m (x ∷ xs) = ltb x m && below m xs

abbrev pub plus : ℕ → List ℕ → List ℕ → List ℕ
plus w [] ys = []
plus w (x ∷ xs) [] = []
plus w (x ∷ xs) (y ∷ ys) = ((x + y) % 2 ^ w) ∷ plus w xs ys

abbrev pub times : ℕ → ℕ → List ℕ → List ℕ
times w k [] = []
times w k (x ∷ xs) = ((k * x) % 2 ^ w) ∷ times w k xs

-- v less k times t
abbrev pub less : ℕ → List ℕ → ℕ → List ℕ → List ℕ
less w v k t = plus w v (times w (neg w * k) t)

abbrev pub dot : ℕ → List ℕ → List ℕ → ℕ
dot w [] xs = 0
dot w (c ∷ cs) [] = 0
dot w (c ∷ cs) (x ∷ xs) = (c * x + dot w cs xs) % 2 ^ w

-- the linear combination of rows of n places, each with its weight
abbrev pub sum : ℕ → ℕ → List ℕ → List (List ℕ) → List ℕ
sum w n [] rs = replicate n 0
sum w n (k ∷ ks) [] = replicate n 0
sum w n (k ∷ ks) (r ∷ rs) = plus w (times w k r) (sum w n ks rs)

-- what stands at a place, or 0 behind the end
abbrev pub entry : List ℕ → ℕ → ℕ
entry [] k = 0
entry (x ∷ xs) zero = x
entry (x ∷ xs) (suc k) = entry xs k

-- one more place at the end; and the places in the other order
abbrev pub snoc : List ℕ → ℕ → List ℕ
snoc [] y = y ∷ []
snoc (x ∷ xs) y = x ∷ snoc xs y

abbrev pub flip : List ℕ → List ℕ
flip [] = []
flip (x ∷ xs) = snoc (flip xs) x

abbrev pub flips : List (List ℕ) → List (List ℕ)
flips [] = []
flips (r ∷ rs) = flip r ∷ flips rs
