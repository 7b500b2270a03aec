-- lists that begin alike, and lists cut in two
use Rattle.std.proofs.Common.{◌≡◌, ℕ, zero, suc, ◌<◌, T, List, [], ◌∷◌, ◌++◌, length, get_or, take, drop, replicate, sym, refl, ap, ◌∙◌, arith, length-take}
use Rattle.std.proofs.lemmas.List.{get_or-take}
use Rattle.algebra.specs.Vec.{below}
use Rattle.algebra.proofs.Vec.{below_cons, below_head, below_tail}

-- lists that begin alike have the same numbers there, and reach equally far
pub same_at : (n i : ℕ) (xs ys : List ℕ) → take n xs ≡ take n ys → i < n → get_or xs i 0 ≡ get_or ys i 0
same_at n i xs ys e h = sym (get_or-take n xs i 0 h) ∙ ap (λ (l : List ℕ). get_or l i 0) e ∙ get_or-take n ys i 0 h

pub same_reach : (n : ℕ) (xs ys : List ℕ) → take (suc n) xs ≡ take (suc n) ys → n < length xs → n < length ys
same_reach n xs ys e h = omega (arith, ap length e, length-take (suc n) xs, length-take (suc n) ys)

-- the list as its first places and the others
pub three : (ws : List ℕ) → 2 < length ws → ws ≡ get_or ws 0 0 ∷ get_or ws 1 0 ∷ get_or ws 2 0 ∷ drop 3 ws
three [] l = absurd (omega arith)
three (x ∷ []) l = absurd (omega arith)
three (x ∷ y ∷ []) l = absurd (omega arith)
three (x ∷ y ∷ t ∷ ws) l = refl

pub four : (ws : List ℕ) → 3 < length ws → ws ≡ get_or ws 0 0 ∷ get_or ws 1 0 ∷ get_or ws 2 0 ∷ get_or ws 3 0 ∷ drop 4 ws
four [] l = absurd (omega arith)
four (x ∷ []) l = absurd (omega arith)
four (x ∷ y ∷ []) l = absurd (omega arith)
four (x ∷ y ∷ t ∷ []) l = absurd (omega arith)
four (x ∷ y ∷ t ∷ v ∷ ws) l = refl

-- lists of numbers below a bound
pub below_take : (b n : ℕ) (xs : List ℕ) → ((i : ℕ) → get_or xs i 0 < b) → T (below b (take n xs))
below_take b zero xs h = tt
below_take b (suc n) [] h = tt
below_take b (suc n) (x ∷ xs) h = below_cons b x (take n xs) (h 0) (below_take b n xs (λ i. h (suc i)))

pub below_zeros : (b n : ℕ) → 0 < b → T (below b (replicate n 0))
below_zeros b zero h = tt
below_zeros b (suc n) h = below_cons b 0 (replicate n 0) h (below_zeros b n h)

pub below_append : (b : ℕ) (xs ys : List ℕ) → T (below b xs) → T (below b ys) → T (below b (xs ++ ys))
below_append b [] ys p q = q
below_append b (x ∷ xs) ys p q = below_cons b x (xs ++ ys) (below_head b x xs p) (below_append b xs ys (below_tail b x xs p) q)
