-- one more place at the end, and the places in the other order
use mathlib.Core.Path.{◌≡◌, refl, sym, ap, ◌∙◌}
use mathlib.Core.Logic.{◌⊎◌, inl, inr}
use mathlib.Core.List.{List, [], ◌∷◌}
use mathlib.Core.Option.{some}
use Prim.Native.Nat.{ℕ, zero, suc, ◌+◌, ◌*◌, ◌%◌, ◌^◌, ◌<◌}
use native.Mathlib.Omega.{arith}
use native.Mathlib.Nat.{suc_inj}
use lib.ListN.{length, replicate, take}
use lib.Dec.{T}
use Rattle.algebra.proofs.Modular.{push, pull, red}
use Rattle.algebra.proofs.Vec.{cons_≡, below_head, below_tail, below_cons, length_times}
use Rattle.algebra.proofs.Rows.{none≢some}
use Rattle.algebra.specs.Vec.{below, plus, times, dot, snoc, flip, flips}
use Rattle.algebra.specs.Rows.{nth, Lead}
use Rattle.algebra.specs.Span.{Fit, Each}

pub length_snoc : (xs : List ℕ) (y : ℕ) → length (snoc xs y) ≡ suc (length xs)
length_snoc [] y = refl
length_snoc (x ∷ xs) y = ap suc (length_snoc xs y)

pub length_flip : (xs : List ℕ) → length (flip xs) ≡ length xs
length_flip [] = refl
length_flip (x ∷ xs) = length_snoc (flip xs) x ∙ ap suc (length_flip xs)

pub flip_snoc : (xs : List ℕ) (y : ℕ) → flip (snoc xs y) ≡ y ∷ flip xs
flip_snoc [] y = refl
flip_snoc (x ∷ xs) y = ap (λ (z : List ℕ). snoc z x) (flip_snoc xs y)

pub flip_flip : (xs : List ℕ) → flip (flip xs) ≡ xs
flip_flip [] = refl
flip_flip (x ∷ xs) = flip_snoc (flip xs) x ∙ cons_≡ refl (flip_flip xs)

pub below_snoc : (m y : ℕ) (xs : List ℕ) → y < m → T (below m xs) → T (below m (snoc xs y))
below_snoc m y [] h b = below_cons m y [] h b
below_snoc m y (x ∷ xs) h b = below_cons m x (snoc xs y) (below_head m x xs b) (below_snoc m y xs h (below_tail m x xs b))

pub below_unsnoc : (m y : ℕ) (xs : List ℕ) → T (below m (snoc xs y)) → T (below m xs) × (y < m)
below_unsnoc m y [] b = (tt, below_head m y [] b)
below_unsnoc m y (x ∷ xs) b = let f = below_unsnoc m y xs (below_tail m x (snoc xs y) b) in (below_cons m x xs (below_head m x (snoc xs y) b) f.0, f.1)

pub fit_snoc : (w : ℕ) {n y : ℕ} {v : List ℕ} → y < 2 ^ w → Fit w n v → Fit w (suc n) (snoc v y)
fit_snoc w {n} {y} {v} h a = record { sized = length_snoc v y ∙ ap suc a.sized; small = below_snoc (2 ^ w) y v h a.small }

pub fit_unsnoc : (w : ℕ) {n y : ℕ} {v : List ℕ} → Fit w (suc n) (snoc v y) → Fit w n v × (y < 2 ^ w)
fit_unsnoc w {n} {y} {v} a = let f = below_unsnoc (2 ^ w) y v a.small in (record { sized = suc_inj (sym (length_snoc v y) ∙ a.sized); small = f.0 }, f.1)

pub fit_flip : (w : ℕ) {n : ℕ} {v : List ℕ} → Fit w n v → Fit w n (flip v)
fit_flip w {n} {v} a = record { sized = length_flip v ∙ a.sized; small = small v a.small }
  where
    small : (v₁ : List ℕ) → T (below (2 ^ w) v₁) → T (below (2 ^ w) (flip v₁))
    small [] b = tt
    small (x ∷ v₁) b = below_snoc (2 ^ w) x (flip v₁) (below_head (2 ^ w) x v₁ b) (small v₁ (below_tail (2 ^ w) x v₁ b))

pub fits_flips : (w n : ℕ) (rs : List (List ℕ)) → Each (Fit w n) rs → Each (Fit w n) (flips rs)
fits_flips w n [] e = tt
fits_flips w n (r ∷ rs) e = (fit_flip w e.0, fits_flips w n rs e.1)

-- a list that is not empty has a last place
pub unsnoc : (n : ℕ) (c : List ℕ) → length c ≡ suc n → (d : List ℕ) × (y : ℕ) × (c ≡ snoc d y)
unsnoc n [] e = absurd (omega arith)
unsnoc zero (x ∷ []) e = ([], x, refl)
unsnoc zero (x ∷ y ∷ c) e = absurd (omega arith)
unsnoc (suc n) (x ∷ c) e = let f = unsnoc n c (suc_inj e) in (x ∷ f.0, f.1, cons_≡ refl f.2)

-- sums, multiples and dot
pub plus_snoc : (w x y : ℕ) (xs ys : List ℕ) → length xs ≡ length ys → plus w (snoc xs x) (snoc ys y) ≡ snoc (plus w xs ys) ((x + y) % 2 ^ w)
plus_snoc w x y [] [] e = refl
plus_snoc w x y [] (b ∷ ys) e = absurd (omega arith)
plus_snoc w x y (a ∷ xs) [] e = absurd (omega arith)
plus_snoc w x y (a ∷ xs) (b ∷ ys) e = cons_≡ refl (plus_snoc w x y xs ys (suc_inj e))

pub times_snoc : (w k x : ℕ) (xs : List ℕ) → times w k (snoc xs x) ≡ snoc (times w k xs) ((k * x) % 2 ^ w)
times_snoc w k x [] = refl
times_snoc w k x (a ∷ xs) = cons_≡ refl (times_snoc w k x xs)

pub flip_times : (w k : ℕ) (xs : List ℕ) → flip (times w k xs) ≡ times w k (flip xs)
flip_times w k [] = refl
flip_times w k (x ∷ xs) = ap (λ (z : List ℕ). snoc z ((k * x) % 2 ^ w)) (flip_times w k xs) ∙ sym (times_snoc w k x (flip xs))

pub flip_plus : (w : ℕ) (xs ys : List ℕ) → length xs ≡ length ys → flip (plus w xs ys) ≡ plus w (flip xs) (flip ys)
flip_plus w [] ys e = refl
flip_plus w (x ∷ xs) [] e = absurd (omega arith)
flip_plus w (x ∷ xs) (y ∷ ys) e =
    ap (λ (z : List ℕ). snoc z ((x + y) % 2 ^ w)) (flip_plus w xs ys (suc_inj e))
    ∙ sym (plus_snoc w x y (flip xs) (flip ys) (length_flip xs ∙ suc_inj e ∙ sym (length_flip ys)))

pub flip_sums : (w : ℕ) {n : ℕ} (k : ℕ) (c d : List ℕ) → Fit w n c → Fit w n d → flip (plus w c (times w k d)) ≡ plus w (flip c) (times w k (flip d))
flip_sums w k c d p q = flip_plus w c (times w k d) (p.sized ∙ sym q.sized ∙ sym (length_times w k d)) ∙ ap (plus w (flip c)) (flip_times w k d)

snoc_zero : (n : ℕ) → snoc (replicate n 0) 0 ≡ replicate (suc n) 0
snoc_zero zero = refl
snoc_zero (suc n) = cons_≡ refl (snoc_zero n)

pub flip_zero : (n : ℕ) → flip (replicate n 0) ≡ replicate n 0
flip_zero zero = refl
flip_zero (suc n) = ap (λ (z : List ℕ). snoc z 0) (flip_zero n) ∙ snoc_zero n

pub dot_snoc : (w y x : ℕ) (cs xs : List ℕ) → length cs ≡ length xs → dot w (snoc cs y) (snoc xs x) ≡ (dot w cs xs + y * x) % 2 ^ w
dot_snoc w y x [] [] e = ap (λ (z : ℕ). z % 2 ^ w) (omega arith)
dot_snoc w y x [] (b ∷ xs) e = absurd (omega arith)
dot_snoc w y x (a ∷ cs) [] e = absurd (omega arith)
dot_snoc w y x (a ∷ cs) (b ∷ xs) e = rw (dot_snoc w y x cs xs (suc_inj e)) (simp push (simp pull (ap (red (2 ^ w)) (omega arith))))

pub dot_flip : (w : ℕ) (cs xs : List ℕ) → length cs ≡ length xs → dot w (flip cs) (flip xs) ≡ dot w cs xs
dot_flip w [] xs e = refl
dot_flip w (c ∷ cs) [] e = absurd (omega arith)
dot_flip w (c ∷ cs) (x ∷ xs) e = dot_snoc w c x (flip cs) (flip xs) (length_flip cs ∙ suc_inj e ∙ sym (length_flip xs)) ∙ rw (dot_flip w cs xs (suc_inj e)) (ap (λ (z : ℕ). z % 2 ^ w) (omega arith))

-- entries and leads
pub nth_bound : (xs : List ℕ) (p v : ℕ) → nth xs p ≡ some v → p < length xs
nth_bound [] p v h = absurd (none≢some v h)
nth_bound (x ∷ xs) zero v h = omega arith
nth_bound (x ∷ xs) (suc p) v h = omega (arith, nth_bound xs p v h)

pub nth_snoc : (xs : List ℕ) (y p v : ℕ) → nth xs p ≡ some v → nth (snoc xs y) p ≡ some v
nth_snoc [] y p v h = absurd (none≢some v h)
nth_snoc (x ∷ xs) y zero v h = h
nth_snoc (x ∷ xs) y (suc p) v h = nth_snoc xs y p v h

take_snoc : (xs : List ℕ) (y p v : ℕ) → nth xs p ≡ some v → take p (snoc xs y) ≡ take p xs
take_snoc [] y p v h = absurd (none≢some v h)
take_snoc (x ∷ xs) y zero v h = refl
take_snoc (x ∷ xs) y (suc p) v h = cons_≡ refl (take_snoc xs y p v h)

pub nth_unsnoc : (xs : List ℕ) (y p v : ℕ) → nth (snoc xs y) p ≡ some v → (nth xs p ≡ some v) ⊎ ((p ≡ length xs) × (y ≡ v))
nth_unsnoc [] y zero v h = inr (refl, cc)
nth_unsnoc [] y (suc p) v h = absurd (none≢some v h)
nth_unsnoc (x ∷ xs) y zero v h = inl h
nth_unsnoc (x ∷ xs) y (suc p) v h = elim (nth_unsnoc xs y p v h) [ inl a ↦ inl a | inr b ↦ inr (ap suc b.0, b.1) ]

pub lead_snoc : {r : List ℕ} {p v : ℕ} (y : ℕ) → Lead r p v → Lead (snoc r y) p v
lead_snoc {r} {p} {v} y a = record { zeros = take_snoc r y p v a.is ∙ a.zeros; is = nth_snoc r y p v a.is; not_0 = a.not_0 }

pub lead_cons : {r : List ℕ} {p v : ℕ} → Lead r p v → Lead (0 ∷ r) (suc p) v
lead_cons a = record { zeros = cons_≡ refl a.zeros; is = a.is; not_0 = a.not_0 }

-- the lead of a longer row is the shorter's, or stands at the end behind zeros
pub lead_unsnoc : (c : List ℕ) (y p v : ℕ) → Lead (snoc c y) p v → Lead c p v ⊎ ((c ≡ replicate (length c) 0) × (y ≡ v) × (p ≡ length c))
lead_unsnoc [] y zero v a = inr (refl, (let e = a.is in cc), refl)
lead_unsnoc [] y (suc p) v a = absurd (none≢some v a.is)
lead_unsnoc (x ∷ c) y zero v a = inl (record { zeros = refl; is = a.is; not_0 = a.not_0 })
lead_unsnoc (x ∷ c) y (suc p) v a = (let n = a.zeros in let z : x ≡ 0 = cc in elim (lead_unsnoc c y p v (record { zeros = cc; is = a.is; not_0 = a.not_0 })) [ inl l ↦ inl (rw z (lead_cons l)) | inr b ↦ inr (cons_≡ z b.0, b.1, ap suc b.2) ])
