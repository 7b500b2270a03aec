-- entries of rows, and their leads
use mathlib.Core.Path.{◌≡◌, refl, sym, ap, ◌∙◌}
use mathlib.Core.Logic.{◌⊎◌, inl, inr}
use mathlib.Core.List.{List, [], ◌∷◌}
use mathlib.Core.Option.{some, none}
use Prim.Native.Nat.{ℕ, zero, suc, ◌+◌, ◌*◌, ◌%◌, ◌^◌, ◌<◌}
use native.Mathlib.Omega.{arith}
use native.Mathlib.Nat.{mod-eq_of_lt, suc_inj, zero-add, le_of_suc-le-suc, not-suc-le-zero}
use lib.ListN.{length, replicate, take}
use lib.Dec.{T}
use Rattle.algebra.proofs.Modular.{mods, push, pull, out, by, by_zero}
use Rattle.algebra.proofs.Vec.{cons_≡, below_head, below_tail}
use Rattle.algebra.specs.Vec.{neg, below, plus, times}
use Rattle.algebra.specs.Rows.{nth, Lead}

pub none≢some : (x : ℕ) → none ≡ some x → ⊥
none≢some x h = let z : ◌≡◌ {A = ℕ} 0 1 = cc in omega arith

pub nth_plus : (w : ℕ) (xs ys : List ℕ) (p v : ℕ) → nth (plus w xs ys) p ≡ some v → (a : ℕ) × (b : ℕ) × (nth xs p ≡ some a) × (nth ys p ≡ some b) × (v ≡ (a + b) % 2 ^ w)
nth_plus w [] ys p v h = absurd (none≢some v h)
nth_plus w (x ∷ xs) [] p v h = absurd (none≢some v h)
nth_plus w (x ∷ xs) (y ∷ ys) zero v h = (x, y, refl, refl, cc)
nth_plus w (x ∷ xs) (y ∷ ys) (suc p) v h = nth_plus w xs ys p v h

pub nth_times : (w k : ℕ) (xs : List ℕ) (p v : ℕ) → nth (times w k xs) p ≡ some v → (a : ℕ) × (nth xs p ≡ some a) × (v ≡ (k * a) % 2 ^ w)
nth_times w k [] p v h = absurd (none≢some v h)
nth_times w k (x ∷ xs) zero v h = (x, refl, cc)
nth_times w k (x ∷ xs) (suc p) v h = nth_times w k xs p v h

pub nth_below : (n : ℕ) (xs : List ℕ) (p v : ℕ) → T (below n xs) → nth xs p ≡ some v → v < n
nth_below n [] p v b h = absurd (none≢some v h)
nth_below n (x ∷ xs) zero v b h = let e : x ≡ v = cc in let q = below_head n x xs b in omega arith
nth_below n (x ∷ xs) (suc p) v b h = nth_below n xs p v (below_tail n x xs b) h

pub nth_some : (xs : List ℕ) (p : ℕ) → p < length xs → (v : ℕ) × (nth xs p ≡ some v)
nth_some [] p h = absurd (not-suc-le-zero h)
nth_some (x ∷ xs) zero h = (x, refl)
nth_some (x ∷ xs) (suc p) h = nth_some xs p (le_of_suc-le-suc h)

-- the first p entries are 0
abbrev pub Low : ℕ → List ℕ → Type 0
Low p r = take p r ≡ replicate p 0

pub low_nth : (p q x : ℕ) (r : List ℕ) → Low p r → q < p → nth r q ≡ some x → x ≡ 0
low_nth zero q x r l h e = absurd (not-suc-le-zero h)
low_nth (suc p) q x [] l h e = absurd (none≢some x e)
low_nth (suc p) zero x (y ∷ ys) l h e = cc
low_nth (suc p) (suc q) x (y ∷ ys) l h e = low_nth p q x ys (cc) (le_of_suc-le-suc h) e

pub low_more : (p : ℕ) (r : List ℕ) → Low p r → nth r p ≡ some 0 → Low (suc p) r
low_more zero [] l e = absurd (none≢some 0 e)
low_more zero (y ∷ ys) l e = cc
low_more (suc p) [] l e = absurd (none≢some 0 e)
low_more (suc p) (y ∷ ys) l e = cons_≡ (cc) (low_more p ys (cc) e)

pub low_plus : (w p k : ℕ) (xs ys : List ℕ) → Low p xs → Low p ys → Low p (plus w xs (times w k ys))
low_plus w zero k xs ys l m = refl
low_plus w (suc p) k [] ys l m = l
low_plus w (suc p) k (x ∷ xs) [] l m = m
low_plus w (suc p) k (x ∷ xs) (y ∷ ys) l m = let e : x ≡ 0 = cc in let f : y ≡ 0 = cc in cons_≡ (rw (e, f) (simp mods (by_zero w _ 0 (omega arith)))) (low_plus w p k xs ys (cc) (cc))

pub low_all : (c : List ℕ) → Low (length c) c → c ≡ replicate (length c) 0
low_all [] l = refl
low_all (x ∷ xs) l = cons_≡ (cc) (low_all xs (cc))

-- a row has one lead
pub lead_least : {r : List ℕ} {p v q v' : ℕ} → Lead r p v → Lead r q v' → q < p → ⊥
lead_least {r} {p} {v} {q} {v'} a b h = let e = low_nth p q v' r a.zeros h b.is in let f = b.not_0 in omega arith

pub lead_place : {r : List ℕ} {p v q v' : ℕ} → Lead r p v → Lead r q v' → p ≡ q
lead_place {p} {q} a b = let f : ¬ (q < p) = lead_least a b in let g : ¬ (p < q) = lead_least b a in omega arith

pub lead_value : {r : List ℕ} {p v q v' : ℕ} → Lead r p v → Lead r q v' → v ≡ v'
lead_value {r} {p} {v} {q} {v'} a b = let e = lead_place a b in let f = a.is in let g = b.is in cc

pub no_lead : (c : List ℕ) → (c ≡ replicate (length c) 0) ⊎ ((p : ℕ) × (v : ℕ) × Lead c p v)
no_lead [] = inl refl
no_lead (zero ∷ xs) = elim (no_lead xs) [ inl e ↦ inl (cons_≡ refl e) | inr h ↦ inr (suc h.0, h.1, record { zeros = cons_≡ refl h.2.zeros; is = h.2.is; not_0 = h.2.not_0 }) ]
no_lead (suc x ∷ xs) = inr (0, suc x, record { zeros = refl; is = refl; not_0 = omega arith })

-- two numbers below 2 ^ w whose difference is 0
pub sub_zero : (w x y : ℕ) → x < 2 ^ w → y < 2 ^ w → (x + (neg w * y) % 2 ^ w) % 2 ^ w ≡ 0 → x ≡ y
sub_zero w x y p q h = sym (mod-eq_of_lt p) ∙ sym again ∙ ap (λ (z : ℕ). (z + y) % 2 ^ w) h ∙ ap (λ (z : ℕ). z % 2 ^ w) (zero-add y) ∙ mod-eq_of_lt q
  where
    again : ((x + (neg w * y) % 2 ^ w) % 2 ^ w + y) % 2 ^ w ≡ x % 2 ^ w
    again = simp push (simp pull (simp out (by w _ x y (omega arith))))

pub sub_self : (w x y : ℕ) → x ≡ y → (x + (neg w * y) % 2 ^ w) % 2 ^ w ≡ 0
sub_self w x y e = rw e (simp push (simp pull (simp out (by_zero w _ y (omega arith)))))

-- a difference that is 0
pub same_of_zero : (w n : ℕ) (xs ys : List ℕ) → length xs ≡ n → length ys ≡ n → T (below (2 ^ w) xs) → T (below (2 ^ w) ys) → plus w xs (times w (neg w) ys) ≡ replicate n 0 → xs ≡ ys
same_of_zero w zero [] [] e f b c h = refl
same_of_zero w zero [] (y ∷ ys) e f b c h = absurd (omega arith)
same_of_zero w zero (x ∷ xs) ys e f b c h = absurd (omega arith)
same_of_zero w (suc n) [] ys e f b c h = absurd (omega arith)
same_of_zero w (suc n) (x ∷ xs) [] e f b c h = absurd (omega arith)
same_of_zero w (suc n) (x ∷ xs) (y ∷ ys) e f b c h =
    let z : (x + (neg w * y) % 2 ^ w) % 2 ^ w ≡ 0 = cc in
    cons_≡ (sub_zero w x y (below_head (2 ^ w) x xs b) (below_head (2 ^ w) y ys c) z) (same_of_zero w n xs ys (suc_inj e) (suc_inj f) (below_tail (2 ^ w) x xs b) (below_tail (2 ^ w) y ys c) (cc))
