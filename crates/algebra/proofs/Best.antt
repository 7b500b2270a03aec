-- best rows of a set from those of a set of vectors with one place less
use mathlib.Core.Path.{◌≡◌, refl, sym, ap, ap₂, ◌∙◌, subst}
use mathlib.Core.Logic.{◌⊎◌, inl, inr}
use mathlib.Core.List.{List, [], ◌∷◌, ◌++◌}
use mathlib.Core.Option.{some}
use Prim.Native.Nat.{ℕ, zero, suc, ◌*◌, ◌^◌, ◌<◌}
use native.Mathlib.Omega.{arith}
use lib.ListN.{length, replicate}
use lib.Pow.{pow_pos}
use Rattle.algebra.proofs.Rows.{none≢some, lead_place, lead_value}
use Rattle.algebra.proofs.Only.{no_row}
use Rattle.algebra.proofs.LastPlace.{nth_bound, nth_unsnoc, lead_snoc, lead_cons, lead_unsnoc}
use Rattle.algebra.specs.Vec.{snoc}
use Rattle.algebra.specs.Rows.{nth, Lead, Row, here, there, Best}
use Rattle.algebra.specs.Tell.{extend}

-- Best of the same rows for the same set
pub best_same : {P Q : List ℕ → Type 0} {rs : List (List ℕ)} → ((c : List ℕ) → P c → Q c) → ((c : List ℕ) → Q c → P c) → Best P rs → Best Q rs
best_same f g a = record { members = λ r i h. f r (a.members r i h); leads = a.leads; ordered = a.ordered; small = a.small; reaches = λ c p v q l. a.reaches c p v (g c q) l }

-- a set without places
pub best_none : (P : List ℕ → Type 0) → ((c : List ℕ) → P c → c ≡ []) → Best P []
best_none P f = record {
  members = λ r i h. absurd (no_row h);
  leads = λ r i h. absurd (no_row h);
  ordered = λ r s i j p q v w h. absurd (no_row h);
  small = λ r s i j q w x h. absurd (no_row h);
  reaches = λ c p v x l. absurd (none≢some v (sym (ap (λ (z : List ℕ). nth z p) (f c x)) ∙ l.is));
}

-- rows with one more place each
pub row_bound : {r : List ℕ} {i : ℕ} {rs : List (List ℕ)} → Row r i rs → i < length rs
row_bound here = omega arith
row_bound (there h) = omega (arith, row_bound h)

pub ext_row : (g : List ℕ → ℕ) {r : List ℕ} {i : ℕ} (rs : List (List ℕ)) → Row r i (extend g rs) → (s : List ℕ) × (r ≡ snoc s (g s)) × Row s i rs
unfolding extend
ext_row g [] h = absurd (no_row h)
ext_row g (s ∷ rs) here = (s, refl, here)
ext_row g (s ∷ rs) (there h) = let f = ext_row g rs h in (f.0, f.1, there f.2)

pub row_ext : (g : List ℕ → ℕ) {r : List ℕ} {i : ℕ} {rs : List (List ℕ)} → Row r i rs → Row (snoc r (g r)) i (extend g rs)
unfolding extend
row_ext g here = here
row_ext g (there h) = there (row_ext g h)

-- and one more row
pub row_left : {r : List ℕ} {i : ℕ} {rs : List (List ℕ)} (ss : List (List ℕ)) → Row r i rs → Row r i (rs ++ ss)
row_left ss here = here
row_left ss (there h) = there (row_left ss h)

pub row_end : (z : List ℕ) (rs : List (List ℕ)) → Row z (length rs) (rs ++ (z ∷ []))
row_end z [] = here
row_end z (r ∷ rs) = there (row_end z rs)

pub row_split : {r : List ℕ} {i : ℕ} (z : List ℕ) (rs : List (List ℕ)) → Row r i (rs ++ (z ∷ [])) → Row r i rs ⊎ ((r ≡ z) × (i ≡ length rs))
row_split z [] here = inr (refl, refl)
row_split z [] (there h) = absurd (no_row h)
row_split z (s ∷ rs) here = inl here
row_split z (s ∷ rs) (there h) = elim (row_split z rs h) [ inl a ↦ inl (there a) | inr b ↦ inr (b.0, ap suc b.1) ]

module _ (P Q : List ℕ → Type 0) (n : ℕ) (g : List ℕ → ℕ) (rs : List (List ℕ)) (a : Best P rs) (sized : (c : List ℕ) → P c → length c ≡ n) (up : (c : List ℕ) → P c → Q (snoc c (g c))) (down : (c : List ℕ) → Q c → (d : List ℕ) × (y : ℕ) × (c ≡ snoc d y) × P d) where
  -- the lead of a row with one more place is the row's
  old_lead : (s : List ℕ) (i p v : ℕ) → Row s i rs → Lead (snoc s (g s)) p v → Lead s p v
  old_lead s i p v h l =
      let m = a.leads s i h in
      let k = lead_snoc (g s) m.2 in
      subst (λ (x : ℕ). Lead s x v) (lead_place k l) (subst (λ (x : ℕ). Lead s m.0 x) (lead_value k l) m.2)

  e_all : (r : List ℕ) (i : ℕ) → Row r i (extend g rs) → Q r
  e_all r i h = let f = ext_row g rs h in subst Q (sym f.1) (up f.0 (a.members f.0 i f.2))

  e_leads : (r : List ℕ) (i : ℕ) → Row r i (extend g rs) → (p : ℕ) × (j : ℕ) × Lead r p (2 ^ j)
  e_leads r i h = let f = ext_row g rs h in let l = a.leads f.0 i f.2 in (l.0, l.1, subst (λ (x : List ℕ). Lead x l.0 (2 ^ l.1)) (sym f.1) (lead_snoc (g f.0) l.2))

  -- a lead of such a row, as one of the row without the new place
  e_old : (r : List ℕ) (i p v : ℕ) → Row r i (extend g rs) → Lead r p v → (s : List ℕ) × (r ≡ snoc s (g s)) × Row s i rs × Lead s p v
  e_old r i p v h l = let f = ext_row g rs h in (f.0, f.1, f.2, old_lead f.0 i p v f.2 (subst (λ (x : List ℕ). Lead x p v) f.1 l))

  e_before : (r : List ℕ) (i p v : ℕ) → Row r i (extend g rs) → Lead r p v → p < n
  e_before r i p v h l =
      let f = e_old r i p v h l in
      let b = nth_bound f.0 p v f.3.is in
      let c = sized f.0 (a.members f.0 i f.2) in
      omega arith

  e_order : (r s : List ℕ) (i j p q v w : ℕ) → Row r i (extend g rs) → Row s j (extend g rs) → i < j → Lead r p v → Lead s q w → p < q
  e_order r s i j p q v w h k lt l m = let f = e_old r i p v h l in let e = e_old s j q w k m in a.ordered f.0 e.0 i j p q v w f.2 e.2 lt f.3 e.3

  e_small : (r s : List ℕ) (i j q w x : ℕ) → Row r i (extend g rs) → Row s j (extend g rs) → i < j → Lead s q w → nth r q ≡ some x → x < w
  e_small r s i j q w x h k lt m z = elim (nth_unsnoc f.0 (g f.0) q x (ap (λ (y : List ℕ). nth y q) (sym f.1) ∙ z)) [ inl o ↦ a.small f.0 e.0 i j q w x f.2 e.2 lt e.3 o | inr o ↦ absurd (omega (arith, o.0, e_before s j q w k m, sized f.0 (a.members f.0 i f.2))) ]
    where
      f : (r₁ : List ℕ) × (r ≡ snoc r₁ (g r₁)) × Row r₁ i rs
      f = ext_row g rs h

      e : (s₁ : List ℕ) × (s ≡ snoc s₁ (g s₁)) × Row s₁ j rs × Lead s₁ q w
      e = e_old s j q w k m

  -- a lead of the set stands before the last place, where a row is found, or at it
  e_reach : (c : List ℕ) (p v : ℕ) → Q c → Lead c p v → ((r : List ℕ) × (i : ℕ) × (w : ℕ) × (k : ℕ) × Row r i (extend g rs) × Lead r p w × (v ≡ k * w)) ⊎ (Q (snoc (replicate n 0) v) × (p ≡ n))
  e_reach c p v h l = elim (lead_unsnoc d y p v (subst (λ (x : List ℕ). Lead x p v) o.2 l)) [ inl m ↦ (let f = a.reaches d p v o.3 m in inl (snoc f.0 (g f.0), f.1, f.2, f.3, row_ext g f.4, lead_snoc (g f.0) f.5, f.6)) | inr b ↦ inr (subst Q (o.2 ∙ ap₂ snoc (b.0 ∙ ap (λ (x : ℕ). replicate x 0) len) b.1) h, b.2 ∙ len) ]
    where
      o : (d : List ℕ) × (y : ℕ) × (c ≡ snoc d y) × P d
      o = down c h

      d : List ℕ
      d = o.0

      y : ℕ
      y = o.1

      len : length d ≡ n
      len = sized d o.3

  -- no row for the last place
  pub best_extend : ((y : ℕ) → Q (snoc (replicate n 0) y) → y ≡ 0) → Best Q (extend g rs)
  best_extend f = record { members = e_all; leads = e_leads; ordered = e_order; small = e_small; reaches = λ c p v h l. elim (e_reach c p v h l) [ inl o ↦ o | inr o ↦ absurd (omega (arith, f v o.0, l.not_0)) ] }

  -- a row with a power of two there
  pub best_append : (e : ℕ) → Q (snoc (replicate n 0) (2 ^ e)) → ((c : List ℕ) → P c → g c < 2 ^ e)
      → ((y : ℕ) → Q (snoc (replicate n 0) y) → (k : ℕ) × (y ≡ k * 2 ^ e)) → Best Q (extend g rs ++ (snoc (replicate n 0) (2 ^ e) ∷ []))
  best_append e qz low mult = record { members = members; leads = leads; ordered = ordered; small = small; reaches = reaches }
    where
      z : List ℕ
      z = snoc (replicate n 0) (2 ^ e)

      R : List (List ℕ)
      R = extend g rs ++ (z ∷ [])

      lead_at : (m : ℕ) → Lead (snoc (replicate m 0) (2 ^ e)) m (2 ^ e)
      lead_at zero = record { zeros = refl; is = refl; not_0 = pow_pos e }
      lead_at (suc m) = lead_cons (lead_at m)

      lead_z : Lead z n (2 ^ e)
      lead_z = lead_at n

      members : (r : List ℕ) (i : ℕ) → Row r i R → Q r
      members r i h = elim (row_split z (extend g rs) h) [ inl k ↦ e_all r i k | inr b ↦ subst Q (sym b.0) qz ]

      leads : (r : List ℕ) (i : ℕ) → Row r i R → (p : ℕ) × (j : ℕ) × Lead r p (2 ^ j)
      leads r i h = elim (row_split z (extend g rs) h) [ inl k ↦ e_leads r i k | inr b ↦ (n, e, subst (λ (x : List ℕ). Lead x n (2 ^ e)) (sym b.0) lead_z) ]

      place : (s : List ℕ) (q w : ℕ) → s ≡ z → Lead s q w → (q ≡ n) × (w ≡ 2 ^ e)
      place s q w b m = let l : Lead z q w = subst (λ (x : List ℕ). Lead x q w) b m in (lead_place l lead_z, lead_value l lead_z)

      ordered : (r s : List ℕ) (i j p q v w : ℕ) → Row r i R → Row s j R → i < j → Lead r p v → Lead s q w → p < q
      ordered r s i j p q v w h k lt l m = elim (row_split z (extend g rs) h) [ inl h₁ ↦ elim (row_split z (extend g rs) k) [ inl k₁ ↦ e_order r s i j p q v w h₁ k₁ lt l m | inr b ↦ omega (arith, e_before r i p v h₁ l, (place s q w b.0 m).0) ] | inr b ↦ elim (row_split z (extend g rs) k) [ inl k₁ ↦ absurd (omega (arith, row_bound k₁, b.1)) | inr c ↦ absurd (omega (arith, b.1, c.1)) ] ]

      small : (r s : List ℕ) (i j q w x : ℕ) → Row r i R → Row s j R → i < j → Lead s q w → nth r q ≡ some x → x < w
      small r s i j q w x h k lt m y = elim (row_split z (extend g rs) h) [ inl h₁ ↦ elim (row_split z (extend g rs) k) [ inl k₁ ↦ e_small r s i j q w x h₁ k₁ lt m y | inr b ↦ at_end h₁ (place s q w b.0 m) ] | inr b ↦ elim (row_split z (extend g rs) k) [ inl k₁ ↦ absurd (omega (arith, row_bound k₁, b.1)) | inr c ↦ absurd (omega (arith, b.1, c.1)) ] ]
        where
          at_end : Row r i (extend g rs) → (q ≡ n) × (w ≡ 2 ^ e) → x < w
          at_end h₁ o = elim (nth_unsnoc f.0 (g f.0) q x (ap (λ (u : List ℕ). nth u q) (sym f.1) ∙ y)) [ inl u ↦ absurd (omega (arith, nth_bound f.0 q x u, o.0, sized f.0 pf)) | inr u ↦ omega (arith, low f.0 pf, u.1, o.1) ]
            where
              f : (r₁ : List ℕ) × (r ≡ snoc r₁ (g r₁)) × Row r₁ i rs
              f = ext_row g rs h₁

              pf : P f.0
              pf = a.members f.0 i f.2

      reaches : (c : List ℕ) (p v : ℕ) → Q c → Lead c p v → (r : List ℕ) × (i : ℕ) × (w : ℕ) × (k : ℕ) × Row r i R × Lead r p w × (v ≡ k * w)
      reaches c p v h l = elim (e_reach c p v h l) [ inl o ↦ (o.0, o.1, o.2, o.3, row_left (z ∷ []) o.4, o.5, o.6) | inr o ↦ (let m = mult v o.0 in (z, length (extend g rs), 2 ^ e, m.0, row_end z (extend g rs), subst (λ (x : ℕ). Lead z x (2 ^ e)) (sym o.1) lead_z, m.1)) ]
