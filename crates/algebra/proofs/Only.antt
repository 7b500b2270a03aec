-- a closed set has at most one list of best rows
use mathlib.Core.Path.{◌≡◌, refl, sym, ap, ◌∙◌, subst}
use mathlib.Core.Logic.{inl, inr}
use mathlib.Core.List.{List, [], ◌∷◌}
use mathlib.Core.Option.{some}
use Prim.Native.Nat.{ℕ, zero, suc, ◌+◌, ◌*◌, ◌%◌, ◌-◌, ◌^◌, ◌<◌, ◌≤◌}
use native.Mathlib.Omega.{arith}
use native.Mathlib.Decide.{dec_le}
use native.Mathlib.Nat.{mod-eq_of_lt, add-mul-mod_self_right, mod-mod_of_dvd, dvd-mul_left}
use lib.ListN.{replicate}
use lib.Pow.{pow-add, pow_mono}
use Rattle.algebra.proofs.Modular.{push, pull, out, by}
use Rattle.algebra.proofs.Vec.{cons_≡}
use Rattle.algebra.proofs.Rows.{nth_plus, nth_times, nth_below, Low, low_nth, low_plus, lead_place, lead_value, no_lead, sub_self, same_of_zero}
use Rattle.algebra.specs.Vec.{neg, plus, times}
use Rattle.algebra.specs.Rows.{nth, Lead, Row, here, there, Best}
use Rattle.algebra.specs.Span.{Closed}

-- a power of two below 2 ^ w divides it
pub pow_divides : (w j : ℕ) → 2 ^ j < 2 ^ w → (c : ℕ) × (c * 2 ^ j ≡ 2 ^ w)
pow_divides w j h = (2 ^ (w - j), sym (pow-add 2 (w - j) j) ∙ ap (λ (x : ℕ). 2 ^ x) e)
  where
    le : j ≤ w
    le = elim (dec_le j w) [ yes p ↦ p | no f ↦ (let g : 2 ^ w ≤ 2 ^ j = pow_mono {i = w} {j = j} (omega arith) in absurd (omega (arith, h, g))) ]

    e : (w - j) + j ≡ w
    e = omega (arith, le)

-- two numbers below v' that differ by a multiple of it are the same, where it divides 2 ^ w
pub small_same : (w v' c k x y : ℕ) → c * v' ≡ 2 ^ w → x < v' → y < v' → (x + (neg w * y) % 2 ^ w) % 2 ^ w ≡ k * v' → x ≡ y
small_same w v' c k x y d p q h = sym (mod-eq_of_lt p) ∙ same ∙ mod-eq_of_lt q
  where
    again : ((x + (neg w * y) % 2 ^ w) % 2 ^ w + y) % 2 ^ w ≡ x % 2 ^ w
    again = simp push (simp pull (simp out (by w _ x y (omega arith))))

    both : x % 2 ^ w ≡ (k * v' + y) % 2 ^ w
    both = sym again ∙ ap (λ (z : ℕ). (z + y) % 2 ^ w) h

    down : (z : ℕ) → z % 2 ^ w % v' ≡ z % v'
    down z = rw (← d) (mod-mod_of_dvd v' z (dvd-mul_left v' c))

    same : x % v' ≡ y % v'
    same = sym (down x) ∙ ap (λ (z : ℕ). z % v') both ∙ down (k * v' + y) ∙ ap (λ (z : ℕ). z % v') (omega arith) ∙ add-mul-mod_self_right y k v'

-- two numbers that divide each other
pub each_other : (v v' k l : ℕ) → 0 < v → 0 < v' → v ≡ k * v' → v' ≡ l * v → v ≡ v'
each_other v v' zero l p q e f = absurd (omega arith)
each_other v v' (suc k) zero p q e f = absurd (omega arith)
each_other v v' (suc k) (suc l) p q e f = omega arith

-- a row has one index, by its lead
module _ (n : ℕ) (is : List ℕ → Type 0) (rs : List (List ℕ)) (best : Best is rs) where
  pub index_le : (r s : List ℕ) (i j p v v' : ℕ) → Row r i rs → Row s j rs → Lead r p v → Lead s p v' → i < j → ⊥
  index_le r s i j p v v' a b l m h = let z = best.ordered r s i j p p v v' a b h l m in omega arith

  pub index_same : (r s : List ℕ) (i j p v v' : ℕ) → Row r i rs → Row s j rs → Lead r p v → Lead s p v' → i ≡ j
  index_same r s i j p v v' a b l m =
      let f : ¬ (i < j) = index_le r s i j p v v' a b l m in
      let g : ¬ (j < i) = index_le s r j i p v' v b a m l in
      omega arith

pub row_same : {r s : List ℕ} {i : ℕ} {rs : List (List ℕ)} → Row r i rs → Row s i rs → r ≡ s
row_same here here = refl
row_same (there a) (there b) = row_same a b

-- each row of the one has a row of the other with its lead
pub partner : (is : List ℕ → Type 0) (rs ss : List (List ℕ)) → Best is rs → Best is ss → (r : List ℕ) (i p v : ℕ) → Row r i rs → Lead r p v → (s : List ℕ) × (j : ℕ) × Row s j ss × Lead s p v
partner is rs ss a b r i p v row lead = (s, j, f.4, subst (λ (x : ℕ). Lead s p x) (sym same) f.5)
  where
    f : (s : List ℕ) × (j : ℕ) × (v' : ℕ) × (k : ℕ) × Row s j ss × Lead s p v' × (v ≡ k * v')
    f = b.reaches r p v (a.members r i row) lead

    s : List ℕ
    s = f.0

    j : ℕ
    j = f.1

    g : (s₁ : List ℕ) × (j₁ : ℕ) × (v' : ℕ) × (k : ℕ) × Row s₁ j₁ rs × Lead s₁ p v' × (f.2 ≡ k * v')
    g = a.reaches s p f.2 (b.members s j f.4) f.5

    index : g.1 ≡ i
    index = index_same 0 is rs a g.0 r g.1 i p g.2 v g.4 row g.5 lead

    back_row : Row g.0 i rs
    back_row = subst (λ (x : ℕ). Row g.0 x rs) index g.4

    back_lead : Lead r p g.2
    back_lead = subst (λ (x : List ℕ). Lead x p g.2) (row_same back_row row) g.5

    back_value : g.2 ≡ v
    back_value = lead_value back_lead lead

    same : v ≡ f.2
    same = each_other v f.2 f.3 g.3 lead.not_0 f.5.not_0 f.6 (g.6 ∙ ap (λ (x : ℕ). g.3 * x) back_value)

-- the first row's lead is the least
pub first_least : (is : List ℕ → Type 0) (r t : List ℕ) (rs : List (List ℕ)) (i p q v v' : ℕ) → Best is (r ∷ rs) → Lead r p v → Row t i (r ∷ rs) → Lead t q v' → p ≤ q
first_least is r t rs zero p q v v' a l row m = let e = row_same row here in let f : Lead r q v' = subst (λ (x : List ℕ). Lead x q v') e m in let g = lead_place l f in omega arith
first_least is r t rs (suc i) p q v v' a l row m = let g = a.ordered r t 0 (suc i) p q v v' here row (omega arith) l m in omega arith

later_row : (is : List ℕ → Type 0) (r t : List ℕ) (rs : List (List ℕ)) (i p q v v' : ℕ) → Lead r p v → Row t i (r ∷ rs) → Lead t q v' → p < q → 0 < i
later_row is r t rs zero p q v v' l row m h = let e = row_same row here in let f : Lead r q v' = subst (λ (x : List ℕ). Lead x q v') e m in let g = lead_place l f in absurd (omega arith)
later_row is r t rs (suc i) p q v v' l row m h = omega arith

-- the first rows have one lead
pub first_lead : (is : List ℕ → Type 0) (r s : List ℕ) (rs ss : List (List ℕ)) (p v : ℕ) → Best is (r ∷ rs) → Best is (s ∷ ss) → Lead r p v → Lead s p v
first_lead is r s rs ss p v a b l = subst (λ (x : List ℕ). Lead x p v) (row_same (subst (λ (x : ℕ). Row f.0 x (s ∷ ss)) index f.2) here) f.3
  where
    f : (t : List ℕ) × (j : ℕ) × Row t j (s ∷ ss) × Lead t p v
    f = partner is (r ∷ rs) (s ∷ ss) a b r 0 p v here l

    m : (q : ℕ) × (j : ℕ) × Lead s q (2 ^ j)
    m = b.leads s 0 here

    g : (t : List ℕ) × (j : ℕ) × Row t j (r ∷ rs) × Lead t m.0 (2 ^ m.1)
    g = partner is (s ∷ ss) (r ∷ rs) b a s 0 m.0 (2 ^ m.1) here m.2

    up : m.0 ≤ p
    up = first_least is s f.0 ss f.1 m.0 p (2 ^ m.1) v b m.2 f.2 f.3

    down : p ≤ m.0
    down = first_least is r g.0 rs g.1 p m.0 v (2 ^ m.1) a l g.2 g.3

    place : m.0 ≡ p
    place = omega (arith, up, down)

    index : f.1 ≡ 0
    index = index_same 0 is (s ∷ ss) b f.0 s f.1 0 p v (2 ^ m.1) f.2 here f.3 (subst (λ (x : ℕ). Lead s x (2 ^ m.1)) place m.2)

-- the first rows are the same
module _ (w n : ℕ) (is : List ℕ → Type 0) (cl : Closed w n is) (r s : List ℕ) (rs ss : List (List ℕ)) (a : Best is (r ∷ rs)) (b : Best is (s ∷ ss)) where
  ir : is r
  ir = a.members r 0 here

  is_s : is s
  is_s = b.members s 0 here

  diff : List ℕ
  diff = plus w r (times w (neg w) s)

  no_later : (p u q v x y : ℕ) → Lead r p u → Lead s p u → is diff → Lead diff q v → nth r q ≡ some x → nth s q ≡ some y → v ≡ (x + (neg w * y) % 2 ^ w) % 2 ^ w → p < q → ⊥
  no_later p u q v x y l m id ld ex ey ev h = let z = ld.not_0 in omega (arith, z, ev, sub_self w x y same)
    where
      f : (t : List ℕ) × (i : ℕ) × (v' : ℕ) × (k : ℕ) × Row t i (r ∷ rs) × Lead t q v' × (v ≡ k * v')
      f = a.reaches diff q v id ld

      v' : ℕ
      v' = f.2

      g : (t : List ℕ) × (j : ℕ) × Row t j (s ∷ ss) × Lead t q v'
      g = partner is (r ∷ rs) (s ∷ ss) a b f.0 f.1 q v' f.4 f.5

      xw : x < v'
      xw = a.small r f.0 0 f.1 q v' x here f.4 (later_row is r f.0 rs f.1 p q u v' l f.4 f.5 h) f.5 ex

      yw : y < v'
      yw = b.small s g.0 0 g.1 q v' y here g.2 (later_row is s g.0 ss g.1 p q u v' m g.2 g.3 h) g.3 ey

      pow : (q₁ : ℕ) × (j : ℕ) × Lead f.0 q₁ (2 ^ j)
      pow = a.leads f.0 f.1 f.4

      is_pow : v' ≡ 2 ^ pow.1
      is_pow = lead_value f.5 pow.2

      fits : v' < 2 ^ w
      fits = nth_below (2 ^ w) f.0 q v' (cl.small f.0 (a.members f.0 f.1 f.4)) f.5.is

      divides : (c : ℕ) × (c * 2 ^ pow.1 ≡ 2 ^ w)
      divides = pow_divides w pow.1 (rw (← is_pow) fits)

      same : x ≡ y
      same = small_same w v' divides.0 f.3 x y (ap (λ (z : ℕ). divides.0 * z) is_pow ∙ divides.1) xw yw (sym ev ∙ f.6)

  no_diff : (p u q v : ℕ) → Lead r p u → Lead s p u → is diff → Lead diff q v → ⊥
  unfolding diff
  no_diff p u q v l m id ld = elim (dec_le (suc p) q) [ yes h ↦ no_later p u q v x y l m id ld ex ey ev h | no h ↦ elim (dec_le (suc q) p) [ yes g ↦ before g | no g ↦ (let e : q ≡ p = omega arith in at_it e) ] ]
    where
      one : (x : ℕ) × (b₁ : ℕ) × (nth r q ≡ some x) × (nth (times w (neg w) s) q ≡ some b₁) × (v ≡ (x + b₁) % 2 ^ w)
      one = nth_plus w r (times w (neg w) s) q v ld.is

      two : (y : ℕ) × (nth s q ≡ some y) × (one.1 ≡ (neg w * y) % 2 ^ w)
      two = nth_times w (neg w) s q one.1 one.3

      x : ℕ
      x = one.0

      y : ℕ
      y = two.0

      ex : nth r q ≡ some x
      ex = one.2

      ey : nth s q ≡ some y
      ey = two.1

      ev : v ≡ (x + (neg w * y) % 2 ^ w) % 2 ^ w
      ev = one.4 ∙ ap (λ (z : ℕ). (x + z) % 2 ^ w) two.2

      alike : x ≡ y → ⊥
      alike e = let z = ld.not_0 in omega (arith, z, ev, sub_self w x y e)

      before : q < p → ⊥
      before g = alike (low_nth p q x r l.zeros g ex ∙ sym (low_nth p q y s m.zeros g ey))

      at_it : q ≡ p → ⊥
      at_it e = let i = l.is in let j = m.is in alike (cc (ex, ey))

  pub first_row : r ≡ s
  unfolding diff ir is_s
  first_row = elim (no_lead diff) [ inl z ↦ same_of_zero w n r s (cl.sized r ir) (cl.sized s is_s) (cl.small r ir) (cl.small s is_s) (z ∙ ap (λ (k : ℕ). replicate k 0) (cl.sized diff id)) | inr h ↦ absurd (no_diff l.0 (2 ^ l.1) h.0 h.1 l.2 (first_lead is r s rs ss l.0 (2 ^ l.1) a b l.2) id h.2) ]
    where
      id : is diff
      id = cl.sums (neg w) r s ir is_s

      l : (p : ℕ) × (j : ℕ) × Lead r p (2 ^ j)
      l = a.leads r 0 here

-- without the first row: the best rows of those that are 0 up to its lead
pub low_less : (a b : ℕ) (c : List ℕ) → a ≤ b → Low b c → Low a c
low_less zero b c h l = refl
low_less (suc a) zero c h l = absurd (omega arith)
low_less (suc a) (suc b) [] h l = let z : ◌≡◌ {A = ℕ} 0 1 = cc in absurd (omega arith)
low_less (suc a) (suc b) (x ∷ xs) h l = cons_≡ (cc) (low_less a b xs (omega arith) (cc))

abbrev pub Past : (List ℕ → Type 0) → ℕ → List ℕ → Type 0
Past is p c = is c × Low (suc p) c

pub past_closed : (w n : ℕ) (is : List ℕ → Type 0) (p : ℕ) → Closed w n is → Closed w n (Past is p)
past_closed w n is p cl = record { sums = λ k c d h g. (cl.sums k c d h.0 g.0, low_plus w (suc p) k c d h.1 g.1); sized = λ c h. cl.sized c h.0; small = λ c h. cl.small c h.0 }

pub past_best : (is : List ℕ → Type 0) (r : List ℕ) (rs : List (List ℕ)) (p v : ℕ) → Lead r p v → Best is (r ∷ rs) → Best (Past is p) rs
past_best is r rs p v l a = record {
  members = λ t i h. (a.members t (suc i) (there h), (let m = a.leads t (suc i) (there h) in low_less (suc p) m.0 t (a.ordered r t 0 (suc i) p m.0 v (2 ^ m.1) here (there h) (omega arith) l m.2) m.2.zeros));
  leads = λ t i h. a.leads t (suc i) (there h);
  ordered = λ t u i j q q₁ v₁ v' h g lt. a.ordered t u (suc i) (suc j) q q₁ v₁ v' (there h) (there g) (omega arith);
  small = λ t u i j q v' x h g lt. a.small t u (suc i) (suc j) q v' x (there h) (there g) (omega arith);
  reaches = λ c q x h m. (let f = a.reaches c q x h.0 m in from c q x h.1 m f.0 f.1 f.2 f.3 f.4 f.5 f.6);
}
  where
    from : (c : List ℕ) (q x : ℕ) → Low (suc p) c → Lead c q x → (t : List ℕ) (i v' k : ℕ) → Row t i (r ∷ rs) → Lead t q v' → x ≡ k * v'
        → (t₁ : List ℕ) × (i₁ : ℕ) × (w₁ : ℕ) × (k₁ : ℕ) × Row t₁ i₁ rs × Lead t₁ q w₁ × (x ≡ k₁ * w₁)
    from c q x low m t zero v' k row lt e = let f : Lead r q v' = subst (λ (y : List ℕ). Lead y q v') (row_same row here) lt in let g = lead_place l f in let z = low_nth (suc p) q x c low (omega arith) m.is in let y = m.not_0 in absurd (omega arith)
    from c q x low m t (suc i) v' k (there row) lt e = (t, i, v', k, row, lt, e)

pub no_row : {r : List ℕ} {i : ℕ} → Row r i [] → ⊥
no_row h = elim h [ ]

pub only : (w n : ℕ) (is : List ℕ → Type 0) (rs ss : List (List ℕ)) → Closed w n is → Best is rs → Best is ss → rs ≡ ss
only w n is [] [] cl a b = refl
only w n is [] (s ∷ ss) cl a b = let l = b.leads s 0 here in let f = a.reaches s l.0 (2 ^ l.1) (b.members s 0 here) l.2 in absurd (no_row f.4)
only w n is (r ∷ rs) [] cl a b = let l = a.leads r 0 here in let f = b.reaches r l.0 (2 ^ l.1) (a.members r 0 here) l.2 in absurd (no_row f.4)
only w n is (r ∷ rs) (s ∷ ss) cl a b =
    let l = a.leads r 0 here in
    let m = first_lead is r s rs ss l.0 (2 ^ l.1) a b l.2 in
    let e = first_row w n is cl r s rs ss a b in
    let f = only w n (Past is l.0) rs ss (past_closed w n is l.0 cl) (past_best is r rs l.0 (2 ^ l.1) l.2 a) (past_best is s ss l.0 (2 ^ l.1) m b) in
    cc
