-- the annihilator's annihilator: what comes to 0 with all that annihilates a Howell form is in its span
use mathlib.Core.Path.{◌≡◌, refl, sym, ap, ap₂, ◌∙◌, subst}
use mathlib.Core.Logic.{◌↔◌}
use mathlib.Core.List.{List, [], ◌∷◌}
use Prim.Native.Nat.{ℕ, zero, suc, ◌+◌, ◌*◌, ◌%◌, ◌-◌, ◌^◌, ◌≤◌}
use native.Mathlib.Omega.{arith}
use native.Mathlib.Nat.{mod-eq_of_lt, mul-one, mul_comm, zero-add}
use lib.ListN.{length, replicate, length-replicate}
use lib.Dec.{T}
use Rattle.algebra.proofs.Modular.{mods, push, pull, red, by_zero, by_both}
use Rattle.algebra.proofs.Vec.{dot_comm, dot_plus, dot_times, length_times}
use Rattle.algebra.proofs.Sums.{Sized, no_rows, row_on, length_sum, below_sum, dot_zero}
use Rattle.algebra.proofs.Span.{span_zero, span_add, span_row, all_spanned}
use Rattle.algebra.proofs.Fit.{fit_less, fit_tail, fit_head, fit_plus, fit_zero, Submodule}
use Rattle.algebra.proofs.FormSpans.{cancel}
use Rattle.algebra.proofs.Insertions.{dot_less, made_fine, made_howell, made_has, made_least}
use Rattle.algebra.proofs.LastPlace.{dot_snoc, fit_flip, fits_flips, flip_flip, flip_sums, flip_zero}
use Rattle.algebra.proofs.Best.{best_same}
use Rattle.algebra.proofs.Tell.{zero_dot, Killed, killed_sub, ann_end, ann_extra, extra_is, best_tell}
use Rattle.algebra.specs.Vec.{neg, below, plus, times, less, dot, sum, snoc, flip, flips}
use Rattle.algebra.specs.Rows.{Row, here, there, Best}
use Rattle.algebra.specs.Span.{Fit, Closed, Span, Each, Ann}
use Rattle.algebra.specs.Form.{slot, Form, WellFormed, no_slots, slot_on, In, Howell, nothing, grow}
use Rattle.algebra.specs.Tell.{extra, tell, Annihilates, annihilator, howell_rows}

-- the place of a slot in what comes to 0: a multiple of the pivot
place : (w : ℕ) {n : ℕ} (e : ℕ) {t : List ℕ} {f : Form} → e ≤ w → Fit w n t → WellFormed w n f → (x : ℕ) (u : List ℕ) → Fit w n u
    → ((c : List ℕ) → Annihilates w (suc n) (slot e t ∷ f) c → dot w c (flip (x ∷ u)) ≡ 0) → (l : ℕ) × (x ≡ l * 2 ^ e)
place w zero le ft fine x u fu h = (x, sym (mul-one x))
place w {n} (suc e) le ft fine x u fu h = cancel w x (suc e) (w - suc e) (omega arith) (ap (λ (z : ℕ). z % 2 ^ w) (mul_comm x (2 ^ (w - suc e)) ∙ sym (zero-add (2 ^ (w - suc e) * x))) ∙ ap (λ (z : ℕ). (z + 2 ^ (w - suc e) * x) % 2 ^ w) (sym (zero_dot w n (flip u))) ∙ sym (dot_snoc w (2 ^ (w - suc e)) x (replicate n 0) (flip u) (length-replicate n 0 ∙ sym (fit_flip w fu).sized)) ∙ h (snoc (replicate n 0) (2 ^ (w - suc e))) (ann_end w le ft fine (omega arith)))

-- a - l b is 0, where a + y x is, and b + y p, and x is l p
eliminate : (w a b l y p x : ℕ) → x ≡ l * p → (a + y * x) % 2 ^ w ≡ 0 → (b + y * p) % 2 ^ w ≡ 0 → (a + (neg w * l * b) % 2 ^ w) % 2 ^ w ≡ 0
eliminate w a b l y p x e g h =
    simp mods (by_both w (a + neg w * l * b) ((a + y * x) + neg w * l * (b + y * p)) (y * x) 0 (omega (arith, ap (λ (z : ℕ). y * z) e, ap (λ (z : ℕ). neg w * y * z) e)))
    ∙ split
    ∙ ap₂ (λ (s t : ℕ). (s + (neg w * l * t) % 2 ^ w) % 2 ^ w) g h
    ∙ simp mods (by_zero w _ 0 (omega arith))
  where
    split : ((a + y * x) + neg w * l * (b + y * p)) % 2 ^ w ≡ ((a + y * x) % 2 ^ w + (neg w * l * ((b + y * p) % 2 ^ w)) % 2 ^ w) % 2 ^ w
    split = simp push (simp pull (ap (red (2 ^ w)) (omega arith)))

pub double : (w : ℕ) {n : ℕ} {f : Form} → WellFormed w n f → Howell w f → (v : List ℕ) → Fit w n v → ((c : List ℕ) → Annihilates w n f c → dot w c (flip v) ≡ 0) → In w f v
double w no_slots h [] fv k = refl
double w no_slots h (x ∷ v) fv k = absurd (let e = fv.sized in omega arith)
double w (slot_on le ft fine) h [] fv k = absurd (let e = fv.sized in omega arith)
double w (slot_on {n} {e} {t} {f} le ft fine) h (x ∷ u) fv k = (l, sym (ap (λ (z : ℕ). z % 2 ^ w) (sym found.1) ∙ mod-eq_of_lt (fit_head w fv)), double w fine h.1 (less w u l t) (fit_less w l fu ft) rest)
  where
    fu : Fit w n u
    fu = fit_tail w fv

    found : (l : ℕ) × (x ≡ l * 2 ^ e)
    found = place w e le ft fine x u fu k

    l : ℕ
    l = found.0

    rest : (c : List ℕ) → Annihilates w n f c → dot w c (flip (less w u l t)) ≡ 0
    rest c a =
        ap (dot w c) (flip_sums w (neg w * l) u t fu ft)
        ∙ dot_less w c (neg w * l) (flip u) (flip t) (fit_flip w fu) (fit_flip w ft)
        ∙ eliminate w (dot w c (flip u)) (dot w c (flip t)) l y (2 ^ e) x found.1 (sym (dot_snoc w y x c (flip u) (a.fits.sized ∙ sym (fit_flip w fu).sized)) ∙ k (snoc c y) (ann_extra w le ft fine h.0 c a)) (extra_is w le ft fine h.0 c a)
      where
        y : ℕ
        y = extra w (slot e t) c

-- rows as lists of all their places
pub each_row : (S : List ℕ → Type 0) (rs : List (List ℕ)) → ((r : List ℕ) (i : ℕ) → Row r i rs → S r) → Each S rs
each_row S [] f = tt
each_row S (r ∷ rs) f = (f r 0 here, each_row S rs (λ s i h. f s (suc i) (there h)))

pub row_each : (S : List ℕ → Type 0) {r : List ℕ} {i : ℕ} (rs : List (List ℕ)) → Each S rs → Row r i rs → S r
row_each S [] e h = elim h [ ]
row_each S (r ∷ rs) e here = e.0
row_each S (r ∷ rs) e (there h) = row_each S rs e.1 h

pub each_flips : (S : List ℕ → Type 0) (rs : List (List ℕ)) → Each S (flips rs) ↔ Each (λ (r : List ℕ). S (flip r)) rs
each_flips S [] = (λ a. a, λ a. a)
each_flips S (r ∷ rs) = (λ a. (a.0, (each_flips S rs).0 a.1), λ a. (a.0, (each_flips S rs).1 a.1))

pub each_to : (P Q : List ℕ → Type 0) → ((c : List ℕ) → P c → Q c) → (rs : List (List ℕ)) → Each P rs → Each Q rs
each_to P Q f [] a = tt
each_to P Q f (r ∷ rs) a = (f r a.0, each_to P Q f rs a.1)

pub sized_each : (w n : ℕ) (rs : List (List ℕ)) → Each (Fit w n) rs → Sized n rs
sized_each w n [] e = no_rows
sized_each w n (r ∷ rs) e = row_on e.0.sized (sized_each w n rs e.1)

-- what rows span is a submodule, which has them, and the least such
pub span_sub : (w n : ℕ) (rs : List (List ℕ)) → Sized n rs → Submodule w n (Span w n rs)
span_sub w n rs z = record { zeros = span_zero w z; add = λ k c d p q. span_add w k }

pub span_rows : (w n : ℕ) (rs : List (List ℕ)) → Each (Fit w n) rs → Each (Span w n rs) rs
span_rows w n rs e = each_row (Span w n rs) rs (λ r i h. span_row w (sized_each w n rs e) (row_each (Fit w n) rs e h).small h)

pub span_fit : (w n : ℕ) (rs : List (List ℕ)) (c : List ℕ) → Sized n rs → Span w n rs c → Fit w n c
span_fit w n rs c z s = record { sized = ap length (sym s.gives) ∙ length_sum w s.weights z; small = subst (λ (x : List ℕ). T (below (2 ^ w) x)) s.gives (below_sum w n s.weights rs) }

pub sum_killed : (w n : ℕ) (c ks : List ℕ) (rs : List (List ℕ)) → Sized n rs → Each (λ (r : List ℕ). dot w c r ≡ 0) rs → dot w c (sum w n ks rs) ≡ 0
sum_killed w n c [] rs z e = dot_zero w n c
sum_killed w n c (k ∷ ks) [] z e = dot_zero w n c
sum_killed w n c (k ∷ ks) (r ∷ rs) (row_on s z) e =
    dot_plus w c (times w k r) (sum w n ks rs) (length_times w k r ∙ s ∙ sym (length_sum w ks z))
    ∙ rw (dot_times w k c r, e.0, sum_killed w n c ks rs z e.1) (simp mods (by_zero w _ 0 (omega arith)))

pub span_killed : (w n : ℕ) (c : List ℕ) (rs : List (List ℕ)) (v : List ℕ) → Sized n rs → Each (λ (r : List ℕ). dot w c r ≡ 0) rs → Span w n rs v → dot w c v ≡ 0
span_killed w n c rs v z e s = ap (dot w c) (sym s.gives) ∙ sum_killed w n c s.weights rs z e

-- what annihilates a form is closed under sums, so each is a sum of the rows told; what these annihilate, all do
annihilates_closed : (w n : ℕ) (f : Form) → Closed w n (Annihilates w n f)
annihilates_closed w n f = record { sums = sums; sized = λ c a. a.fits.sized; small = λ c a. a.fits.small }
  where
    sums : (k : ℕ) (c d : List ℕ) → Annihilates w n f c → Annihilates w n f d → Annihilates w n f (plus w c (times w k d))
    sums k c d a b = record { fits = fit_plus w k a.fits b.fits; kills = λ v fv i. dot_comm w (plus w c (times w k d)) (flip v) ∙ dot_less w (flip v) k c d a.fits b.fits ∙ both v fv i }
      where
        both : (v : List ℕ) → Fit w n v → In w f v → (dot w (flip v) c + (k * dot w (flip v) d) % 2 ^ w) % 2 ^ w ≡ 0
        both v fv i = rw (dot_comm w (flip v) c, a.kills v fv i, dot_comm w (flip v) d, b.kills v fv i) (simp mods (by_zero w _ 0 (omega arith)))

pub told_enough : (w : ℕ) {n : ℕ} {f : Form} → WellFormed w n f → Howell w f → (v : List ℕ) → Fit w n v → Each (λ (c : List ℕ). dot w c (flip v) ≡ 0) (tell w f) → In w f v
told_enough w {n} {f} fine h v fv come = double w fine h v fv (λ c a. dot_comm w c (flip v) ∙ span_killed w n (flip v) (tell w f) c sized kills (all_spanned w n (Annihilates w n f) (annihilates_closed w n f) (tell w f) best c a))
  where
    best : Best (Annihilates w n f) (tell w f)
    best = best_tell w fine h

    sized : Sized n (tell w f)
    sized = sized_each w n (tell w f) (each_row (Fit w n) (tell w f) (λ r i k. (best.members r i k).fits))

    kills : Each (λ (c : List ℕ). dot w (flip v) c ≡ 0) (tell w f)
    kills = each_to (λ (c : List ℕ). dot w c (flip v) ≡ 0) (λ (c : List ℕ). dot w (flip v) c ≡ 0) (λ c e. dot_comm w (flip v) c ∙ e) (tell w f) come

-- for any rows
module _ (w n : ℕ) (rs : List (List ℕ)) (fits : Each (Fit w n) rs) where
  abbrev F : Form
  F = grow w (nothing w n) (flips rs)

  flip_fits : Each (Fit w n) (flips rs)
  flip_fits = fits_flips w n rs fits

  sized : Sized n rs
  sized = sized_each w n rs fits

  ann_to : (c : List ℕ) → Annihilates w n F c → Ann w n rs c
  ann_to c a = record {
    fits = a.fits;
    kills = each_row (λ (r : List ℕ). dot w c r ≡ 0) rs (λ r i h. ap (dot w c) (sym (flip_flip r)) ∙ a.kills (flip r) (fit_flip w (row_each (Fit w n) rs fits h)) (row_each (λ (q : List ℕ). In w F (flip q)) rs ((each_flips (In w F) rs).0 (made_has w n (flips rs) flip_fits)) h));
  }

  ann_from : (c : List ℕ) → Ann w n rs c → Annihilates w n F c
  ann_from c a = record {
    fits = a.fits;
    kills = made_least w n (flips rs) flip_fits (Killed w c) (killed_sub w n c) ((each_flips (Killed w c) rs).1 (each_to (λ (r : List ℕ). dot w c r ≡ 0) (λ (r : List ℕ). Killed w c (flip r)) (λ r e. ap (dot w c) (flip_flip r) ∙ e) rs a.kills));
  }

  -- the annihilator's best rows are computed
  pub best_annihilator : Best (Ann w n rs) (annihilator w n rs)
  unfolding annihilator
  best_annihilator = best_same ann_to ann_from (best_tell w (made_fine w n (flips rs) flip_fits) (made_howell w n (flips rs) flip_fits))

  -- what comes to 0 with all that annihilates the rows is a sum of the rows
  pub ann_ann : (v : List ℕ) → Fit w n v → ((c : List ℕ) → Ann w n rs c → dot w c v ≡ 0) → Span w n rs v
  ann_ann v fv h = subst (Span w n rs) (flip_flip v) (made_least w n (flips rs) flip_fits S S_sub ((each_flips S rs).1 (each_to (Span w n rs) (λ (r : List ℕ). S (flip r)) (λ r s. subst (Span w n rs) (sym (flip_flip r)) s) rs (span_rows w n rs fits))) (flip v) (fit_flip w fv) (double w (made_fine w n (flips rs) flip_fits) (made_howell w n (flips rs) flip_fits) (flip v) (fit_flip w fv) (λ c a. ap (dot w c) (flip_flip v) ∙ h c (ann_to c a))))
    where
      S : List ℕ → Type 0
      S u = Span w n rs (flip u)

      S_sub : Submodule w n S
      S_sub = record { zeros = subst (Span w n rs) (sym (flip_zero n)) (span_zero w sized); add = λ k c d p q x y. subst (Span w n rs) (sym (flip_sums w k c d p q)) (span_add w k x y) }

  pub ann_closed : Closed w n (Ann w n rs)
  ann_closed = record {
    sums = λ k c d a b. record { fits = fit_plus w k a.fits b.fits; kills = both rs k c d a.fits b.fits a.kills b.kills };
    sized = λ c a. a.fits.sized;
    small = λ c a. a.fits.small;
  }
    where
      both : (qs : List (List ℕ)) (k : ℕ) (c d : List ℕ) → Fit w n c → Fit w n d → Each (λ (r : List ℕ). dot w c r ≡ 0) qs
          → Each (λ (r : List ℕ). dot w d r ≡ 0) qs → Each (λ (r : List ℕ). dot w (plus w c (times w k d)) r ≡ 0) qs
      both [] k c d p q a b = tt
      both (r ∷ qs) k c d p q a b = (dot_comm w (plus w c (times w k d)) r ∙ dot_less w r k c d p q ∙ rw (dot_comm w r c, a.0, dot_comm w r d, b.0) (simp mods (by_zero w _ 0 (omega arith))), both qs k c d p q a.1 b.1)

pub ann_sub : (w n : ℕ) (rs : List (List ℕ)) → Each (Fit w n) rs → Submodule w n (Ann w n rs)
ann_sub w n rs fits = record { zeros = record { fits = fit_zero w n; kills = each_row (λ (r : List ℕ). dot w (replicate n 0) r ≡ 0) rs (λ r i h. zero_dot w n r) }; add = λ k c d p q. (ann_closed w n rs fits).sums k c d }

-- the best rows of the span of any rows: the annihilator twice
pub best_howell : (w n : ℕ) (rs : List (List ℕ)) → Each (Fit w n) rs → Best (Span w n rs) (howell_rows w n rs)
unfolding howell_rows
best_howell w n rs fits = best_same to from (best_annihilator w n A A_fits)
  where
    A : List (List ℕ)
    A = annihilator w n rs

    best : Best (Ann w n rs) A
    best = best_annihilator w n rs fits

    A_fits : Each (Fit w n) A
    A_fits = each_row (Fit w n) A (λ r i h. (best.members r i h).fits)

    to : (v : List ℕ) → Ann w n A v → Span w n rs v
    to v a = ann_ann w n rs fits v a.fits (λ c b. dot_comm w c v ∙ span_killed w n v A c (sized_each w n A A_fits) a.kills (all_spanned w n (Ann w n rs) (ann_closed w n rs fits) A best c b))

    from : (v : List ℕ) → Span w n rs v → Ann w n A v
    from v s = record {
      fits = span_fit w n rs v (sized_each w n rs fits) s;
      kills = each_row (λ (r : List ℕ). dot w v r ≡ 0) A (λ r i h. dot_comm w v r ∙ span_killed w n r rs v (sized_each w n rs fits) (best.members r i h).kills s);
    }
