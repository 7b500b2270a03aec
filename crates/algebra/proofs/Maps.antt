-- linear combinations through linear maps; best rows of their own span
use mathlib.Core.Path.{◌≡◌, refl, sym, ap, ap₂, ◌∙◌, subst}
use mathlib.Core.Logic.{◌↔◌}
use mathlib.Core.List.{List, [], ◌∷◌, ◌++◌}
use Prim.Native.Nat.{ℕ, zero, suc, ◌+◌, ◌≤◌}
use native.Mathlib.Omega.{arith}
use lib.ListN.{length}
use Rattle.algebra.proofs.Vec.{plus_comm}
use Rattle.algebra.proofs.Sums.{Sized, length_sum, below_sum}
use Rattle.algebra.proofs.Span.{all_spanned, span_add}
use Rattle.algebra.proofs.Fit.{Submodule}
use Rattle.algebra.proofs.LastPlace.{fit_flip, fits_flips, flip_flip, flip_sums, flip_zero}
use Rattle.algebra.proofs.Best.{best_same}
use Rattle.algebra.proofs.Tell.{length_fine}
use Rattle.algebra.proofs.FormSpans.{in_sub}
use Rattle.algebra.proofs.Insertions.{made_fine, made_has, made_least}
use Rattle.algebra.proofs.Annihilators.{each_row, each_to, best_annihilator, sized_each, span_sub, span_rows, span_fit}
use Rattle.algebra.specs.Vec.{plus, times, sum, flip, flips}
use Rattle.algebra.specs.Rows.{Best}
use Rattle.algebra.specs.Span.{Fit, Closed, Span, Each}
use Rattle.algebra.specs.Form.{Form, In, nothing, grow}
use Rattle.algebra.specs.System.{Linear, through}
use Rattle.algebra.specs.Tell.{extend, extra, final, tell, annihilator, howell_rows}

pub sum_fit : (w n : ℕ) (ks : List ℕ) (rs : List (List ℕ)) → Each (Fit w n) rs → Fit w n (sum w n ks rs)
sum_fit w n ks rs e = record { sized = length_sum w ks (sized_each w n rs e); small = below_sum w n ks rs }

pub sum_through : (w n : ℕ) (m : List ℕ → List ℕ) → Linear w n m → (ks : List ℕ) (rs : List (List ℕ)) → Each (Fit w n) rs → sum w n ks (through m rs) ≡ m (sum w n ks rs)
sum_through w n m l [] rs e = sym l.zeros
sum_through w n m l (k ∷ ks) [] e = sym l.zeros
sum_through w n m l (k ∷ ks) (r ∷ rs) e =
    plus_comm w (times w k (m r)) (sum w n ks (through m rs))
    ∙ ap (λ (z : List ℕ). plus w z (times w k (m r))) (sum_through w n m l ks rs e.1)
    ∙ sym (l.sums k (sum w n ks rs) r (sum_fit w n ks rs e.1) e.0)
    ∙ ap m (plus_comm w (sum w n ks rs) (times w k r))

pub length_through : (m : List ℕ → List ℕ) (rs : List (List ℕ)) → length (through m rs) ≡ length rs
length_through m [] = refl
length_through m (r ∷ rs) = ap suc (length_through m rs)

pub span_through : (w n : ℕ) (m : List ℕ → List ℕ) → Linear w n m → (rs : List (List ℕ)) → Each (Fit w n) rs → (v : List ℕ) → Span w n rs v → Span w n (through m rs) (m v)
span_through w n m l rs e v s = record { weights = s.weights; many = s.many ∙ sym (length_through m rs); gives = sum_through w n m l s.weights rs e ∙ ap m s.gives }

-- with the places in the other order
flips_through : (rs : List (List ℕ)) → through flip rs ≡ flips rs
flips_through [] = refl
flips_through (r ∷ rs) = ap (λ (z : List (List ℕ)). flip r ∷ z) (flips_through rs)

linear_flip : (w n : ℕ) → Linear w n flip
linear_flip w n = record { fit = λ u fu. fit_flip w fu; zeros = flip_zero n; sums = λ k u v p q. flip_sums w k u v p q }

pub span_flips : (w n : ℕ) (rs : List (List ℕ)) → Each (Fit w n) rs → (v : List ℕ) → Span w n rs v → Span w n (flips rs) (flip v)
span_flips w n rs e v s = subst (λ (z : List (List ℕ)). Span w n z (flip v)) (flips_through rs) (span_through w n flip (linear_flip w n) rs e v s)

pub flips_flips : (rs : List (List ℕ)) → flips (flips rs) ≡ rs
flips_flips [] = refl
flips_flips (r ∷ rs) = ap₂ {A = List ℕ} {B = List (List ℕ)} (λ (x : List ℕ) (y : List (List ℕ)). x ∷ y) (flip_flip r) (flips_flips rs)

-- a span is closed, so that its best rows are unique
pub span_closed : (w n : ℕ) (rs : List (List ℕ)) → Each (Fit w n) rs → Closed w n (Span w n rs)
span_closed w n rs e = record { sums = λ k c d. span_add w k; sized = λ c s. (span_fit w n rs c (sized_each w n rs e) s).sized; small = λ c s. (span_fit w n rs c (sized_each w n rs e) s).small }

-- a submodule that has the rows has their sums
pub sub_sum : (w n : ℕ) (S : List ℕ → Type 0) → Submodule w n S → (ks : List ℕ) (rs : List (List ℕ)) → Each (Fit w n) rs → Each S rs → S (sum w n ks rs)
sub_sum w n S sub [] rs f e = sub.zeros
sub_sum w n S sub (k ∷ ks) [] f e = sub.zeros
sub_sum w n S sub (k ∷ ks) (r ∷ rs) f e = subst S (plus_comm w (sum w n ks rs) (times w k r)) (sub.add k (sum w n ks rs) r (sum_fit w n ks rs f.1) f.0 (sub_sum w n S sub ks rs f.1 e.1) e.0)

pub span_least : (w n : ℕ) (S : List ℕ → Type 0) → Submodule w n S → (rs : List (List ℕ)) → Each (Fit w n) rs → Each S rs → (c : List ℕ) → Span w n rs c → S c
span_least w n S sub rs f e c s = subst S s.gives (sub_sum w n S sub s.weights rs f e)

-- each row of qs is a sum of rs: so is what qs span
pub span_trans : (w n : ℕ) (rs qs : List (List ℕ)) → Each (Fit w n) rs → Each (Span w n rs) qs → (c : List ℕ) → Span w n qs c → Span w n rs c
span_trans w n rs qs fits e c s = span_least w n (Span w n rs) (span_sub w n rs z) qs (each_to (Span w n rs) (Fit w n) (λ r. span_fit w n rs r z) qs e) e c s
  where
    z : Sized n rs
    z = sized_each w n rs fits

-- the form of rows spans what they span
pub made_spans : (w n : ℕ) (vs : List (List ℕ)) → Each (Fit w n) vs → (u : List ℕ) → Fit w n u → In w (grow w (nothing w n) vs) u ↔ Span w n vs u
made_spans w n vs fits u fu = (λ i. made_least w n vs fits (Span w n vs) (span_sub w n vs (sized_each w n vs fits)) (span_rows w n vs fits) u fu i, λ s. span_least w n (In w (grow w (nothing w n) vs)) (in_sub w (made_fine w n vs fits)) vs fits (made_has w n vs fits) u s)

-- the best rows of a closed set are the best rows of their own span
pub best_self : (w n : ℕ) (is : List ℕ → Type 0) → Closed w n is → (rs : List (List ℕ)) → Best is rs → ((c : List ℕ) → Span w n rs c → is c) → Best (Span w n rs) rs
best_self w n is cl rs best f = best_same (λ c i. all_spanned w n is cl rs best c i) f best

-- at most a row for each place
length_extend : (g : List ℕ → ℕ) (rs : List (List ℕ)) → length (extend g rs) ≡ length rs
unfolding extend
length_extend g [] = refl
length_extend g (r ∷ rs) = ap suc (length_extend g rs)

length_append : (rs ss : List (List ℕ)) → length (rs ++ ss) ≡ length rs + length ss
length_append [] ss = omega arith
length_append (r ∷ rs) ss = omega (arith, length_append rs ss)

length_final : (w e n : ℕ) → length (final w e n) ≤ 1
unfolding final
length_final w zero n = omega arith
length_final w (suc e) n = omega arith

pub length_tell : (w : ℕ) (f : Form) → length (tell w f) ≤ length f
unfolding tell
length_tell w [] = omega arith
length_tell w (s ∷ f) = omega (arith, length_tell w f, length_append (extend (extra w s) (tell w f)) (final w s.exp (length f)), length_extend (extra w s) (tell w f), length_final w s.exp (length f))

pub length_annihilator : (w n : ℕ) (rs : List (List ℕ)) → Each (Fit w n) rs → length (annihilator w n rs) ≤ n
unfolding annihilator
length_annihilator w n rs fits = omega (arith, length_tell w (grow w (nothing w n) (flips rs)), length_fine w (made_fine w n (flips rs) (fits_flips w n rs fits)))

pub length_howell : (w n : ℕ) (rs : List (List ℕ)) → Each (Fit w n) rs → length (howell_rows w n rs) ≤ n
unfolding howell_rows
length_howell w n rs fits = length_annihilator w n (annihilator w n rs) (each_row (Fit w n) (annihilator w n rs) (λ r i h. ((best_annihilator w n rs fits).members r i h).fits))
