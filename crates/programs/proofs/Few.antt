-- few states are enough, and what is kept fits as rows in their form
use Rattle.std.proofs.Common.{◌≡◌, ℕ, suc, ◌*◌, ◌<◌, ◌≤◌, List, [], ◌∷◌, length, refl, ap, ◌∙◌, subst, arith}
use Rattle.algebra.proofs.Span.{all_spanned}
use Rattle.algebra.proofs.FormSpans.{in_least, inside_mono, inside_self}
use Rattle.algebra.proofs.Insertions.{inside_full, fits_full}
use Rattle.algebra.proofs.LastPlace.{fit_flip, fits_flips, flip_flip}
use Rattle.algebra.proofs.Generated.{gen_least}
use Rattle.algebra.proofs.Annihilators.{each_row, each_flips, each_to, sized_each, span_sub, span_rows, span_fit, best_howell}
use Rattle.algebra.proofs.Growth.{Few, few_enough}
use Rattle.algebra.proofs.Maps.{span_flips, flips_flips, span_trans, span_closed, best_self, length_howell}
use Rattle.algebra.specs.Vec.{flip, flips}
use Rattle.algebra.specs.Rows.{Best}
use Rattle.algebra.specs.Span.{Fit, Span, Each}
use Rattle.algebra.specs.Form.{Form, In, full}
use Rattle.algebra.specs.Tell.{howell_rows}
use Rattle.programs.specs.Programs.{Program}
use Rattle.programs.specs.Runs.{State, Comes}
use Rattle.programs.specs.Kept.{ones, mix, AllCome, none_come, one_more, Kept, Reached, reached, Keeps}
use Rattle.programs.specs.Theorems.{Given, Enough, FitsAsRows}
use Rattle.programs.proofs.States.{fit_comes, fit_one, fits_ones, fit_reached}
use Rattle.programs.proofs.Visit.{stable_keeps}
use Rattle.programs.proofs.Keep.{forms, stable}

-- vectors that are reached, as states
record States (w : ℕ) (gs : List (List ℕ)) (p : Program) (n : ℕ) (vs : List (List ℕ)) : Type 0 where
  states : List State
  come : AllCome w gs p n states
  are : vs ≡ flips (ones states)
  many : length states ≡ length vs

states_of : (w : ℕ) (gs : List (List ℕ)) (p : Program) (n : ℕ) (vs : List (List ℕ)) → Each (Reached w gs p n) vs → States w gs p n vs
states_of w gs p n [] e = record { states = []; come = none_come; are = refl; many = refl }
states_of w gs p n (v ∷ vs) e = more v e.0 (states_of w gs p n vs e.1)
  where
    more : (u : List ℕ) → Reached w gs p n u → States w gs p n vs → States w gs p n (u ∷ vs)
    more u (reached {s} c) x = record { states = s ∷ x.states; come = one_more c x.come; are = ap (λ (z : List (List ℕ)). flip (1 ∷ s) ∷ z) x.are; many = ap suc x.many }

length_ones : (ss : List State) → length (ones ss) ≡ length ss
length_ones [] = refl
length_ones (s ∷ ss) = ap suc (length_ones ss)

module _ (w : ℕ) (pos : 0 < w) (gs : List (List ℕ)) (p : Program) (given : Given w gs p) (n : ℕ) where
  abbrev N : ℕ
  N = suc p.words

  f : Form
  f = forms w pos gs p given n

  k : Keeps w gs p n f
  unfolding f
  k = stable_keeps w pos gs p (forms w pos gs p given) (stable w pos gs p given) n

  abbrev P : List ℕ → Type 0
  P = Reached w gs p n

  fits : (d : List ℕ) → P d → Fit w N d
  fits = fit_reached w pos gs p n

  in_form : (u : List ℕ) → P u → In w f u
  in_form u (reached {s} c) = k.enough s c

  few : Few w N P fits
  few = few_enough w N P fits f k.well in_form k.no_more

  x : States w gs p n few.some
  x = states_of w gs p n few.some few.have

  ss_fits : Each (Fit w N) (ones x.states)
  ss_fits = fits_ones w pos x.come

  -- a sum of the vectors is a sum of the states
  to_states : (u : List ℕ) → Span w N few.some u → Span w N (ones x.states) (flip u)
  to_states u s = subst (λ (z : List (List ℕ)). Span w N z (flip u)) (flips_flips (ones x.states)) (span_flips w N (flips (ones x.states)) (fits_flips w N (ones x.states) ss_fits) u (subst (λ (z : List (List ℕ)). Span w N z u) x.are s))

  makes_all : (u : State) → Comes w gs p n u → Span w N (ones x.states) (1 ∷ u)
  makes_all u c = subst (Span w N (ones x.states)) (flip_flip (1 ∷ u)) (to_states (flip (1 ∷ u)) (few.enough (flip (1 ∷ u)) (reached c)))

  some_states : (ss : List State) × AllCome w gs p n ss × (length ss ≤ w * N) × ((u : State) → Comes w gs p n u → (ws : List ℕ) × (length ws ≡ length ss) × (mix w p.words ws ss ≡ 1 ∷ u))
  some_states = (x.states, x.come, omega (arith, few.few, x.many), λ u c. (let s = makes_all u c in (s.weights, s.many ∙ length_ones x.states, s.gives)))

  -- the rows of the form, in natural order
  F : List (List ℕ)
  F = flips (full w f)

  full_fits : Each (Fit w N) (full w f)
  full_fits = fits_full w k.well

  F_fits : Each (Fit w N) F
  unfolding F
  F_fits = fits_flips w N (full w f) full_fits

  F_states : Each (Span w N (ones x.states)) F
  unfolding F
  F_states = (each_flips (Span w N (ones x.states)) (full w f)).1 (each_to (Span w N few.some) (λ (r : List ℕ). Span w N (ones x.states) (flip r)) to_states (full w f) ((inside_full w (Span w N few.some) f).0 (inside_mono w k.well (In w f) (Span w N few.some) (λ v fv i. gen_least w N P fits (Span w N few.some) (span_sub w N few.some (sized_each w N few.some (each_to P (Fit w N) fits few.some few.have))) (λ d h. few.enough d h) (k.no_more v fv i)) (inside_self w k.well))))

  in_F : (u : List ℕ) → Fit w N u → In w f u → Span w N F (flip u)
  unfolding F
  in_F u fu i = span_flips w N (full w f) full_fits u (in_least w k.well (Span w N (full w f)) (span_sub w N (full w f) (sized_each w N (full w f) full_fits)) ((inside_full w (Span w N (full w f)) f).1 (span_rows w N (full w f) full_fits)) u fu i)

  H : List (List ℕ)
  H = howell_rows w N F

  best : Best (Span w N F) H
  unfolding H
  best = best_howell w N F F_fits

  H_rows : Each (Span w N F) H
  H_rows = each_row (Span w N F) H (λ r i h. best.members r i h)

  kept : Kept w gs p n H
  kept = record {
    wide = each_to (Span w N F) (Fit w N) (λ r. span_fit w N F r (sized_each w N F F_fits)) H H_rows;
    makes = λ u c. all_spanned w N (Span w N F) (span_closed w N F F_fits) H best (1 ∷ u) (subst (Span w N F) (flip_flip (1 ∷ u)) (in_F (flip (1 ∷ u)) (fit_flip w (fit_one w pos (fit_comes w c))) (k.enough u c)));
    made = each_to (Span w N F) (λ (r : List ℕ). (ss : List State) × AllCome w gs p n ss × Span w N (ones ss) r) (λ r s. (x.states, x.come, span_trans w N (ones x.states) F ss_fits F_states r s)) H H_rows;
  }

  rows_kept : (rs : List (List ℕ)) × Kept w gs p n rs × Best (Span w N rs) rs × (length rs ≤ N)
  unfolding H
  rows_kept = (H, kept, best_self w N (Span w N F) (span_closed w N F F_fits) H best (λ c s. span_trans w N F H F_fits H_rows c s), length_howell w N F F_fits)

pub enough : (w : ℕ) (gs : List (List ℕ)) → 0 < w → Enough w gs
enough w gs pos p n given = some_states w pos gs p given n

pub fits_as_rows : (w : ℕ) (gs : List (List ℕ)) → 0 < w → FitsAsRows w gs
fits_as_rows w gs pos p n given = rows_kept w pos gs p given n
