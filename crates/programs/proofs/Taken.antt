-- rows taken through a step
use Rattle.std.proofs.Common.{◌≡◌, ℕ, suc, ◌<◌, List, [], ◌∷◌, replicate, sym, refl, ap, subst, ap₂}
use Rattle.algebra.proofs.Only.{no_row}
use Rattle.algebra.proofs.Annihilators.{sized_each, span_sub, span_rows}
use Rattle.algebra.proofs.Growth.{each_append, each_split}
use Rattle.algebra.proofs.Maps.{span_through, span_trans}
use Rattle.algebra.specs.Rows.{here, there}
use Rattle.algebra.specs.Span.{Fit, Span, Each}
use Rattle.algebra.specs.System.{Linear, through}
use Rattle.programs.specs.Programs.{Action, set, any, skip}
use Rattle.programs.specs.Runs.{State, Makes}
use Rattle.programs.specs.Kept.{ones, set_map, Map, map_set, map_zero, map_one, map_skip, moved, taken, AllMade}
use Rattle.programs.specs.Theorems.{StepMakes, StepMade}
use Rattle.programs.proofs.Steps.{linear, step_state, step_sound}

moved_through : (w x : ℕ) (cs : List ℕ) (rs : List (List ℕ)) → through (set_map w x cs) rs ≡ moved w x cs rs
moved_through w x cs [] = refl
moved_through w x cs (r ∷ rs) = ap (λ (z : List (List ℕ)). set_map w x cs r ∷ z) (moved_through w x cs rs)

same_through : (rs : List (List ℕ)) → through (λ u. u) rs ≡ rs
same_through [] = refl
same_through (r ∷ rs) = ap (λ (z : List (List ℕ)). r ∷ z) (same_through rs)

fits_through : (w n : ℕ) (m : List ℕ → List ℕ) → Linear w n m → (rs : List (List ℕ)) → Each (Fit w n) rs → Each (Fit w n) (through m rs)
fits_through w n m l [] e = tt
fits_through w n m l (r ∷ rs) e = (l.fit r e.0, fits_through w n m l rs e.1)

-- what is taken is just what the maps make
taken_all : (w k : ℕ) (d : Action) (rs : List (List ℕ)) (S : List ℕ → Type 0) → ((m : List ℕ → List ℕ) → Map w k d m → Each S (through m rs)) → Each S (taken w k d rs)
taken_all w k (set x cs) rs S f = subst (Each S) (moved_through w x cs rs) (f (set_map w x cs) map_set)
taken_all w k (any x) rs S f = each_append S (moved w x (replicate (suc k) 0) rs) (moved w x (1 ∷ replicate k 0) rs) (subst (Each S) (moved_through w x (replicate (suc k) 0) rs) (f (set_map w x (replicate (suc k) 0)) map_zero)) (subst (Each S) (moved_through w x (1 ∷ replicate k 0) rs) (f (set_map w x (1 ∷ replicate k 0)) map_one))
taken_all w k skip rs S f = subst (Each S) (same_through rs) (f (λ u. u) map_skip)

taken_each : (w k : ℕ) {d : Action} {m : List ℕ → List ℕ} (rs : List (List ℕ)) (S : List ℕ → Type 0) → Map w k d m → Each S (taken w k d rs) → Each S (through m rs)
taken_each w k rs S (map_set {x} {cs}) e = subst (Each S) (sym (moved_through w x cs rs)) e
taken_each w k rs S (map_zero {x}) e = subst (Each S) (sym (moved_through w x (replicate (suc k) 0) rs)) (each_split S (moved w x (replicate (suc k) 0) rs) (moved w x (1 ∷ replicate k 0) rs) e).0
taken_each w k rs S (map_one {x}) e = subst (Each S) (sym (moved_through w x (1 ∷ replicate k 0) rs)) (each_split S (moved w x (replicate (suc k) 0) rs) (moved w x (1 ∷ replicate k 0) rs) e).1
taken_each w k rs S map_skip e = subst (Each S) (sym (same_through rs)) e

pub step_makes : (w : ℕ) → 0 < w → StepMakes w
step_makes w h k d rs s u fits words span by = step_sound w h (Span w (suc k) T₁) by words (span_sub w (suc k) T₁ (sized_each w (suc k) T₁ T_fits)) (λ m map. span_trans w (suc k) T₁ (through m rs) T_fits (taken_each w k rs (Span w (suc k) T₁) map (span_rows w (suc k) T₁ T_fits)) (m (1 ∷ s)) (span_through w (suc k) m (linear w k map) rs fits (1 ∷ s) span))
  where
    T₁ : List (List ℕ)
    T₁ = taken w k d rs

    T_fits : Each (Fit w (suc k)) T₁
    T_fits = taken_all w k d rs (Fit w (suc k)) (λ m map. fits_through w (suc k) m (linear w k map) rs fits)

-- the states that a map makes of states
record After (w : ℕ) (d : Action) (m : List ℕ → List ℕ) (ss : List State) : Type 0 where
  states : List State
  by : AllMade w d ss states
  are : through m (ones ss) ≡ ones states

after : (w k : ℕ) {d : Action} {m : List ℕ → List ℕ} → 0 < w → Map w k d m → (ss : List State) → After w d m ss
after w k h map [] = record { states = []; by = λ u i r. absurd (no_row r); are = refl }
after w k {d} {m} h map (s ∷ ss) = more (step_state w h map s) (after w k h map ss)
  where
    more : (u : State) × Makes w d s u × (m (1 ∷ s) ≡ 1 ∷ u) → After w d m ss → After w d m (s ∷ ss)
    more g a = record { states = g.0 ∷ a.states; by = by; are = ap₂ {A = List ℕ} {B = List (List ℕ)} (λ (x : List ℕ) (y : List (List ℕ)). x ∷ y) g.2 a.are }
      where
        by : AllMade w d (s ∷ ss) (g.0 ∷ a.states)
        by u i here = (s, 0, here, g.1)
        by u i (there {i = j} r) = let f = a.by u j r in (f.0, suc f.1, there f.2, f.3)

pub step_made : (w : ℕ) → 0 < w → StepMade w
step_made w h k d rs ss fits e = taken_all w k d rs S each
  where
    S : List ℕ → Type 0
    S r = (us : List State) × AllMade w d ss us × Span w (suc k) (ones us) r

    each : (m : List ℕ → List ℕ) → Map w k d m → Each S (through m rs)
    each m map = go rs e
      where
        a : After w d m ss
        a = after w k h map ss

        go : (qs : List (List ℕ)) → Each (Span w (suc k) (ones ss)) qs → Each S (through m qs)
        go [] f = tt
        go (q ∷ qs) f = ((a.states, a.by, subst (λ (z : List (List ℕ)). Span w (suc k) z (m q)) a.are (span_through w (suc k) m (linear w k map) (ones ss) fits q f.0)), go qs f.1)
