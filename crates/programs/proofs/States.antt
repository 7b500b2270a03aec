-- states that come fit; the laws of a point are closed
use Rattle.std.proofs.Common.{◌≡◌, ℕ, zero, suc, ◌+◌, ◌%◌, ◌^◌, ◌<◌, T, List, [], ◌∷◌, length, sym, refl, ap, ◌∙◌, arith}
use lib.Pow.{pow-lt}
use Rattle.algebra.proofs.Modular.{mods, by_zero}
use Rattle.algebra.proofs.Vec.{below_head, below_tail, below_cons, length_times}
use Rattle.algebra.proofs.Sums.{plus_dot, times_dot}
use Rattle.algebra.proofs.Fit.{fit_cons, fit_plus}
use Rattle.algebra.proofs.LastPlace.{fit_flip}
use Rattle.algebra.proofs.Insertions.{dot_small}
use Rattle.algebra.specs.Vec.{below, times, dot}
use Rattle.algebra.specs.Span.{Fit, Closed, Each}
use Rattle.programs.specs.Programs.{Action, Step, Program}
use Rattle.programs.specs.Runs.{put, State, Makes, makes_set, makes_any, makes_skip, At, Holds, Move, Run, begins, goes, Comes, Law}
use Rattle.programs.specs.Kept.{ones, AllCome, none_come, one_more, Reached, reached}
use Rattle.programs.specs.Theorems.{SumsAreLaws}

pub length_put : (s : List ℕ) (x v : ℕ) → length (put s x v) ≡ length s
length_put [] x v = refl
length_put (a ∷ s) zero v = refl
length_put (a ∷ s) (suc x) v = ap suc (length_put s x v)

pub fit_put : (w : ℕ) {n : ℕ} (s : List ℕ) (x v : ℕ) → v < 2 ^ w → Fit w n s → Fit w n (put s x v)
fit_put w s x v h a = record { sized = length_put s x v ∙ a.sized; small = small_put s x a.small }
  where
    small_put : (s₁ : List ℕ) (x₁ : ℕ) → T (below (2 ^ w) s₁) → T (below (2 ^ w) (put s₁ x₁ v))
    small_put [] x₁ b = tt
    small_put (y ∷ s₁) zero b = below_cons (2 ^ w) v s₁ h (below_tail (2 ^ w) y s₁ b)
    small_put (y ∷ s₁) (suc x₁) b = below_cons (2 ^ w) y (put s₁ x₁ v) (below_head (2 ^ w) y s₁ b) (small_put s₁ x₁ (below_tail (2 ^ w) y s₁ b))

pub fit_makes : (w : ℕ) {d : Action} {s u : State} {k : ℕ} → Makes w d s u → Fit w k s → Fit w k u
fit_makes w (makes_set {x} {cs} {s}) a = fit_put w s x (dot w cs (1 ∷ s)) (dot_small w cs (1 ∷ s)) a
fit_makes w (makes_any {x} {v} {s} h) a = fit_put w s x v h a
fit_makes w makes_skip a = a

pub fit_run : (w : ℕ) {gs : List (List ℕ)} {p : Program} {ms : List Move} {n : ℕ} {s : State} → Run w gs p ms n s → Fit w p.words s
fit_run w (begins h g) = h
fit_run w (goes r a b) = fit_makes w b (fit_run w r)

pub fit_comes : (w : ℕ) {gs : List (List ℕ)} {p : Program} {n : ℕ} {s : State} → Comes w gs p n s → Fit w p.words s
fit_comes w c = fit_run w c.run

-- to come to a point is to begin there, or to take one step more
pub comes_first : (w : ℕ) {gs : List (List ℕ)} {p : Program} {s : State} → Fit w p.words s → Holds w gs s → Comes w gs p 0 s
comes_first w h g = record { moves = []; run = begins h g }

pub comes_next : (w : ℕ) {gs : List (List ℕ)} {p : Program} {s u : State} (t : Step) (i : ℕ) → Comes w gs p t.from s → At t i p.steps → Makes w t.action s u → Comes w gs p t.to u
comes_next w {u} t i c a b = record { moves = record { number = i; after = u } ∷ c.moves; run = goes c.run a b }

-- 1 is a word
pub one_small : (w : ℕ) → 0 < w → 1 < 2 ^ w
one_small w h = pow-lt {i = 0} {j = w} h

pub fit_one : (w : ℕ) {k : ℕ} {s : State} → 0 < w → Fit w k s → Fit w (suc k) (1 ∷ s)
fit_one w h a = fit_cons w (one_small w h) a

pub fits_ones : (w : ℕ) {gs : List (List ℕ)} {p : Program} {n : ℕ} {ss : List State} → 0 < w → AllCome w gs p n ss → Each (Fit w (suc p.words)) (ones ss)
fits_ones w h none_come = tt
fits_ones w h (one_more c a) = (fit_one w h (fit_comes w c), fits_ones w h a)

pub fit_reached : (w : ℕ) → 0 < w → (gs : List (List ℕ)) (p : Program) (n : ℕ) (d : List ℕ) → Reached w gs p n d → Fit w (suc p.words) d
fit_reached w pos gs p n d (reached c) = fit_flip w (fit_one w pos (fit_comes w c))

pub sums_are_laws : (w : ℕ) (gs : List (List ℕ)) → SumsAreLaws w gs
sums_are_laws w gs p n k c d a b = record { fits = fit_plus w k a.fits b.fits; holds = λ s h. plus_dot w c (times w k d) (1 ∷ s) same ∙ zero s h }
  where
    same : length c ≡ length (times w k d)
    same = a.fits.sized ∙ sym b.fits.sized ∙ sym (length_times w k d)

    zero : (s : State) → Comes w gs p n s → (dot w c (1 ∷ s) + dot w (times w k d) (1 ∷ s)) % 2 ^ w ≡ 0
    zero s h = rw (times_dot w k d (1 ∷ s), a.holds s h, b.holds s h) (simp mods (by_zero w _ 0 (omega arith)))

pub laws_closed : (w : ℕ) (gs : List (List ℕ)) (p : Program) (n : ℕ) → Closed w (suc p.words) (Law w gs p n)
laws_closed w gs p n = record { sums = λ k c d. sums_are_laws w gs p n k c d; sized = λ c l. l.fits.sized; small = λ c l. l.fits.small }
