-- steps as linear maps of rows
use Rattle.std.proofs.Common.{◌≡◌, ℕ, zero, suc, ◌+◌, ◌*◌, ◌%◌, ◌^◌, ◌<◌, List, [], ◌∷◌, replicate, sym, refl, ap, ◌∙◌, subst, ap₂, mod-eq_of_lt, arith, pow_pos}
use Rattle.algebra.proofs.Modular.{push, pull, out, by_small}
use Rattle.algebra.proofs.Vec.{cons_≡}
use Rattle.algebra.proofs.Sums.{dot_zero}
use Rattle.algebra.proofs.Span.{back}
use Rattle.algebra.proofs.Fit.{Submodule, fit_plus}
use Rattle.algebra.proofs.Insertions.{dot_less, dot_small}
use Rattle.algebra.proofs.Tell.{zero_dot}
use Rattle.algebra.specs.Vec.{neg, plus, times, dot}
use Rattle.algebra.specs.Span.{Fit}
use Rattle.algebra.specs.System.{Linear}
use Rattle.programs.specs.Programs.{Action}
use Rattle.programs.specs.Runs.{put, State, Makes, makes_set, makes_any, makes_skip}
use Rattle.programs.specs.Kept.{set_map, Map, map_set, map_zero, map_one, map_skip}
use Rattle.programs.proofs.States.{fit_put, fit_one, one_small}

-- put is linear
pub put_plus : (w k x a b : ℕ) (s t : List ℕ) → put (plus w s (times w k t)) x ((a + (k * b) % 2 ^ w) % 2 ^ w) ≡ plus w (put s x a) (times w k (put t x b))
put_plus w k x a b [] t = refl
put_plus w k zero a b (y ∷ s) [] = refl
put_plus w k (suc x) a b (y ∷ s) [] = refl
put_plus w k zero a b (y ∷ s) (z ∷ t) = refl
put_plus w k (suc x) a b (y ∷ s) (z ∷ t) = cons_≡ refl (put_plus w k x a b s t)

put_zero : (n x : ℕ) → put {A = ℕ} (replicate n 0) x 0 ≡ replicate n 0
put_zero zero x = refl
put_zero (suc n) zero = refl
put_zero (suc n) (suc x) = cons_≡ refl (put_zero n x)

pub linear_set : (w n x : ℕ) (cs : List ℕ) → Linear w n (set_map w x cs)
linear_set w n x cs = record {
  fit = λ u fu. fit_put w u (suc x) (dot w cs u) (dot_small w cs u) fu;
  zeros = ap (put (replicate n 0) (suc x)) (dot_zero w n cs) ∙ put_zero n (suc x);
  sums = λ k u v p q. (ap (put (plus w u (times w k v)) (suc x)) (dot_less w cs k u v p q) ∙ put_plus w k (suc x) (dot w cs u) (dot w cs v) u v);
}

pub linear : (w k : ℕ) {d : Action} {m : List ℕ → List ℕ} → Map w k d m → Linear w (suc k) m
linear w k (map_set {x} {cs}) = linear_set w (suc k) x cs
linear w k (map_zero {x}) = linear_set w (suc k) x (replicate (suc k) 0)
linear w k (map_one {x}) = linear_set w (suc k) x (1 ∷ replicate k 0)
linear w k map_skip = record { fit = λ u a. a; zeros = refl; sums = λ j u v p q. refl }

-- what a map makes of a state is a state that the step makes of it
pub step_state : (w : ℕ) {k : ℕ} {d : Action} {m : List ℕ → List ℕ} → 0 < w → Map w k d m → (s : State) → (u : State) × Makes w d s u × (m (1 ∷ s) ≡ 1 ∷ u)
step_state w h (map_set {x} {cs}) s = (put s x (dot w cs (1 ∷ s)), makes_set, refl)
step_state w {k} h (map_zero {x}) s = (put s x 0, makes_any (pow_pos w), cons_≡ refl (ap (put s x) (zero_dot w (suc k) (1 ∷ s))))
step_state w {k} h (map_one {x}) s = (put s x 1, makes_any (one_small w h), cons_≡ refl (ap (put s x) (ap (λ (z : ℕ). (1 * 1 + z) % 2 ^ w) (zero_dot w k s) ∙ mod-eq_of_lt (one_small w h))))
step_state w h map_skip s = (s, makes_skip, refl)

-- so what the maps make is in a set that has all states after the step
pub step_exact : (w : ℕ) {k : ℕ} {d : Action} {m : List ℕ → List ℕ} → 0 < w → (S : List ℕ → Type 0) (s : State) → Map w k d m → ((u : State) → Makes w d s u → S (1 ∷ u)) → S (m (1 ∷ s))
step_exact w h S s m f = let g = step_state w h m s in subst S (sym g.2) (f g.0 g.1)

-- a word that becomes anything: so many times the state with 1 there, and the rest of the state with 0
mixed : (w x v : ℕ) {k : ℕ} (s : State) → 0 < w → v < 2 ^ w → Fit w k s → plus w (plus w (1 ∷ put s x 0) (times w (neg w * v) (1 ∷ put s x 0))) (times w v (1 ∷ put s x 1)) ≡ 1 ∷ put s x v
mixed w x v s h l a = cons_≡ (simp push (simp pull (simp out (by_small w _ 1 v (one_small w h) (omega arith))))) (ap (λ (z : List ℕ). plus w z (times w v (put s x 1))) (sym (put_plus w (neg w * v) x 0 0 s s)) ∙ sym (put_plus w v x ((0 + (neg w * v * 0) % 2 ^ w) % 2 ^ w) 1 (plus w s (times w (neg w * v) s)) s) ∙ ap₂ (λ (z : List ℕ) (y : ℕ). put z x y) (back w v s s refl a.small) (simp push (simp pull (simp out (by_small w _ v 0 l (omega arith))))))

-- and a state after a step is in a submodule that has what the maps make
pub step_sound : (w : ℕ) {d : Action} {s u : State} {k : ℕ} → 0 < w → (S : List ℕ → Type 0) → Makes w d s u → Fit w k s → Submodule w (suc k) S
    → ((m : List ℕ → List ℕ) → Map w k d m → S (m (1 ∷ s))) → S (1 ∷ u)
step_sound w h S (makes_set {x} {cs} {s}) a sub f = f (set_map w x cs) map_set
step_sound w {k} h S (makes_any {x} {v} {s} l) a sub f = subst S (mixed w x v s h l a) (sub.add v (plus w zero_row (times w (neg w * v) zero_row)) one_row (fit_plus w (neg w * v) fit_z fit_z) fit_o (sub.add (neg w * v) zero_row zero_row fit_z fit_z in_z in_z) in_o)
  where
    zero_row : List ℕ
    zero_row = 1 ∷ put s x 0

    one_row : List ℕ
    one_row = 1 ∷ put s x 1

    fit_z : Fit w (suc k) zero_row
    fit_z = fit_one w h (fit_put w s x 0 (pow_pos w) a)

    fit_o : Fit w (suc k) one_row
    fit_o = fit_one w h (fit_put w s x 1 (one_small w h) a)

    in_z : S zero_row
    in_z = subst S (cons_≡ refl (ap (put s x) (zero_dot w (suc k) (1 ∷ s)))) (f (set_map w x (replicate (suc k) 0)) map_zero)

    in_o : S one_row
    in_o = subst S (cons_≡ refl (ap (put s x) (ap (λ (z : ℕ). (1 * 1 + z) % 2 ^ w) (zero_dot w k s) ∙ mod-eq_of_lt (one_small w h)))) (f (set_map w x (1 ∷ replicate k 0)) map_one)
step_sound w h S makes_skip a sub f = f (λ u. u) map_skip
