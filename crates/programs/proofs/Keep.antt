-- the steps of a program are the edges of a linear system: it has stable forms, and the laws are told of them
use Rattle.std.proofs.Common.{◌≡◌, ℕ, zero, suc, ◌<◌, ◌⊎◌, List, [], ◌∷◌, replicate, sym, refl, ap, ◌∙◌, subst, inl, inr}
use Rattle.algebra.proofs.Fit.{Submodule}
use Rattle.algebra.proofs.FormSpans.{in_least, inside_mono, inside_self, fine_nothing, howell_nothing}
use Rattle.algebra.proofs.Insertions.{inside_none, inside_full}
use Rattle.algebra.proofs.LastPlace.{fit_flip, flip_flip}
use Rattle.algebra.proofs.Best.{best_same}
use Rattle.algebra.proofs.Tell.{Killed, killed_sub, best_tell}
use Rattle.algebra.proofs.Generated.{gen_least, linear_flipped}
use Rattle.algebra.proofs.Closure.{Good, Closure, closure}
use Rattle.algebra.specs.Vec.{dot, flip}
use Rattle.algebra.specs.Span.{Fit}
use Rattle.algebra.specs.Form.{Form, In, nothing}
use Rattle.algebra.specs.Tell.{Annihilates}
use Rattle.algebra.specs.System as system
use Rattle.algebra.specs.System.{Linear, flipped, Edge, On}
use Rattle.programs.specs.Programs.{Action, set, any, skip, Step, Program}
use Rattle.programs.specs.Runs.{At, at_first, at_later, Law}
use Rattle.programs.specs.Kept.{set_map, Map, map_set, map_zero, map_one, map_skip, Reached, reached, Stable}
use Rattle.programs.specs.Theorems.{Given, HasForm, HasRows}
use Rattle.programs.proofs.States.{fit_comes, fit_one}
use Rattle.programs.proofs.Steps.{linear}
use Rattle.programs.proofs.Start.{Start, start}
use Rattle.programs.proofs.Visit.{R, R_sub, R_step, stable_keeps}

abbrev edge : ℕ → ℕ → (List ℕ → List ℕ) → Edge
edge a b m = record { from = a; to = b; map = flipped m }

abbrev edges_do : ℕ → ℕ → ℕ → ℕ → Action → List Edge → List Edge
edges_do w k a b (set x cs) es = edge a b (set_map w x cs) ∷ es
edges_do w k a b (any x) es = edge a b (set_map w x (replicate (suc k) 0)) ∷ edge a b (set_map w x (1 ∷ replicate k 0)) ∷ es
edges_do w k a b skip es = edge a b (λ u. u) ∷ es

abbrev pub edges : ℕ → ℕ → List Step → List Edge
edges w k [] = []
edges w k (t ∷ ts) = edges_do w k t.from t.to t.action (edges w k ts)

-- the edges are just the maps of the steps
data From (w k : ℕ) (ts : List Step) : Edge → Type 0 where
  from : {t : Step} {i : ℕ} {m : List ℕ → List ℕ} → At t i ts → Map w k t.action m → From w k ts (edge t.from t.to m)

more : (w k : ℕ) {t : Step} {ts : List Step} {e : Edge} → From w k ts e → From w k (t ∷ ts) e
more w k (from a m) = from (at_later a) m

on_do : (w k a b : ℕ) (d : Action) (es : List Edge) {e : Edge} → On e es → On e (edges_do w k a b d es)
on_do w k a b (set x cs) es o = system.later o
on_do w k a b (any x) es o = system.later (system.later o)
on_do w k a b skip es o = system.later o

on_map : (w k a b : ℕ) {d : Action} {m : List ℕ → List ℕ} (es : List Edge) → Map w k d m → On (edge a b m) (edges_do w k a b d es)
on_map w k a b es map_set = system.first
on_map w k a b es map_zero = system.first
on_map w k a b es map_one = system.later system.first
on_map w k a b es map_skip = system.first

on_step : (w k : ℕ) {t : Step} {i : ℕ} {ts : List Step} {m : List ℕ → List ℕ} → At t i ts → Map w k t.action m → On (edge t.from t.to m) (edges w k ts)
on_step w k {t} (at_first {ss = ts}) m = on_map w k t.from t.to (edges w k ts) m
on_step w k (at_later {s = s} {ss = ts} a) m = on_do w k s.from s.to s.action (edges w k ts) (on_step w k a m)

split_do : (w k a b : ℕ) (d : Action) (es : List Edge) (e : Edge) → On e (edges_do w k a b d es) → On e es ⊎ ((m : List ℕ → List ℕ) × Map w k d m × (edge a b m ≡ e))
split_do w k a b (set x cs) es e system.first = inr (set_map w x cs, map_set, refl)
split_do w k a b (set x cs) es e (system.later o) = inl o
split_do w k a b (any x) es e system.first = inr (set_map w x (replicate (suc k) 0), map_zero, refl)
split_do w k a b (any x) es e (system.later system.first) = inr (set_map w x (1 ∷ replicate k 0), map_one, refl)
split_do w k a b (any x) es e (system.later (system.later o)) = inl o
split_do w k a b skip es e system.first = inr (λ u. u, map_skip, refl)
split_do w k a b skip es e (system.later o) = inl o

on_from : (w k : ℕ) (ts : List Step) (e : Edge) → On e (edges w k ts) → From w k ts e
on_from w k [] e o = elim o [ ]
on_from w k (t ∷ ts) e o = pick (split_do w k t.from t.to t.action (edges w k ts) e o) (λ p. on_from w k ts e p)
  where
    pick : On e (edges w k ts) ⊎ ((m : List ℕ → List ℕ) × Map w k t.action m × (edge t.from t.to m ≡ e)) → (On e (edges w k ts) → From w k ts e) → From w k (t ∷ ts) e
    pick (inl p) f = more w k (f p)
    pick (inr q) f = subst (From w k (t ∷ ts)) q.2 (from at_first q.1)

module _ (w : ℕ) (pos : 0 < w) (gs : List (List ℕ)) (p : Program) (given : Given w gs p) where
  abbrev N : ℕ
  N = suc p.words

  abbrev es : List Edge
  es = edges w p.words p.steps

  abbrev R₁ : ℕ → List ℕ → Type 0
  R₁ = R w pos gs p

  abbrev sub : (n : ℕ) → Submodule w N (R₁ n)
  sub = R_sub w pos gs p

  lin : (e : Edge) → On e es → Linear w N e.map
  lin e o = lin_from e (on_from w p.words p.steps e o)
    where
      lin_from : (d : Edge) → From w p.words p.steps d → Linear w N d.map
      lin_from d (from {m} a h) = linear_flipped w N m (linear w p.words h)

  R_goes : (e : Edge) → On e es → (u : List ℕ) → Fit w N u → R₁ e.from u → R₁ e.to (e.map u)
  R_goes e o u fu g = goes_from e (on_from w p.words p.steps e o) g
    where
      goes_from : (d : Edge) → From w p.words p.steps d → R₁ d.from u → R₁ d.to (d.map u)
      goes_from d (from {t} {i} {m} a h) g₁ = R_step w pos gs p t i m a h u g₁

  s0 : Start w pos gs p given
  s0 = start w pos gs p given

  starts : ℕ → Form
  starts zero = s0.form
  starts (suc n) = nothing w N

  start_good : (n : ℕ) → Good w N es lin R₁ sub R_goes n (starts n)
  unfolding starts
  start_good zero = record { fine = s0.well; howell = s0.howell; within = inside_mono w s0.well (In w s0.form) (R₁ 0) s0.no_more (inside_self w s0.well) }
  start_good (suc n) = record { fine = fine_nothing w N; howell = howell_nothing w N; within = inside_none w (R₁ (suc n)) (sub (suc n)) }

  done : Closure w N es lin R₁ sub R_goes starts
  done = closure w N es lin R₁ sub R_goes starts start_good

  -- a form for each point
  pub forms : ℕ → Form
  forms n = done.forms n

  pub stable : Stable w gs p forms
  unfolding forms starts
  stable = record {
    well = λ n. (done.good n).fine;
    howell = λ n. (done.good n).howell;
    starts = λ s h g. done.larger 0 (flip (1 ∷ s)) (fit_flip w (fit_one w pos h)) (s0.enough s h g);
    goes = λ t i m a h. (inside_full w (λ (r : List ℕ). In w (done.forms t.to) (flipped m r)) (done.forms t.from)).0 (inside_mono w (done.good t.from).fine (In w (done.forms t.from)) (λ (r : List ℕ). In w (done.forms t.to) (flipped m r)) (λ v fv i. (done.closed (edge t.from t.to m) (on_step w p.words a h)).holds v fv i) (inside_self w (done.good t.from).fine));
    no_more = λ n u fu i. in_least w (done.good n).fine (R₁ n) (sub n) (done.good n).within u fu i;
  }

pub has_form : (w : ℕ) (gs : List (List ℕ)) → 0 < w → HasForm w gs
has_form w gs pos p n given = (forms w pos gs p given n, stable_keeps w pos gs p (forms w pos gs p given) (stable w pos gs p given) n)

-- of a form that keeps a point the laws are told
pub has_rows : (w : ℕ) (gs : List (List ℕ)) → 0 < w → HasRows w gs
has_rows w gs pos p n f k = best_same to back (best_tell w k.well k.howell)
  where
    fits : (d : List ℕ) → Reached w gs p n d → Fit w (suc p.words) d
    fits d (reached c) = fit_flip w (fit_one w pos (fit_comes w c))

    to : (c : List ℕ) → Annihilates w (suc p.words) f c → Law w gs p n c
    to c a = record { fits = a.fits; holds = λ s h. ap (dot w c) (sym (flip_flip (1 ∷ s))) ∙ a.kills (flip (1 ∷ s)) (fit_flip w (fit_one w pos (fit_comes w h))) (k.enough s h) }

    dead : (c : List ℕ) → Law w gs p n c → (d : List ℕ) → Reached w gs p n d → Killed w c d
    dead c l d (reached {s} h) = ap (dot w c) (flip_flip (1 ∷ s)) ∙ l.holds s h

    back : (c : List ℕ) → Law w gs p n c → Annihilates w (suc p.words) f c
    back c l = record { fits = l.fits; kills = λ v fv i. gen_least w (suc p.words) (Reached w gs p n) fits (Killed w c) (killed_sub w (suc p.words) c) (dead c l) (k.no_more v fv i) }
