-- forms for points, made larger until no edge makes them larger
use mathlib.Core.Path.{◌≡◌, refl, sym, subst}
use mathlib.Core.Logic.{◌⊎◌, inl, inr, ◌↔◌}
use mathlib.Core.List.{List, [], ◌∷◌}
use Prim.Native.Nat.{ℕ, zero, suc, ◌+◌, ◌<◌, ◌≤◌}
use native.Mathlib.Omega.{arith}
use native.Mathlib.Decide.{ℕ_discrete}
use Rattle.algebra.proofs.Fit.{Submodule, Inside}
use Rattle.algebra.proofs.Insert.{Falls, falls_le}
use Rattle.algebra.proofs.FormSpans.{in_sub, in_least, inside_mono, inside_self}
use Rattle.algebra.proofs.Insertions.{each_map, inside_full, fits_full, fine_grow, howell_grow, inside_grow, in_grow, falls_grow}
use Rattle.algebra.proofs.Generated.{sub_map}
use Rattle.algebra.specs.Span.{Fit, Each}
use Rattle.algebra.specs.Form.{Form, WellFormed, In, Howell, weight, grow, full}
use Rattle.algebra.specs.System.{Linear, through, Edge, On, first, later}

-- one form of many changed
pub pick_form : {A : Type 0} → Form → Form → Dec A → Form
pick_form g h (yes p) = g
pick_form g h (no p) = h

pub update : (ℕ → Form) → ℕ → Form → ℕ → Form
update fs n g k = pick_form g (fs k) (ℕ_discrete n k)

-- a property of all forms
pub update_all : (Q : ℕ → Form → Type 0) (fs : ℕ → Form) (n : ℕ) (g : Form) → ((k : ℕ) → Q k (fs k)) → Q n g → (k : ℕ) → Q k (update fs n g k)
unfolding update pick_form
update_all Q fs n g a b k = elim (ℕ_discrete n k) as (λ d. Q k (pick_form g (fs k) d)) [ yes e ↦ subst (λ (z : ℕ). Q z g) e b | no f ↦ a k ]

pub update_at : (fs : ℕ → Form) (n : ℕ) (g : Form) → update fs n g n ≡ g
unfolding update pick_form
update_at fs n g = elim (ℕ_discrete n n) as (λ d. pick_form g (fs n) d ≡ g) [ yes e ↦ refl | no f ↦ absurd (f refl) ]

pub total : (ℕ → Form) → List Edge → ℕ
total fs [] = 0
total fs (e ∷ es) = weight (fs e.to) + total fs es

total_le : (fs gs : ℕ → Form) (es : List Edge) → ((k : ℕ) → weight (gs k) ≤ weight (fs k)) → total gs es ≤ total fs es
unfolding total
total_le fs gs [] h = omega arith
total_le fs gs (e ∷ es) h = omega (arith, h e.to, total_le fs gs es h)

total_lt : (fs gs : ℕ → Form) (e : Edge) (es : List Edge) → On e es → ((k : ℕ) → weight (gs k) ≤ weight (fs k)) → weight (gs e.to) < weight (fs e.to) → total gs es < total fs es
unfolding total
total_lt fs gs e [] o h l = elim o [ ]
total_lt fs gs e (d ∷ es) first h l = omega (arith, l, total_le fs gs es h)
total_lt fs gs e (d ∷ es) (later o) h l = omega (arith, h d.to, total_lt fs gs e es o h l)

pub each_through : (S : List ℕ → Type 0) (m : List ℕ → List ℕ) (rs : List (List ℕ)) → Each S (through m rs) ↔ Each (λ (r : List ℕ). S (m r)) rs
each_through S m [] = (λ a. a, λ a. a)
each_through S m (r ∷ rs) = (λ a. (a.0, (each_through S m rs).0 a.1), λ a. (a.0, (each_through S m rs).1 a.1))

module _ (w N : ℕ) (es : List Edge) (lin : (e : Edge) → On e es → Linear w N e.map) (R : ℕ → List ℕ → Type 0) (sub : (n : ℕ) → Submodule w N (R n)) (goes : (e : Edge) → On e es → (u : List ℕ) → Fit w N u → R e.from u → R e.to (e.map u)) where
  -- what stands for all forms at each turn
  pub record Good (n : ℕ) (f : Form) : Type 0 where
    pub fine : WellFormed w N f
    pub howell : Howell w f
    pub within : Inside w (R n) f

  pub record ClosedUnder (fs : ℕ → Form) (e : Edge) : Type 0 where
    pub holds : (u : List ℕ) → Fit w N u → In w (fs e.from) u → In w (fs e.to) (e.map u)

  module _ (fs : ℕ → Form) (good : (n : ℕ) → Good n (fs n)) (e : Edge) (on : On e es) where
    images : List (List ℕ)
    images = through e.map (full w (fs e.from))

    fits : Each (Fit w N) images
    unfolding images
    fits = (each_through (Fit w N) e.map (full w (fs e.from))).1 (each_map (Fit w N) (λ (r : List ℕ). Fit w N (e.map r)) (lin e on).fit (full w (fs e.from)) (fits_full w (good e.from).fine))

    pub next : Form
    next = grow w (fs e.to) images

    pub next_good : Good e.to next
    unfolding next images
    next_good = record {
      fine = fine_grow w (fs e.to) images (good e.to).fine fits;
      howell = howell_grow w (fs e.to) images (good e.to).fine (good e.to).howell fits;
      within = (inside_grow w (R e.to) (sub e.to) (fs e.to) images (good e.to).fine fits).1 ((good e.to).within, (each_through (R e.to) e.map (full w (fs e.from))).1 ((inside_full w (λ (r : List ℕ). R e.to (e.map r)) (fs e.from)).0 (inside_mono w (good e.from).fine (R e.from) (λ (r : List ℕ). R e.to (e.map r)) (goes e on) (good e.from).within)));
    }

    pub unchanged : next ≡ fs e.to → ClosedUnder fs e
    unfolding next images
    unchanged same = record { holds = λ u fu i. in_least w (good e.from).fine S (sub_map w (lin e on) (in_sub w (good e.to).fine)) ((inside_full w S (fs e.from)).1 ((each_through (In w (fs e.to)) e.map (full w (fs e.from))).0 all_in)) u fu i }
      where
        S : List ℕ → Type 0
        S r = In w (fs e.to) (e.map r)

        all_in : Each (In w (fs e.to)) images
        all_in = ((inside_grow w (In w (fs e.to)) (in_sub w (good e.to).fine) (fs e.to) images (good e.to).fine fits).0 (subst (Inside w (In w (fs e.to))) (sym same) (inside_self w (good e.to).fine))).1

    pub falls : Falls (fs e.to) next
    unfolding next images
    falls = falls_grow w (fs e.to) images

    pub grown : (u : List ℕ) → Fit w N u → In w (fs e.to) u → In w next u
    unfolding next images
    grown u fu i = in_grow w (fs e.to) images (good e.to).fine fits u fu i

  -- an edge that makes a form larger, if there is one
  pub record Larger (fs : ℕ → Form) (good : (n : ℕ) → Good n (fs n)) : Type 0 where
    pub edge : Edge
    pub on : On edge es
    pub lighter : weight (next fs good edge on) < weight (fs edge.to)

  find : (fs : ℕ → Form) (good : (n : ℕ) → Good n (fs n)) (ds : List Edge) → ((e : Edge) → On e ds → On e es) → Larger fs good ⊎ ((e : Edge) → On e ds → ClosedUnder fs e)
  find fs good [] f = inr (λ e o. elim o [ ])
  find fs good (d ∷ ds) f = one (falls fs good d (f d first)) (find fs good ds (λ e o. f e (later o)))
    where
      both : ClosedUnder fs d → ((e : Edge) → On e ds → ClosedUnder fs e) → (e : Edge) → On e (d ∷ ds) → ClosedUnder fs e
      both a b e first = a
      both a b e (later o) = b e o

      one : Falls (fs d.to) (next fs good d (f d first)) → Larger fs good ⊎ ((e : Edge) → On e ds → ClosedUnder fs e) → Larger fs good ⊎ ((e : Edge) → On e (d ∷ ds) → ClosedUnder fs e)
      one (inr l) r = inl (record { edge = d; on = f d first; lighter = l })
      one (inl s) (inl l) = inl l
      one (inl s) (inr g) = inr (both (unchanged fs good d (f d first) s) g)

  pub record Closure (fs : ℕ → Form) : Type 0 where
    pub forms : ℕ → Form
    pub good : (n : ℕ) → Good n (forms n)
    pub closed : (e : Edge) → On e es → ClosedUnder forms e
    pub larger : (n : ℕ) (u : List ℕ) → Fit w N u → In w (fs n) u → In w (forms n) u

  step : (fuel : ℕ) (fs : ℕ → Form) (good : (n : ℕ) → Good n (fs n)) → total fs es < suc fuel
      → ((gs : ℕ → Form) → ((n : ℕ) → Good n (gs n)) → total gs es < fuel → Closure gs) → Larger fs good ⊎ ((e : Edge) → On e es → ClosedUnder fs e)
      → Closure fs
  step fuel fs good h rec (inr c) = record { forms = fs; good = good; closed = c; larger = λ n u fu i. i }
  step fuel fs good h rec (inl l) =
      let c = rec gs gs_good (omega (arith, h, less_total)) in
      record { forms = c.forms; good = c.good; closed = c.closed; larger = λ n u fu i. c.larger n u fu (gs_larger n u fu i) }
    where
      e : Edge
      e = l.edge

      g : Form
      g = next fs good e l.on

      gs : ℕ → Form
      gs = update fs e.to g

      gs_good : (n : ℕ) → Good n (gs n)
      gs_good = update_all Good fs e.to g good (next_good fs good e l.on)

      gs_light : (k : ℕ) → weight (gs k) ≤ weight (fs k)
      gs_light = update_all (λ (k : ℕ) (f : Form). weight f ≤ weight (fs k)) fs e.to g (λ k. omega arith) (falls_le (fs e.to) g (falls fs good e l.on))

      gs_lighter : weight (gs e.to) < weight (fs e.to)
      gs_lighter = rw (update_at fs e.to g) l.lighter

      less_total : total gs es < total fs es
      less_total = total_lt fs gs e es l.on gs_light gs_lighter

      gs_larger : (k : ℕ) (u : List ℕ) → Fit w N u → In w (fs k) u → In w (gs k) u
      gs_larger = update_all (λ (k : ℕ) (f : Form). (u : List ℕ) → Fit w N u → In w (fs k) u → In w f u) fs e.to g (λ k u fu i. i) (grown fs good e l.on)

  loop : (fuel : ℕ) (fs : ℕ → Form) (good : (n : ℕ) → Good n (fs n)) → total fs es < fuel → Closure fs
  loop zero fs good h = absurd (omega arith)
  loop (suc fuel) fs good h = step fuel fs good h (λ gs g₁ h₁. loop fuel gs g₁ h₁) (find fs good es (λ e o. o))

  pub closure : (fs : ℕ → Form) → ((n : ℕ) → Good n (fs n)) → Closure fs
  closure fs good = loop (suc (total fs es)) fs good (omega arith)
