-- What is kept of the states that come to a point: the span of them all, each with 1 before it.
use Rattle.std.specs.Prelude.{ℕ, suc, List, [], ◌∷◌, ◌++◌, replicate}
use Rattle.algebra.specs.Vec.{plus, times, dot, sum, entry, flip}
use Rattle.algebra.specs.Rows.{Row}
use Rattle.algebra.specs.Span.{Fit, Span, Each}
use Rattle.algebra.specs.Form.{Form, WellFormed, In, Howell, full}
use Rattle.algebra.specs.System.{flipped, Gen}
use Rattle.programs.specs.Programs.{Action, set, any, skip, Step, Program}
use Rattle.programs.specs.Runs.{State, put, Makes, At, Holds, Comes}

-- states as rows: 1 at the number's place
abbrev pub ones : List State → List (List ℕ)
ones [] = []
ones (s ∷ ss) = (1 ∷ s) ∷ ones ss

-- a sum of states of k words, each with its weight
abbrev pub mix : ℕ → ℕ → List ℕ → List State → List ℕ
mix w k ws ss = sum w (suc k) ws (ones ss)

pub data AllCome (w : ℕ) (gs : List (List ℕ)) (p : Program) (n : ℕ) : List State → Type 0 where
  none_come : AllCome w gs p n []
  one_more : {s : State} {ss : List State} → Comes w gs p n s → AllCome w gs p n ss → AllCome w gs p n (s ∷ ss)

-- rows that keep a point: they make every state that comes there, and each is a sum of such
pub record Kept (w : ℕ) (gs : List (List ℕ)) (p : Program) (n : ℕ) (rs : List (List ℕ)) : Type 0 where
  pub wide : Each (Fit w (suc p.words)) rs
  pub makes : (u : State) → Comes w gs p n u → Span w (suc p.words) rs (1 ∷ u)
  pub made : Each (λ (r : List ℕ). (ss : List State) × AllCome w gs p n ss × Span w (suc p.words) (ones ss) r) rs

-- an action as linear maps of rows: a word set by factors; where it becomes anything, two maps, to 0 and to the row's own
-- number, which is 1 in a state
abbrev pub set_map : ℕ → ℕ → List ℕ → List ℕ → List ℕ
set_map w x cs r = put r (suc x) (dot w cs r)

pub data Map (w k : ℕ) : Action → (List ℕ → List ℕ) → Type 0 where
  map_set : {x : ℕ} {cs : List ℕ} → Map w k (set x cs) (set_map w x cs)
  map_zero : {x : ℕ} → Map w k (any x) (set_map w x (replicate (suc k) 0))
  map_one : {x : ℕ} → Map w k (any x) (set_map w x (1 ∷ replicate k 0))
  map_skip : Map w k skip (λ u. u)

-- rows taken through an action
abbrev pub moved : ℕ → ℕ → List ℕ → List (List ℕ) → List (List ℕ)
moved w x cs [] = []
moved w x cs (r ∷ rs) = set_map w x cs r ∷ moved w x cs rs

abbrev pub taken : ℕ → ℕ → Action → List (List ℕ) → List (List ℕ)
taken w k (set x cs) rs = moved w x cs rs
taken w k (any x) rs = moved w x (replicate (suc k) 0) rs ++ moved w x (1 ∷ replicate k 0) rs
taken w k skip rs = rs

-- the adjoint of a map that sets a word: what the row c makes of a row taken through it, `put_in` makes of the row
abbrev pub put_in : ℕ → ℕ → List ℕ → List ℕ → List ℕ
put_in w x cs c = plus w (put c (suc x) 0) (times w (entry c (suc x)) cs)

-- each state of us is what the action makes of one of ss
abbrev pub AllMade : ℕ → Action → List State → List State → Type 0
AllMade w d ss us = (u : State) (i : ℕ) → Row u i us → (s : State) × (j : ℕ) × Row s j ss × Makes w d s u

-- the states that come to a point as vectors of a form, which has its places in the other order, the number's last
pub data Reached (w : ℕ) (gs : List (List ℕ)) (p : Program) (n : ℕ) : List ℕ → Type 0 where
  reached : {s : State} → Comes w gs p n s → Reached w gs p n (flip (1 ∷ s))

-- a form keeps a point: it is a Howell form, spans the states that come there, and no more than they generate
pub record Keeps (w : ℕ) (gs : List (List ℕ)) (p : Program) (n : ℕ) (f : Form) : Type 0 where
  pub well : WellFormed w (suc p.words) f
  pub howell : Howell w f
  pub enough : (s : State) → Comes w gs p n s → In w f (flip (1 ∷ s))
  pub no_more : (u : List ℕ) → Fit w (suc p.words) u → In w f u → Gen w (suc p.words) (Reached w gs p n) u

-- forms for all points that the steps leave as they are: what a search that ends has found, in whatever order it went
pub record Stable (w : ℕ) (gs : List (List ℕ)) (p : Program) (fs : ℕ → Form) : Type 0 where
  pub well : (n : ℕ) → WellFormed w (suc p.words) (fs n)
  pub howell : (n : ℕ) → Howell w (fs n)
  pub starts : (s : State) → Fit w p.words s → Holds w gs s → In w (fs 0) (flip (1 ∷ s))
  pub goes : (t : Step) (i : ℕ) (m : List ℕ → List ℕ) → At t i p.steps → Map w p.words t.action m
      → Each (λ (r : List ℕ). In w (fs t.to) (flipped m r)) (full w (fs t.from))
  pub no_more : (n : ℕ) (u : List ℕ) → Fit w (suc p.words) u → In w (fs n) u → Gen w (suc p.words) (Reached w gs p n) u
