-- What is proved of programs, for words of w bits, any limits, and rows gs given at point 0.
use Rattle.std.specs.Prelude.{◌≡◌, ℕ, suc, ◌-◌, ◌*◌, ◌%◌, ◌^◌, ◌<◌, ◌≤◌, T, ◌↔◌, List, [], ◌∷◌, length}
use Rattle.algebra.specs.Vec.{below, plus, times, dot, sum}
use Rattle.algebra.specs.Rows.{Best}
use Rattle.algebra.specs.Span.{Fit, Span, Each, Ann, Fresh}
use Rattle.algebra.specs.Form.{Form}
use Rattle.algebra.specs.Tell.{tell}
use Rattle.programs.specs.Programs.{Limits, Action, Program, OneProgram}
use Rattle.programs.specs.Runs.{State, Makes, Comes, Law}
use Rattle.programs.specs.Kept.{ones, mix, AllCome, Kept, set_map, taken, put_in, AllMade, Keeps, Stable}

-- sums of laws are laws; from the best rows of a point every law can be had by sums; and they are the only such rows
abbrev pub SumsAreLaws : ℕ → List (List ℕ) → Type 0
SumsAreLaws w gs = (p : Program) (n k : ℕ) (c d : List ℕ) → Law w gs p n c → Law w gs p n d → Law w gs p n (plus w c (times w k d))

abbrev pub AllLaws : ℕ → List (List ℕ) → Type 0
AllLaws w gs = (p : Program) (n : ℕ) (rs : List (List ℕ)) (c : List ℕ) → Best (Law w gs p n) rs → Law w gs p n c
    → (ks : List ℕ) × (length ks ≡ length rs) × (sum w (suc p.words) ks rs ≡ c)

abbrev pub OnlyRows : ℕ → List (List ℕ) → Type 0
OnlyRows w gs = (p : Program) (n : ℕ) (rs ss : List (List ℕ)) → Best (Law w gs p n) rs → Best (Law w gs p n) ss → rs ≡ ss

-- programs with the same laws at a point have the same rows there
abbrev pub SameRows : ℕ → List (List ℕ) → Type 0
SameRows w gs = (p q : Program) (m n : ℕ) (rs ss : List (List ℕ)) → p.words ≡ q.words → ((c : List ℕ) → Law w gs p m c ↔ Law w gs q n c)
    → Best (Law w gs p m) rs → Best (Law w gs q n) ss → rs ≡ ss

-- what holds of states holds of their sums with weights that come to 1
abbrev pub SumsOfStates : ℕ → Type 0
SumsOfStates w = (k : ℕ) (c u ws : List ℕ) (ss : List State) → Each (Fit w (suc k)) (ones ss)
    → Each (λ (r : List ℕ). dot w c r ≡ 0) (ones ss) → length ws ≡ length ss → mix w k ws ss ≡ 1 ∷ u → dot w c (1 ∷ u) ≡ 0

-- so states of which all that come are sums are enough to know every law by
abbrev pub KeptIsEnough : ℕ → List (List ℕ) → Type 0
KeptIsEnough w gs = (p : Program) (n : ℕ) (c : List ℕ) (ss : List State) → Each (Fit w (suc p.words)) (ones ss)
    → Ann w (suc p.words) (ones ss) c → ((u : State) → Comes w gs p n u → Span w (suc p.words) (ones ss) (1 ∷ u)) → Law w gs p n c

-- the rows given are rows of the program's words
abbrev pub Given : ℕ → List (List ℕ) → Program → Type 0
Given w gs p = Each (Fit w (suc p.words)) gs

-- w states for each place are enough: every state that comes to the point is a sum of them
abbrev pub Enough : ℕ → List (List ℕ) → Type 0
Enough w gs = (p : Program) (n : ℕ) → Given w gs p
    → (ss : List State) × AllCome w gs p n ss × (length ss ≤ w * suc p.words)
    × ((u : State) → Comes w gs p n u → (ws : List ℕ) × (length ws ≡ length ss) × (mix w p.words ws ss ≡ 1 ∷ u))

-- what is kept at a point grows at most w times for each place
abbrev pub GrowsSoOften : ℕ → Type 0
GrowsSoOften w = (n : ℕ) (vs : List (List ℕ)) → Fresh w n vs → length vs ≤ w * n

-- what is kept fits as rows in their form, one for each place at most
abbrev pub FitsAsRows : ℕ → List (List ℕ) → Type 0
FitsAsRows w gs = (p : Program) (n : ℕ) → Given w gs p
    → (rs : List (List ℕ)) × Kept w gs p n rs × Best (Span w (suc p.words) rs) rs × (length rs ≤ suc p.words)

-- rows through a step make every state that the step makes of a sum of them, and are sums of such only
abbrev pub StepMakes : ℕ → Type 0
StepMakes w = (k : ℕ) (d : Action) (rs : List (List ℕ)) (s u : State) → Each (Fit w (suc k)) rs → Fit w k s → Span w (suc k) rs (1 ∷ s)
    → Makes w d s u → Span w (suc k) (taken w k d rs) (1 ∷ u)

abbrev pub StepMade : ℕ → Type 0
StepMade w = (k : ℕ) (d : Action) (rs : List (List ℕ)) (ss : List State) → Each (Fit w (suc k)) (ones ss)
    → Each (Span w (suc k) (ones ss)) rs
    → Each (λ (r : List ℕ). (us : List State) × AllMade w d ss us × Span w (suc k) (ones us) r) (taken w k d rs)

-- a row with a step put in comes to what the row comes to behind the step
abbrev pub Adjoint : ℕ → Type 0
Adjoint w = (k x : ℕ) (cs c r : List ℕ) → length cs ≡ suc k → length c ≡ suc k → length r ≡ suc k → dot w c (set_map w x cs r) ≡ dot w (put_in w x cs c) r

-- the laws are what annihilates the rows kept
abbrev pub LawsOfKept : ℕ → List (List ℕ) → Type 0
LawsOfKept w gs = (p : Program) (n : ℕ) (rs : List (List ℕ)) (c : List ℕ) → Kept w gs p n rs → Law w gs p n c ↔ Ann w (suc p.words) rs c

-- where no step changes the forms found, they keep the points
abbrev pub StableKeeps : ℕ → List (List ℕ) → Type 0
StableKeeps w gs = (p : Program) (fs : ℕ → Form) → Stable w gs p fs → (n : ℕ) → Keeps w gs p n (fs n)

-- each point has a form that keeps it, and of such a form the laws are told
abbrev pub HasForm : ℕ → List (List ℕ) → Type 0
HasForm w gs = (p : Program) (n : ℕ) → Given w gs p → (f : Form) × Keeps w gs p n f

abbrev pub HasRows : ℕ → List (List ℕ) → Type 0
HasRows w gs = (p : Program) (n : ℕ) (f : Form) → Keeps w gs p n f → Best (Law w gs p n) (tell w f)

-- words of w bits and of v, where w is at most v, with nothing given: a law of v bits, modulo 2 ^ w, is one of w bits; and
-- a row is a law of w bits exactly if it is, 2 ^ (v - w) times, one of v bits
abbrev pub cut : ℕ → List ℕ → List ℕ
cut w [] = []
cut w (x ∷ xs) = (x % 2 ^ w) ∷ cut w xs

abbrev pub Narrower : ℕ → ℕ → Type 0
Narrower w v = (p : Program) (n : ℕ) (c : List ℕ) → Law v [] p n c → Law w [] p n (cut w c)

abbrev pub SameLaw : ℕ → ℕ → Type 0
SameLaw w v = (p : Program) (n : ℕ) (c : List ℕ) → T (below (2 ^ w) c) → Law w [] p n c ↔ Law v [] p n (times v (2 ^ (v - w)) c)

pub record Theorems : Type 0 where
  pub one_program : (z : Limits) → OneProgram z
  pub sums_are_laws : (w : ℕ) (gs : List (List ℕ)) → SumsAreLaws w gs
  pub all_laws : (w : ℕ) (gs : List (List ℕ)) → AllLaws w gs
  pub only_rows : (w : ℕ) (gs : List (List ℕ)) → OnlyRows w gs
  pub same_rows : (w : ℕ) (gs : List (List ℕ)) → SameRows w gs
  pub sums_of_states : (w : ℕ) → SumsOfStates w
  pub kept_is_enough : (w : ℕ) (gs : List (List ℕ)) → KeptIsEnough w gs
  pub enough : (w : ℕ) (gs : List (List ℕ)) → 0 < w → Enough w gs
  pub grows_so_often : (w : ℕ) → GrowsSoOften w
  pub fits_as_rows : (w : ℕ) (gs : List (List ℕ)) → 0 < w → FitsAsRows w gs
  pub step_makes : (w : ℕ) → 0 < w → StepMakes w
  pub step_made : (w : ℕ) → 0 < w → StepMade w
  pub adjoint : (w : ℕ) → Adjoint w
  pub laws_of_kept : (w : ℕ) (gs : List (List ℕ)) → LawsOfKept w gs
  pub stable_keeps : (w : ℕ) (gs : List (List ℕ)) → 0 < w → StableKeeps w gs
  pub has_form : (w : ℕ) (gs : List (List ℕ)) → 0 < w → HasForm w gs
  pub has_rows : (w : ℕ) (gs : List (List ℕ)) → 0 < w → HasRows w gs
  pub narrower : (w v : ℕ) → w ≤ v → 0 < w → Narrower w v
  pub same_law : (w v : ℕ) → w ≤ v → 0 < w → SameLaw w v
