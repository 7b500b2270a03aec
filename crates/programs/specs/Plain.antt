-- The definitions with no parameter, for the base: words of 32 bits, at most 16 words, 256 points and 1,024 steps, and any
-- words at first. A reader who wants to know what is promised can begin here: `Plain` says that they are the general
-- definitions at these numbers, and what holds of them.
use Rattle.std.specs.Prelude.{◌≡◌, ℕ, suc, ◌+◌, ◌*◌, ◌%◌, ◌<◌, ◌≤◌, T, ◌↔◌, List, [], ◌∷◌, length, replicate}
use Rattle.algebra.specs.Vec.{below}
use Rattle.algebra.specs.Rows.{Best}
use Rattle.programs.specs.Programs.{Limits, Action, set, any, skip, Step, Program, Reads}
use Rattle.programs.specs.Runs as runs
use Rattle.programs.specs.Runs.{State, put, At}
use Rattle.programs.specs.Kept.{ones}

abbrev pub modulus : ℕ
modulus = 4294967296

abbrev pub base : Limits
base = record { max_words = 16; max_points = 256; max_steps = 1024; bound = modulus }

abbrev pub dot : List ℕ → List ℕ → ℕ
dot [] xs = 0
dot (c ∷ cs) [] = 0
dot (c ∷ cs) (x ∷ xs) = (c * x + dot cs xs) % modulus

abbrev pub Words : ℕ → State → Type 0
Words k s = (length s ≡ k) × T (below modulus s)

pub data Makes : Action → State → State → Type 0 where
  makes_set : {x : ℕ} {cs s : List ℕ} → Makes (set x cs) s (put s x (dot cs (1 ∷ s)))
  makes_any : {x v : ℕ} {s : List ℕ} → v < modulus → Makes (any x) s (put s x v)
  makes_skip : {s : List ℕ} → Makes skip s s

pub data Comes (p : Program) : ℕ → State → Type 0 where
  begins : {s : State} → Words p.words s → Comes p 0 s
  goes : {s u : State} {t : Step} {i : ℕ} → Comes p t.from s → At t i p.steps → Makes t.action s u → Comes p t.to u

abbrev pub Law : Program → ℕ → List ℕ → Type 0
Law p n c = (length c ≡ suc p.words) × T (below modulus c) × ((s : State) → Comes p n s → dot c (1 ∷ s) ≡ 0)

abbrev pub plus : List ℕ → List ℕ → List ℕ
plus [] ys = []
plus (x ∷ xs) [] = []
plus (x ∷ xs) (y ∷ ys) = ((x + y) % modulus) ∷ plus xs ys

abbrev pub times : ℕ → List ℕ → List ℕ
times k [] = []
times k (x ∷ xs) = ((k * x) % modulus) ∷ times k xs

abbrev pub sum : ℕ → List ℕ → List (List ℕ) → List ℕ
sum n [] rs = replicate n 0
sum n (k ∷ ks) [] = replicate n 0
sum n (k ∷ ks) (r ∷ rs) = plus (times k r) (sum n ks rs)

abbrev pub mix : ℕ → List ℕ → List State → List ℕ
mix k ws ss = sum (suc k) ws (ones ss)

pub data AllCome (p : Program) (n : ℕ) : List State → Type 0 where
  none_come : AllCome p n []
  one_more : {s : State} {ss : List State} → Comes p n s → AllCome p n ss → AllCome p n (s ∷ ss)

pub record Plain : Type 0 where
  -- the general definitions at 32 bits, with nothing given
  pub same_comes : (p : Program) (n : ℕ) (s : State) → Comes p n s ↔ runs.Comes 32 [] p n s
  pub same_law : (p : Program) (n : ℕ) (c : List ℕ) → Law p n c ↔ runs.Law 32 [] p n c
  -- words are at most one program
  pub one_program : (ws : List ℕ) (p q : Program) → Reads base ws p → Reads base ws q → p ≡ q
  -- sums of laws are laws; every law is a sum of the best rows; and these are unique
  pub sums_are_laws : (p : Program) (n k : ℕ) (c d : List ℕ) → Law p n c → Law p n d → Law p n (plus c (times k d))
  pub all_laws : (p : Program) (n : ℕ) (rs : List (List ℕ)) (c : List ℕ) → Best (Law p n) rs → Law p n c
      → (ks : List ℕ) × (length ks ≡ length rs) × (sum (suc p.words) ks rs ≡ c)
  pub only_rows : (p : Program) (n : ℕ) (rs ss : List (List ℕ)) → Best (Law p n) rs → Best (Law p n) ss → rs ≡ ss
  -- every point has them
  pub has_rows : (p : Program) (n : ℕ) → (rs : List (List ℕ)) × Best (Law p n) rs
  -- a law holds of sums of states with weights that come to 1, and 32 states for each place are enough
  pub kept_by_sums : (p : Program) (n : ℕ) (c u : List ℕ) (ws : List ℕ) (ss : List State) → Law p n c → AllCome p n ss
      → length ws ≡ length ss → mix p.words ws ss ≡ 1 ∷ u → dot c (1 ∷ u) ≡ 0
  pub enough : (ws : List ℕ) (p : Program) (n : ℕ) → Reads base ws p
      → (ss : List State) × AllCome p n ss × (length ss ≤ 32 * suc p.words)
      × ((u : State) → Comes p n u → (ks : List ℕ) × (length ks ≡ length ss) × (mix p.words ks ss ≡ 1 ∷ u))
