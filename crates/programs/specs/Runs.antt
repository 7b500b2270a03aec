-- Runs of a program with words of w bits, and the laws of its points.
use Rattle.std.specs.Prelude.{◌≡◌, ℕ, zero, suc, ◌^◌, ◌<◌, List, [], ◌∷◌}
use Rattle.algebra.specs.Vec.{dot}
use Rattle.algebra.specs.Span.{Fit, Each}
use Rattle.programs.specs.Programs.{Action, set, any, skip, Step, Program}

-- the values of a program's words
abbrev pub State : Type 0
State = List ℕ

-- one place of a list written
abbrev pub put : {A : Type 0} → List A → ℕ → A → List A
put [] n v = []
put (x ∷ xs) zero v = v ∷ xs
put (x ∷ xs) (suc n) v = x ∷ put xs n v

-- what an action can make of a state: all of its words are read before one is written
pub data Makes (w : ℕ) : Action → State → State → Type 0 where
  makes_set : {x : ℕ} {cs s : List ℕ} → Makes w (set x cs) s (put s x (dot w cs (1 ∷ s)))
  makes_any : {x v : ℕ} {s : List ℕ} → v < 2 ^ w → Makes w (any x) s (put s x v)
  makes_skip : {s : List ℕ} → Makes w skip s s

-- t is step number i of the list
pub data At (t : Step) : ℕ → List Step → Type 0 where
  at_first : {ss : List Step} → At t 0 (t ∷ ss)
  at_later : {i : ℕ} {s : Step} {ss : List Step} → At t i ss → At t (suc i) (s ∷ ss)

-- the given rows hold of a state: each comes to 0 with 1 and the words
abbrev pub Holds : ℕ → List (List ℕ) → State → Type 0
Holds w gs s = Each (λ (g : List ℕ). dot w g (1 ∷ s) ≡ 0) gs

-- a step taken in a run: its number, and the words after it
pub record Move : Type 0 where
  pub number : ℕ
  pub after : State

-- a run, its last move first: it begins at point 0 with any words of which the rows gs hold (any words, if none is
-- given), and takes any steps that go on from where it is
pub data Run (w : ℕ) (gs : List (List ℕ)) (p : Program) : List Move → ℕ → State → Type 0 where
  begins : {s : State} → Fit w p.words s → Holds w gs s → Run w gs p [] 0 s
  goes : {ms : List Move} {s u : State} {t : Step} {i : ℕ} → Run w gs p ms t.from s → At t i p.steps → Makes w t.action s u
      → Run w gs p (record { number = i; after = u } ∷ ms) t.to u

-- a run comes to point n with the state s
pub record Comes (w : ℕ) (gs : List (List ℕ)) (p : Program) (n : ℕ) (s : State) : Type 0 where
  pub moves : List Move
  pub run : Run w gs p moves n s

-- a law of a point: a number and a factor for each word, which come to 0 with every state that comes there
pub record Law (w : ℕ) (gs : List (List ℕ)) (p : Program) (n : ℕ) (c : List ℕ) : Type 0 where
  pub fits : Fit w (suc p.words) c
  pub holds : (s : State) → Comes w gs p n s → dot w c (1 ∷ s) ≡ 0
