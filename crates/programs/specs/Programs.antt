-- Programs over words that wrap, and programs as words: points, and steps between them.
use Rattle.std.specs.Prelude.{◌≡◌, ℕ, suc, Bool, true, ◌&&◌, T, List, [], ◌∷◌, ◌++◌, length, ◌==◌, nat_le, nat_lt}
use Rattle.algebra.specs.Vec.{below}

-- how large a program may be, and what its numbers are below
pub record Limits : Type 0 where
  pub max_words : ℕ
  pub max_points : ℕ
  pub max_steps : ℕ
  pub bound : ℕ

-- what a step does: a word becomes a number and so much of each word; a word becomes anything; or nothing changes.
-- The list of `set` has the number first, then a factor for each word
pub data Action : Type 0 where
  set : ℕ → List ℕ → Action
  any : ℕ → Action
  skip : Action

pub record Step : Type 0 where
  pub from : ℕ
  pub to : ℕ
  pub action : Action

pub record Program : Type 0 where
  pub words : ℕ
  pub points : ℕ
  pub steps : List Step

-- what is a program, with k words, m points and numbers below b
abbrev pub valid_action : ℕ → ℕ → Action → Bool
valid_action b k (set x cs) = nat_lt x k && (length cs == suc k && below b cs)
valid_action b k (any x) = nat_lt x k
valid_action b k skip = true

abbrev pub valid_step : ℕ → ℕ → ℕ → Step → Bool
valid_step b k m s = (nat_lt s.from m && nat_lt s.to m) && valid_action b k s.action

abbrev pub valid_steps : ℕ → ℕ → ℕ → List Step → Bool
valid_steps b k m [] = true
valid_steps b k m (s ∷ ss) = valid_step b k m s && valid_steps b k m ss

abbrev pub valid : Limits → Program → Bool
valid z p =
    (nat_le 1 p.words && nat_le p.words z.max_words)
    && ((nat_le 1 p.points && nat_le p.points z.max_points) && (nat_le (length p.steps) z.max_steps && valid_steps z.bound p.words p.points p.steps))

-- a program as words: how many words, points and steps; then each step: from, to, and 0 word number factors, 1 word, or 2
abbrev pub encode_action : Action → List ℕ
encode_action (set x cs) = 0 ∷ x ∷ cs
encode_action (any x) = 1 ∷ x ∷ []
encode_action skip = 2 ∷ []

abbrev pub encode_step : Step → List ℕ
encode_step s = s.from ∷ s.to ∷ encode_action s.action

abbrev pub encode_steps : List Step → List ℕ
encode_steps [] = []
encode_steps (s ∷ ss) = encode_step s ++ encode_steps ss

abbrev pub encode : Program → List ℕ
encode p = p.words ∷ p.points ∷ length p.steps ∷ encode_steps p.steps

-- the words are the program
pub record Reads (z : Limits) (ws : List ℕ) (p : Program) : Type 0 where
  pub is : encode p ≡ ws
  pub fine : T (valid z p)

-- words are at most one program
abbrev pub OneProgram : Limits → Type 0
OneProgram z = (ws : List ℕ) (p q : Program) → Reads z ws p → Reads z ws q → p ≡ q
