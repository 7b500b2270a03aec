-- the three counts that a program begins with, or the first that no program has
use Rattle.std.proofs.Common.{◌≡◌, ℕ, suc, ◌<◌, ◌≤◌, ◌&&◌, T, leb, ◌⊎◌, List, [], ◌∷◌, length, get_or, take, refl, ap, subst, ◌∙◌, inl, inr, arith, leb→le}
use Rattle.std.specs.declared.ops.Bound.{Bound}
use Rattle.std.specs.declared.ops.Bound.TheVariants.{Included, Excluded, Unbounded}
use Rattle.std.specs.Range.Bound.{MatchBound}
use Rattle.algebra.proofs.Vec.{and_l, and_r, cons_≡}
use Rattle.programs.specs.declared.step.Fault.{Fault}
use Rattle.programs.specs.declared.step.Fault.TheVariants.{Ends, Words, Points, Steps}
use Rattle.programs.specs.declared.step.Wrong.{Wrong}
use Rattle.programs.specs.Programs.{Limits, Program, valid_steps, valid, encode}
use Rattle.programs.specs.Reading.{Before, ProgramFault, NoProgram}
use Rattle.programs.specs.Single.{Missing, Inside, Outside, InRange, OutOfRange}
use Rattle.programs.proofs.Cuts.{same_at, same_reach, three}
use Rattle.programs.proofs.ProgramWords.{program, valid_program, no_program}

-- no number is both in a range and outside
from_start : (start : Bound ℕ) (n : ℕ) → MatchBound start (λ a. a ≤ n) (λ a. a < n) (Unit {0}) → MatchBound start (λ a. n < a) (λ a. n ≤ a) ⊥ → ⊥
from_start (Included a) n p q = omega arith
from_start (Excluded a) n p q = omega arith
from_start Unbounded n p q = q

up_to_end : (end : Bound ℕ) (n : ℕ) → MatchBound end (λ b. n ≤ b) (λ b. n < b) (Unit {0}) → MatchBound end (λ b. b < n) (λ b. b ≤ n) ⊥ → ⊥
up_to_end (Included b) n p q = omega arith
up_to_end (Excluded b) n p q = omega arith
up_to_end Unbounded n p q = q

apart : (start end : Bound ℕ) (n : ℕ) → InRange start end n → OutOfRange start end n → ⊥
apart start end n p (inl q) = from_start start n p.0 q
apart start end n p (inr q) = up_to_end end n p.1 q

-- a count from 1 to `most`
abbrev Count : List ℕ → ℕ → ℕ → ℕ → Type 0
Count ws at most n = Inside ws at (Included 1) (Included most) n

module _ (z : Limits) where
  -- the counts of a program are in their limits
  words_in : (p : Program) → T (valid z p) → (1 ≤ p.words) × (p.words ≤ z.max_words)
  words_in p v = let t = and_l (leb 1 p.words && leb p.words z.max_words) ((leb 1 p.points && leb p.points z.max_points) && (leb (length p.steps) z.max_steps && valid_steps z.bound p.words p.points p.steps)) v in
      (leb→le 1 p.words (and_l (leb 1 p.words) (leb p.words z.max_words) t), leb→le p.words z.max_words (and_r (leb 1 p.words) (leb p.words z.max_words) t))

  others : (p : Program) → T (valid z p)
      → T ((leb 1 p.points && leb p.points z.max_points) && (leb (length p.steps) z.max_steps && valid_steps z.bound p.words p.points p.steps))
  others p v = and_r (leb 1 p.words && leb p.words z.max_words) ((leb 1 p.points && leb p.points z.max_points) && (leb (length p.steps) z.max_steps && valid_steps z.bound p.words p.points p.steps)) v

  points_in : (p : Program) → T (valid z p) → (1 ≤ p.points) × (p.points ≤ z.max_points)
  points_in p v = let t = and_l (leb 1 p.points && leb p.points z.max_points) (leb (length p.steps) z.max_steps && valid_steps z.bound p.words p.points p.steps) (others p v) in
      (leb→le 1 p.points (and_l (leb 1 p.points) (leb p.points z.max_points) t), leb→le p.points z.max_points (and_r (leb 1 p.points) (leb p.points z.max_points) t))

  steps_in : (p : Program) → T (valid z p) → Unit {0} × (length p.steps ≤ z.max_steps)
  steps_in p v = let t = and_r (leb 1 p.points && leb p.points z.max_points) (leb (length p.steps) z.max_steps && valid_steps z.bound p.words p.points p.steps) (others p v) in
      (tt, leb→le (length p.steps) z.max_steps (and_l (leb (length p.steps) z.max_steps) (valid_steps z.bound p.words p.points p.steps) t))

  abbrev Begun : List ℕ → ℕ → Type 0
  Begun ws at = 1 ≤ z.max_words → 1 ≤ z.max_points → (p : Program) × T (valid z p) × (at ≤ length (encode p)) × (take at (encode p) ≡ take at ws)

  abbrev WrongAt : List ℕ → Wrong → Type 0
  WrongAt ws e = NoProgram z ws e.at e.fault × (e.at < 3)

  wrong : (ws : List ℕ) (at : ℕ) (start end : Bound ℕ) (f : Fault) (e : Wrong) → at < 3 → ((p : Program) → T (valid z p) → InRange start end (get_or (encode p) at 0)) → Begun ws at
      → (OutOfRange start end (get_or ws at 0) → ProgramFault z ws at f) → Missing ws at e ⊎ Outside ws at start end f e → WrongAt ws e
  wrong ws at start end f e l stays begun why (inl h) =
      (rw (h.here, h.fault) (no_program z ws at Ends (omega (arith, h.ends)) (λ p v w. omega (arith, h.ends, same_reach at (encode p) ws w (omega arith))) begun h.ends), omega (arith, h.here))
  wrong ws at start end f e l stays begun why (inr h) =
      (rw (h.here, h.fault) (no_program z ws at f (omega (arith, h.within)) (λ p v w. apart start end (get_or ws at 0) (subst (InRange start end) (same_at (suc at) at (encode p) ws w (omega arith)) (stays p v)) h.outside) begun (why h.outside)), omega (arith, h.here))

  valid_empty : (k m : ℕ) → (1 ≤ k) × (k ≤ z.max_words) → (1 ≤ m) × (m ≤ z.max_points) → T (valid z (program k m []))
  valid_empty k m p q = valid_program z k m [] p q (omega arith) tt

  zero_or : {n most : ℕ} → (n < 1) ⊎ (most < n) → (n ≡ 0) ⊎ (most < n)
  zero_or (inl h) = inl (omega arith)
  zero_or (inr h) = inr h

  pub wrong_words : (ws : List ℕ) (e : Wrong) → Missing ws 0 e ⊎ Outside ws 0 (Included 1) (Included z.max_words) Words e → WrongAt ws e
  wrong_words ws e = wrong ws 0 (Included 1) (Included z.max_words) Words e (omega arith) words_in (λ x y. (program 1 1 [], valid_empty 1 1 (omega arith, x) (omega arith, y), omega arith, refl)) (λ o. (refl, zero_or o))

  begun_1 : (ws : List ℕ) (k : ℕ) → Count ws 0 z.max_words k → Begun ws 1
  begun_1 [] k p x y = absurd (omega arith)
  begun_1 (w ∷ ws) k p x y = (program w 1 [], valid_empty w 1 (omega arith, omega arith) (omega arith, y), omega arith, refl)

  pub wrong_points : (ws : List ℕ) {k : ℕ} → Count ws 0 z.max_words k → (e : Wrong) → Missing ws 1 e ⊎ Outside ws 1 (Included 1) (Included z.max_points) Points e → WrongAt ws e
  wrong_points ws {k} p e = wrong ws 1 (Included 1) (Included z.max_points) Points e (omega arith) points_in (begun_1 ws k p) (λ o. (refl, zero_or o))

  begun_2 : (ws : List ℕ) (k m : ℕ) → Count ws 0 z.max_words k → Count ws 1 z.max_points m → Begun ws 2
  begun_2 [] k m p q x y = absurd (omega arith)
  begun_2 (w ∷ []) k m p q x y = absurd (omega arith)
  begun_2 (w ∷ v ∷ ws) k m p q x y = (program w v [], valid_empty w v (omega arith, omega arith) (omega arith, omega arith), omega arith, refl)

  steps_over : (ws : List ℕ) → ⊥ ⊎ (z.max_steps < get_or ws 2 0) → ProgramFault z ws 2 Steps
  steps_over ws (inl h) = absurd h
  steps_over ws (inr h) = (refl, h)

  module _ (ws : List ℕ) {k m : ℕ} (p : Count ws 0 z.max_words k) (q : Count ws 1 z.max_points m) where
    pub wrong_steps : (e : Wrong) → Missing ws 2 e ⊎ Outside ws 2 Unbounded (Included z.max_steps) Steps e → WrongAt ws e
    wrong_steps e = wrong ws 2 Unbounded (Included z.max_steps) Steps e (omega arith) steps_in (begun_2 ws k m p q) (steps_over ws)

    -- the header, with no step yet
    pub header : {n : ℕ} → Inside ws 2 Unbounded (Included z.max_steps) n → Before z ws k m n [] 3
    header r = record {
      words = p.inside;
      points = q.inside;
      steps = r.inside.1;
      many = omega arith;
      valid = tt;
      is = ap (take 3) (three ws r.within) ∙ cons_≡ p.is (cons_≡ q.is (cons_≡ r.is refl));
      size = refl;
      within = omega (arith, r.within);
    }
