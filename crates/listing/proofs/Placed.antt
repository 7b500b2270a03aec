-- the steps of a program as they lie in its words, and as they are written
use Rattle.std.proofs.Common.{Ok, Err, Result, IsOk, ◌≡◌, ℕ, suc, ◌+◌, ◌-◌, List, [], ◌∷◌, ◌++◌, length, take, drop, sym, refl, ap, ◌∙◌, add-one, arith, Option, ◌<◌, true}
use Rattle.std.proofs.Math.Logic.{∥∥₁_map, ∥∥₁_elim}
use Rattle.std.proofs.lemmas.List.{take_rest}
use Rattle.algebra.proofs.Vec.{and_l, and_r}
use Rattle.programs.specs.declared.step.Header.{Header}
use Rattle.programs.specs.declared.step.Fault.{Fault}
use Rattle.programs.specs.declared.step.Step.{Step as CodeStep}
use Rattle.programs.specs.declared.step.Wrong.{Wrong}
use Rattle.programs.specs.Programs.{Step, Program, valid_step, valid_steps, encode_steps}
use Rattle.programs.specs.Plain.{base}
use Rattle.programs.specs.Reading.{bound, Starts, NoStep, StepSays}
use Rattle.programs.proofs.One.{same_step, valid_all}
use Rattle.listing.specs.Laid.{Laid, IsLaid, StepsLaid, AreSteps}
use Rattle.listing.specs.Names.{with_name}
use Rattle.listing.specs.Steps.{with_steps, with_points}

-- behind the header
abbrev pub behind : ℕ → List ℕ → List ℕ
behind n ws = take (length ws - n) (drop n ws)

pub steps_laid : (p : Program) (ws : List ℕ) (h : Header) → Laid p ws h → StepsLaid p.steps (behind 3 ws) h
steps_laid p ws h l = record { valid = rw (l.words, l.points) (valid_all base p l.reads.fine); is = take_rest ws 3 ∙ sym (ap (drop 3) l.reads.is) }

pub are_steps : (ws : List ℕ) (h : Header) → IsLaid ws h → AreSteps (behind 3 ws) h
are_steps ws h x = ∥∥₁_map x (λ p. (p.0.steps, steps_laid p.0 ws h p.1))

-- the first of the steps that lie there
module _ (ws : List ℕ) (h : Header) where
  pub none_left : length ws ≡ 0 → (ss : List Step) → StepsLaid ss ws h → ss ≡ []
  none_left e [] l = refl
  none_left e (s ∷ rest) l = absurd (omega (arith, ap length l.is))

  module _ (some : 0 < length ws) where
    -- what is read is it
    pub first_taken : (r : Step) (k : ℕ) → Starts h.words h.points ws r k → (ss : List Step) → StepsLaid ss ws h → (rest : List Step) × (ss ≡ r ∷ rest) × StepsLaid rest (behind k ws) h
    first_taken r k t [] l = absurd (omega (arith, ap length l.is))
    first_taken r k t (s ∷ rest) l =
        let e = same_step bound h.words h.points h.points r s (drop k ws) (encode_steps rest) t.valid (and_l (valid_step bound h.words h.points s) (valid_steps bound h.words h.points rest) l.valid) (sym t.is ∙ l.is) in
        (rest, ap (λ (x : Step). x ∷ rest) (sym e.0), record { valid = and_r (valid_step bound h.words h.points s) (valid_steps bound h.words h.points rest) l.valid; is = take_rest ws k ∙ e.1 })

    -- and something is read
    no_fault : (at : ℕ) (e : Fault) → NoStep h.words h.points ws at e → (ss : List Step) → StepsLaid ss ws h → ⊥
    no_fault at e n [] l = omega (arith, ap length l.is)
    no_fault at e n (s ∷ rest) l = n.refutes s (encode_steps rest) (and_l (valid_step bound h.words h.points s) (valid_steps bound h.words h.points rest) l.valid) (ap (take (suc at)) (sym l.is))

    pub reads_first : AreSteps ws h → (r : Result (CodeStep × ℕ) Wrong) → StepSays h.words h.points ws r → IsOk r
    reads_first x (Ok y) says = refl
    reads_first x (Err e) says = absurd (∥∥₁_elim x (λ p q. absurd p) (λ l. no_fault e.at e.fault says l.0 l.1))

    pub steps_behind : AreSteps ws h → (r : Step) (k : ℕ) → Starts h.words h.points ws r k → AreSteps (behind k ws) h
    steps_behind x r k t = ∥∥₁_map x (λ l. let f = first_taken r k t l.0 l.1 in (f.0, f.2))

-- the points, one after the other
pub points_more : (words points : Option (List ℕ)) (ss : List Step) (n i : ℕ) (out : List ℕ) → i < n
    → with_points words points ss (n - i) i out ≡ with_points words points ss (n - (i + 1)) (i + 1) (with_steps words points i true ss (with_name points 112 i out ++ (10 ∷ [])))
points_more words points ss n i out h = let e : n - i ≡ suc (n - (i + 1)) = omega arith in rw (e, add-one)
