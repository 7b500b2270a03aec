-- where no step stands behind the steps that were read, no program goes on
use Rattle.std.proofs.Common.{◌≡◌, ℕ, suc, ◌+◌, ◌-◌, ◌<◌, ◌≤◌, T, List, [], ◌∷◌, ◌++◌, length, take, drop, sym, refl, ap, ◌∙◌, add-suc, arith, length-append, length-drop}
use Rattle.std.proofs.lemmas.List.{take-append-le, length-take-le}
use Rattle.std.proofs.Math.Seq.{take-add, take-append-add}
use Rattle.algebra.proofs.Vec.{and_l, and_i}
use Rattle.programs.specs.declared.step.Limits as code_limits
use Rattle.programs.specs.declared.step.Fault.{Fault}
use Rattle.programs.specs.declared.step.Fault.TheVariants.{Ends, Words, Points, Steps, Point, Kind, Word, Longer}
use Rattle.programs.specs.Programs.{Step, Program, valid_step, valid_steps, valid, encode_step, encode_steps, encode}
use Rattle.programs.specs.Reading.{bound, limits_of, StepFault, NoStep, Before, ProgramFault, NoProgram}
use Rattle.programs.proofs.StepsWords.{idle, idle_long, idle_valid}
use Rattle.programs.proofs.ProgramWords.{program, goes_on, with_others, program_fits, no_program}

module _ (z : code_limits.Limits) (ws : List ℕ) (k m n : ℕ) (ss : List Step) (a : ℕ) (b : Before (limits_of z) ws k m n ss a) where
  -- what is wrong with the step is wrong with the program
  fault_is : (i : ℕ) (f : Fault) → StepFault k m (drop a ws) i f → ProgramFault (limits_of z) ws (a + i) f
  fault_is i Ends h = omega (arith, length-drop a ws, b.within)
  fault_is i Words h = absurd h
  fault_is i Points h = absurd h
  fault_is i Steps h = absurd h
  fault_is i Point h = (k, m, n, ss, a, i, b, refl, h)
  fault_is i Kind h = (k, m, n, ss, a, i, b, refl, h)
  fault_is i Word h = (k, m, n, ss, a, i, b, refl, h)
  fault_is i Longer h = absurd h

  -- a program that begins with the steps and with a part of one more: steps that change nothing make up its number
  completed : length ss < n → (s : Step) (i : ℕ) → T (valid_step bound k m s) → i ≤ length (encode_step s)
      → take i (encode_step s) ≡ take i (drop a ws)
      → (p : Program) × T (valid (limits_of z) p) × (a + i ≤ length (encode p)) × (take (a + i) (encode p) ≡ take (a + i) ws)
  completed l s i v r e = (program k m (ss ++ ts), program_fits (limits_of z) ws k m n ss a b ts many fits, omega (arith, ap length is, length-append (take a ws) (encode_steps ts), length-append (encode_step s) (encode_steps rest), cut), same)
    where
      rest : List Step
      rest = idle (n - suc (length ss))

      ts : List Step
      ts = s ∷ rest

      many : length ss + length ts ≡ n
      many = omega (arith, idle_long (n - suc (length ss)))

      fits : T (valid_steps bound k m ts)
      fits = and_i (valid_step bound k m s) (valid_steps bound k m rest) v (idle_valid k m (n - suc (length ss)) (omega (arith, b.points)))

      is : encode (program k m (ss ++ ts)) ≡ take a ws ++ encode_steps ts
      is = with_others (limits_of z) ws k m n ss a b ts many

      cut : length (take a ws) ≡ a
      cut = length-take-le a ws b.within

      same : take (a + i) (encode (program k m (ss ++ ts))) ≡ take (a + i) ws
      same =
          ap (take (a + i)) is
          ∙ (rw cut at (take-append-add (take a ws) (encode_steps ts) i))
          ∙ ap (λ (x : List ℕ). take a ws ++ x) (take-append-le i (encode_step s) (encode_steps rest) r ∙ e)
          ∙ sym (take-add a i ws)

  -- the first word that no step has there is the first that no program has
  pub wrong_step : length ss < n → (i : ℕ) (f : Fault) → NoStep k m (drop a ws) i f → NoProgram (limits_of z) ws (a + i) f
  wrong_step l i f h = no_program (limits_of z) ws (a + i) f (omega (arith, h.within, b.within, length-drop a ws)) refute (λ x y. let t = h.begins (omega (arith, b.words)) (omega (arith, b.points)) in completed l t.0 i t.1 t.2 t.3) (fault_is i f h.why)
    where
      none : (os : List Step) → length ss + length os ≡ n → T (valid_steps bound k m os) → take (suc i) (encode_steps os) ≡ take (suc i) (drop a ws) → ⊥
      none [] e v w = omega arith
      none (o ∷ os) e v w = h.refutes o (encode_steps os) (and_l (valid_step bound k m o) (valid_steps bound k m os) v) w

      refute : (p : Program) → T (valid (limits_of z) p) → take (suc (a + i)) (encode p) ≡ take (suc (a + i)) ws → ⊥
      refute p v w = let g = goes_on (limits_of z) ws k m n ss a b (suc i) p v (rw add-suc w) in none g.others g.long g.valid g.words
