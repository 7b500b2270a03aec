-- the reading of a program, turn by turn: what is known before a turn, and what the turn makes of it
use Rattle.std.proofs.Common.{◌≡◌, ℕ, ◌+◌, ◌<◌, ◌≤◌, List, [], ◌∷◌, ◌++◌, length, drop, set, sym, refl, ◌∙◌, inr, arith, length-append}
use Rattle.programs.specs.declared.step.Fault.{Fault}
use Rattle.programs.specs.declared.step.Fault.TheVariants.{Longer}
use Rattle.programs.specs.declared.step.Limits as code_limits
use Rattle.programs.specs.declared.step.Wrong.{Wrong}
use Rattle.programs.specs.Programs.{Limits, Step, Program, Reads}
use Rattle.programs.specs.Reading.{bound, limits_of, Starts, NoStep, Before, NoProgram, Started, Left}
use Rattle.programs.proofs.ProgramWords.{program, more, reads, longer}
use Rattle.programs.proofs.ProgramRead.{wrong_step}
use Rattle.programs.proofs.Where.{started_more, started_full}

-- the counts of the header as limits: the loop has no others at hand
abbrev pub own : ℕ → ℕ → ℕ → Limits
own k m n = record { max_words = k; max_points = m; max_steps = n; bound = bound }

-- i steps stand before the word `at`, and their starts are written
pub record Turn (ws : List ℕ) (k m n i at : ℕ) (o o' : List ℕ) : Type 0 where
  pub steps : List Step
  pub many : length steps ≡ i
  pub before : Before (own k m n) ws k m n steps at
  pub started : Started steps o o'

module _ (ws : List ℕ) (k m n i at : ℕ) (o o' : List ℕ) (t : Turn ws k m n i at o o') where
  abbrev one_more : Step → List Step
  one_more s = t.steps ++ s ∷ []

  count : (s : Step) → length (one_more s) ≡ i + 1
  count s = omega (arith, length-append t.steps (s ∷ []), t.many)

  next : i < n → (s : Step) (j : ℕ) → Starts k m (drop at ws) s j → Before (own k m n) ws k m n (one_more s) (at + j)
  next l s j h = more (own k m n) ws k m n t.steps at t.before (omega (arith, t.many)) s j h.valid h.is h.size h.within

  pub turn_more : i < n → (s : Step) (j : ℕ) → Starts k m (drop at ws) s j → Turn ws k m n (i + 1) (at + j) o (set o' i at)
  turn_more l s j h = record { steps = one_more s; many = count s; before = next l s j h; started = rw (← t.many) (started_more t.steps s o o' t.started at (sym t.before.size)) }

  pub turn_full : i < n → length o ≤ i → (s : Step) (j : ℕ) → Starts k m (drop at ws) s j → Turn ws k m n (i + 1) (at + j) o o'
  turn_full l r s j h = record { steps = one_more s; many = count s; before = next l s j h; started = started_full t.steps s o o' t.started (omega (arith, t.many)) }

  -- under the limits that the header was read with
  module _ (z : code_limits.Limits) (b : Before (limits_of z) ws k m n [] 3) where
    wide : Before (limits_of z) ws k m n t.steps at
    wide = record { words = b.words; points = b.points; steps = b.steps; many = t.before.many; valid = t.before.valid; is = t.before.is; size = t.before.size; within = t.before.within }

    fault_there : i < n → (j : ℕ) (f : Fault) → NoStep k m (drop at ws) j f → NoProgram (limits_of z) ws (at + j) f × Left (limits_of z) ws (at + j) o o'
    fault_there l j f h = (wrong_step z ws k m n t.steps at wide (omega (arith, t.many)) j f h, inr (k, m, n, t.steps, at, wide, omega arith, t.started))

    -- the step's fault d, told as the program's fault e
    pub turn_wrong : i < n → (d e : Wrong) → e.at ≡ at + d.at → e.fault ≡ d.fault → NoStep k m (drop at ws) d.at d.fault
        → NoProgram (limits_of z) ws e.at e.fault × Left (limits_of z) ws e.at o o'
    turn_wrong l d e place same h = rw (place, same) (fault_there l d.at d.fault h)

    pub turn_longer : i ≡ n → at < length ws → NoProgram (limits_of z) ws at Longer × Left (limits_of z) ws at o o'
    turn_longer e l = (longer (limits_of z) ws k m n t.steps at wide (t.many ∙ e) l, inr (k, m, n, t.steps, at, wide, omega arith, t.started))

    pub turn_last : i ≡ n → length ws ≤ at → (p : Program) × Reads (limits_of z) ws p × (k ≡ p.words) × (m ≡ p.points) × (n ≡ length p.steps) × Started p.steps o o'
    turn_last e l = (program k m t.steps, reads (limits_of z) ws k m n t.steps at wide (t.many ∙ e) (omega (arith, t.before.within)), refl, refl, sym (t.many ∙ e), t.started)
