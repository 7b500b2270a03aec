-- A program as it lies in its words, and its steps behind the three words of the header.
use Rattle.std.specs.Prelude.{◌≡◌, ℕ, T, List, length}
use Rattle.programs.specs.Plain.{base}
use Rattle.programs.specs.Programs.{Program, Step, valid_steps, encode_steps, Reads}
use Rattle.programs.specs.Reading.{bound}
use Rattle.programs.specs.declared.step.Header.{Header}

pub record Laid (p : Program) (ws : List ℕ) (h : Header) : Type 0 where
  pub reads : Reads base ws p
  pub words : h.words ≡ p.words
  pub points : h.points ≡ p.points
  pub steps : h.steps ≡ length p.steps

-- some program lies so
abbrev pub IsLaid : List ℕ → Header → Type 0
IsLaid ws h = ∥ ((p : Program) × Laid p ws h) ∥₁

-- the words are those of steps of a program with this header
pub record StepsLaid (ss : List Step) (ws : List ℕ) (h : Header) : Type 0 where
  pub valid : T (valid_steps bound h.words h.points ss)
  pub is : ws ≡ encode_steps ss

abbrev pub AreSteps : List ℕ → Header → Type 0
AreSteps ws h = ∥ ((ss : List Step) × StepsLaid ss ws h) ∥₁
