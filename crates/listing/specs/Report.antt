-- What is told of a text that holds a program's words.
use Rattle.std.specs.Prelude.{◌≡◌, ℕ, List, Some, None, Ok, Err, Result}
use Rattle.programs.specs.Plain.{base}
use Rattle.programs.specs.Programs.{Program, Reads}
use Rattle.programs.specs.Reading.{NoProgram}
use Rattle.text.specs.Numbers.{meaning_of}
use Rattle.listing.specs.declared.program.Program.{Program as ProgramIn}
use Rattle.listing.specs.declared.refusal.Refusal.{Refusal}
use Rattle.listing.specs.declared.refusal.Refusal.TheVariants.{Memory, Number, Program as NotProgram, WordNames, PointNames}
use Rattle.listing.specs.Program.{LaidIn}
use Rattle.listing.specs.Names.{Fitting, Misfit, word_names, point_names}
use Rattle.listing.specs.Steps.{with_points}

-- the program that the text holds, where there is room for so many numbers
pub record Holds (room : ℕ) (text : List ℕ) (p : Program) : Type 0 where
  pub clean : (meaning_of room text).flaw ≡ None
  pub reads : Reads base (meaning_of room text).numbers p

-- the program that a text holds, where there is room for so many numbers
abbrev pub TextSays : List ℕ → ℕ → Result ProgramIn Refusal → Type 0
TextSays text room (Ok x) = (p : Program) × Holds room text p × LaidIn p x
TextSays text room (Err Memory) = ⊥
TextSays text room (Err (Number f)) = (meaning_of room text).flaw ≡ Some f
TextSays text room (Err (NotProgram e)) = ((meaning_of room text).flaw ≡ None) × NoProgram base (meaning_of room text).numbers e.at e.fault
TextSays text room (Err (WordNames n)) = ⊥
TextSays text room (Err (PointNames n)) = ⊥

abbrev pub StepsSay : ℕ → List ℕ → List ℕ → List ℕ → Result Unit Refusal → Type 0
StepsSay room text out out' (Ok _) =
    (p : Program) × Holds room text p × Fitting (word_names text) p.words × Fitting (point_names text) p.points
    × (out' ≡ with_points (word_names text) (point_names text) p.steps p.points 0 out)
StepsSay room text out out' (Err Memory) = Unit {0}
StepsSay room text out out' (Err (Number f)) = ((meaning_of room text).flaw ≡ Some f) × (out' ≡ out)
StepsSay room text out out' (Err (NotProgram e)) = ((meaning_of room text).flaw ≡ None) × NoProgram base (meaning_of room text).numbers e.at e.fault × (out' ≡ out)
StepsSay room text out out' (Err (WordNames n)) = (p : Program) × Holds room text p × Misfit (word_names text) p.words n × (out' ≡ out)
StepsSay room text out out' (Err (PointNames n)) = (p : Program) × Holds room text p × Fitting (word_names text) p.words × Misfit (point_names text) p.points n × (out' ≡ out)
