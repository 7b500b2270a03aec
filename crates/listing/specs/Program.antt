-- A program of specs/ as the code has it, and its steps that are left.
use Rattle.std.specs.Prelude.{◌≡◌, List, [], ◌∷◌, Some, None, Option}
use Rattle.programs.specs.declared.step.Step.{Step as CodeStep}
use Rattle.programs.specs.Programs.{Program, Step}
use Rattle.programs.specs.Reading.{step_of}
use Rattle.listing.specs.Laid.{Laid, StepsLaid}
use Rattle.listing.specs.declared.program.Program.{Program as ProgramIn}
use Rattle.listing.specs.declared.program.Steps.{Steps}

-- the program p is the one that stands there
abbrev pub LaidIn : Program → ProgramIn → Type 0
LaidIn p x = Laid p x.words.now x.header

-- the steps ss are those that are left
abbrev pub AreLeft : List Step → Steps → Type 0
AreLeft ss x = StepsLaid ss x.words.now x.header

-- the first of the steps that are left is taken, and those behind it are left then
abbrev pub TakesFirst : Steps → Option CodeStep → Steps → Type 0
TakesFirst x None y = (ss : List Step) → AreLeft ss x → ss ≡ []
TakesFirst x (Some s) y = (ss : List Step) → AreLeft ss x → (rest : List Step) × (ss ≡ step_of s ∷ rest) × AreLeft rest y
