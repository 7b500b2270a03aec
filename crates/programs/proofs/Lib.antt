-- words as programs
pub mod Cuts
pub mod One
pub mod StepWords
pub mod StepsWords
pub mod ProgramWords
pub mod StepRead
pub mod HeaderRead
pub mod ProgramRead
pub mod Refusals
pub mod Where
pub mod Turns
-- runs and laws
pub mod States
pub mod Sums
pub mod Steps
pub mod Taken
pub mod Adjoint
pub mod Start
pub mod Visit
pub mod Keep
pub mod Few
pub mod Width
-- what is promised
pub mod At32
pub mod Invariants
pub mod Worked
pub mod Proved
