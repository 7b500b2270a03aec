-- Programs over words that wrap: their form as words, their runs, their laws.
pub mod Programs
pub mod Reading
pub mod Single
pub mod Reader
pub mod Runs
pub mod Kept
pub mod Theorems
pub mod Plain
pub mod Cases
