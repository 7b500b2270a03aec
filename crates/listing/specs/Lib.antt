-- How programs, and what is wrong with a text, are written for people.
pub mod Names
pub mod Naming
pub mod Sums
pub mod Steps
pub mod Laid
pub mod Program
pub mod Report
pub mod Quotes
pub mod Messages
pub mod Shown
