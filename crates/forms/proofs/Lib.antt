-- words: inverses, and what cancels a sum
pub mod Inverses
pub mod Cancels
-- rows added and multiplied in place
pub mod RowSums
-- tables read as forms
pub mod Reading
pub mod Clearing
-- a row inserted: one place, all places, what it means
pub mod Turns
pub mod Inserts
pub mod Grown
-- laws told: the loops and the model, what it means
pub mod Telling
pub mod TableLaws
