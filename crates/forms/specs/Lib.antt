-- Howell forms in lent words.
pub mod Flat
pub mod Meaning
pub mod Clearing
pub mod Insertion
pub mod Laws
