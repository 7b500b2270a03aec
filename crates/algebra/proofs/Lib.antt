-- numbers modulo 2 ^ w, and vectors of them
pub mod Modular
pub mod Units
pub mod Vec
pub mod Sums
pub mod LastPlace
-- rows: leads, spans, best rows of a closed set
pub mod Rows
pub mod Span
pub mod Only
pub mod Best
-- forms: insertion, what a form spans, how often it can grow
pub mod Fit
pub mod Insert
pub mod FormSpans
pub mod Insertions
pub mod Growth
-- the annihilator of a form and of rows
pub mod Tell
pub mod Annihilators
pub mod Unchanged
-- linear maps and systems
pub mod Maps
pub mod Generated
pub mod Closure
pub mod System
-- what is promised
pub mod Examples
pub mod Proved
