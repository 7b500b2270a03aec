-- Linear algebra over words of w bits.
pub mod Vec
pub mod Rows
pub mod Span
pub mod Inverse
pub mod Form
pub mod Tell
pub mod System
pub mod Theorems
pub mod Examples
