pub mod Readback
pub mod Settling
pub mod Reading
pub mod Starts
pub mod Parts
pub mod Prefixes
pub mod Found
