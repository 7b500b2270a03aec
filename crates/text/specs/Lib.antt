pub mod Bytes
pub mod Turns
pub mod Storing
pub mod Entries
pub mod Numbers
pub mod Places
pub mod Tokens
pub mod Lines
