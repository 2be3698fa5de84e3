pub mod Entries
pub mod Writes
