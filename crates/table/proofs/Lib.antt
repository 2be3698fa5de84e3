pub mod Entries
pub mod Worlds
pub mod Zeros
pub mod Form
pub mod Passes
