pub mod Falls
pub mod Modes
