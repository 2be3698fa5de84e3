pub mod Reached
pub mod Below
