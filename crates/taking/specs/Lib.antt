pub mod Fallen
pub mod Taken
