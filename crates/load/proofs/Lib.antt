pub mod Appending
pub mod Machines
