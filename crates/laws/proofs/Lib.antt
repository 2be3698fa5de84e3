pub mod Demands
pub mod Yard
