pub mod Holding
pub mod Owning
