pub mod Newest
pub mod Asked
