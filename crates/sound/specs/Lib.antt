pub mod Seen
pub mod Fitting
