pub mod Entering
pub mod Walking
