pub mod Worked
pub mod Counted
pub mod Lengths
pub mod Steps
