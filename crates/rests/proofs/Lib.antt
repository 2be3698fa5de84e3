pub mod Newest
pub mod Asking
pub mod Stepping
pub mod Marking
