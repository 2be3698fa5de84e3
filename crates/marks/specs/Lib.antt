pub mod Marked
pub mod Owned
