pub mod Ends
pub mod Pairs
pub mod Digits
pub mod Letters
pub mod Quotes
pub mod Counts
pub mod Arguments
