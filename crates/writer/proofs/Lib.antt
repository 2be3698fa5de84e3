pub mod Decimals
pub mod Sizes
pub mod Joined
