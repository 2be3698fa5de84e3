pub mod Codes
pub mod Clearing
pub mod Activation
pub mod Appointing
