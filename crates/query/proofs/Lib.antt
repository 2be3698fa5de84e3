pub mod Invoking
pub mod Reaching
pub mod Telling
pub mod Chaining
pub mod Walk
pub mod Listing
pub mod Single
