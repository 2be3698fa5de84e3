pub mod Having
pub mod Joined
