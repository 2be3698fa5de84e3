pub mod Places
pub mod Conditions
pub mod Rights
pub mod Unread
pub mod Parts
pub mod Constants
