pub mod Earlier
pub mod Unread
pub mod Searching
pub mod Judged
pub mod Ranges
pub mod Forms
pub mod Facts
