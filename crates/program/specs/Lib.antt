pub mod Text
pub mod Vocabulary
pub mod Lines
pub mod Program
pub mod Said
