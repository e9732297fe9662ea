pub mod Turns
pub mod Keeping
