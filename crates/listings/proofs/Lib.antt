pub mod Steps
pub mod Appends
