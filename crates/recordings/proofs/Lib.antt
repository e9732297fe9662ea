pub mod Enrolls
pub mod Headers
pub mod Plays
