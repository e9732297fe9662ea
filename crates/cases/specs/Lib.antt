pub mod Plays
pub mod Starred
pub mod Exhibits
