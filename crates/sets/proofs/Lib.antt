pub mod Counting
pub mod Words
pub mod Searches
pub mod Lone
