pub mod Choices
pub mod Everyone
pub mod Kinds
