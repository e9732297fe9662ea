pub mod Order
pub mod Faults
pub mod Kinds
pub mod Same
