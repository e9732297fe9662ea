pub mod Settled
pub mod Calmly
pub mod Driven
pub mod Exhibited
