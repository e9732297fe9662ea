pub mod Heads
pub mod Spanning
