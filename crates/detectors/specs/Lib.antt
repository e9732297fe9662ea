pub mod Exact
pub mod Recorded
pub mod Interference
pub mod Keeping
