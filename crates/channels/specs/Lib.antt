pub mod Own
pub mod Clear
pub mod Dead
pub mod Recorded
pub mod Capture
pub mod Captured
pub mod Keeping
pub mod Nearest
