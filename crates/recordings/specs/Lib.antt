pub mod Bytes
pub mod Files
pub mod Into
pub mod Kinds
pub mod Rooms
pub mod Slices
