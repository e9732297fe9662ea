pub mod HalfDuplex
pub mod Keeping
