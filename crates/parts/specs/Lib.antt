pub mod Ranges
pub mod Channels
pub mod Detectors
pub mod Managers
pub mod Spans
pub mod Spells
pub mod Faults
