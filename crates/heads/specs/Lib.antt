pub mod Alarms
pub mod Rules
pub mod Heard
