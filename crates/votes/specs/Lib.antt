pub mod Tables
pub mod Faults
pub mod Rounds
pub mod Reports
pub mod Passes
pub mod Leaders
pub mod Calls
