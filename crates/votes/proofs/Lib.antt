pub mod Records
pub mod Places
pub mod Breaches
pub mod Rewrites
pub mod Rounds
pub mod Leading
