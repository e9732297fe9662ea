pub mod Calm
pub mod Driving
pub mod Chains
pub mod Promise
