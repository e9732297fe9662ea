pub mod Fronts
pub mod Overs
pub mod Sinks
pub mod Vecs
