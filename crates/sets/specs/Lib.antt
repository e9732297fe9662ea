pub mod Search
pub mod Sets
pub mod Members
