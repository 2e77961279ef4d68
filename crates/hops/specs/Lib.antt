pub mod Hops
pub mod Groups
