pub mod Terms
pub mod Decisions
