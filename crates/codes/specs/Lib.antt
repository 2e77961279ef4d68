pub mod Codes
pub mod Decisions
pub mod Events
pub mod Feedbacks
pub mod Options
