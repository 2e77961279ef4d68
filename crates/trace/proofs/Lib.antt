pub mod Turns
pub mod Skipping
mod Surveys
pub mod Marking
pub mod Locating
