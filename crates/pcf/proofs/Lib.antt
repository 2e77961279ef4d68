pub mod Openings
pub mod Closes
