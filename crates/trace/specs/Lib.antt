pub mod Passing
pub mod Groups
pub mod Marks
pub mod Locations
