pub mod Walked
pub mod Turns
pub mod Listings
pub mod Entries
