pub mod Tallies
pub mod Passings
pub mod Counters
