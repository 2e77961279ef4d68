pub mod Structures
pub mod Traces
pub mod Events
pub mod Version
