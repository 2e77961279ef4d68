pub mod Spans
pub mod Naming
