mod Parts
pub mod Namings
