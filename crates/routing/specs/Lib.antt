pub mod Readings
