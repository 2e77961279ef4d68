pub mod Composes
