pub mod Tops
pub mod Samples
