pub mod Soundness
pub mod Extents
