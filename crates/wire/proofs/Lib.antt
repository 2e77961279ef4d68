mod LeastFirst
pub mod Parts
