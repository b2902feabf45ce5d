pub mod Depths
pub mod Recording
pub mod Bounds
