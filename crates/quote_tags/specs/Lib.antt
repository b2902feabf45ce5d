pub mod Tags
pub mod Masks
