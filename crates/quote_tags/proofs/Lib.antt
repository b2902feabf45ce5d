pub mod Places
pub mod Tagging
pub mod Plain
pub mod Masking
pub mod Unmasking
pub mod Moving
