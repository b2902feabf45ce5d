pub mod Scanning
pub mod Tabling
pub mod Stack
pub mod TagReading
pub mod Settling
pub mod Masks
pub mod Merging
