pub mod Bounds
pub mod Reporting
