pub mod Listing
pub mod Losing
pub mod Joining
pub mod Bounds
