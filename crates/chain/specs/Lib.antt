pub mod Post
pub mod Positions
