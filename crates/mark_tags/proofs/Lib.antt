pub mod SplitMarks
pub mod Depth
pub mod TagNumbers
