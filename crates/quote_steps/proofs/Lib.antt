pub mod Stacking
pub mod Memories
pub mod Texts
pub mod Passing
pub mod Taking
pub mod Joining
pub mod Within
