pub mod Tags
pub mod Blocks
pub mod Lists
pub mod Examples
