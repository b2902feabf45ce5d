pub mod Parts
pub mod Attribution
pub mod Examples
