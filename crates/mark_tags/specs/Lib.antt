pub mod Marks
pub mod Flat
pub mod Kinds
pub mod Examples
