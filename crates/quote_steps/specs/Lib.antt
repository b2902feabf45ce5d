pub mod Stack
pub mod Passes
pub mod Memories
