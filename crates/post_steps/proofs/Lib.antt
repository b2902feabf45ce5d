pub mod Pushing
pub mod Unchanged
