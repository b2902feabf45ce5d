pub mod Calling
pub mod Leaving
pub mod MarksLength
pub mod Unchanged
