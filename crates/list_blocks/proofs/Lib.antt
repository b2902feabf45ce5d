pub mod Values
pub mod ItemLaws
pub mod Markers
pub mod ItemWriting
pub mod BlockLaws
pub mod Kept
pub mod Pushes
