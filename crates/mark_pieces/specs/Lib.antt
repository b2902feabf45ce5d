pub mod Spans
pub mod Behind
