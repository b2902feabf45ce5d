pub mod Utf8
pub mod Lent
pub mod Answer
pub mod Examples
