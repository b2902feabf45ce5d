pub mod Quotes
pub mod Examples
