pub mod QuotesSplit
pub mod QuotesFit
pub mod Bracketing
pub mod Reading
pub mod Blocks
pub mod Kept
