pub mod Classes
pub mod Pieces
pub mod Wrapping
pub mod Listing
pub mod Besides
pub mod Areal
