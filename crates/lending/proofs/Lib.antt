pub mod Characters
pub mod Lending
pub mod Lanes
pub mod Sizes
