pub mod Laws
pub mod Fielding
pub mod NoFields
pub mod Ids
