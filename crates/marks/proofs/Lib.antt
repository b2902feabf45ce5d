pub mod Counting
pub mod Flattening
pub mod Passing
pub mod NoTags
pub mod Conversion
pub mod Inwards
