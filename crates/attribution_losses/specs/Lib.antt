pub mod Lists
pub mod Captions
