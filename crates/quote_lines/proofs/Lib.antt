pub mod Bared
pub mod Tabling
pub mod Finding
