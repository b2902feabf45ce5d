pub mod Bracketing
