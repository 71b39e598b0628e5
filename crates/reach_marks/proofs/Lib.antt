pub mod Turns
pub mod Adds
pub mod Kept
