pub mod Table
pub mod Saved
