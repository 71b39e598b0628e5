pub mod Thin
pub mod Tally
