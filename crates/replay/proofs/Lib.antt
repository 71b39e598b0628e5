pub mod Tallies
pub mod Told
