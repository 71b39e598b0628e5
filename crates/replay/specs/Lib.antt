pub mod Ends
pub mod Tallies
pub mod Told
