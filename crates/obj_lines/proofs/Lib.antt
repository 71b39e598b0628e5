pub mod Lengths
pub mod Storing
