pub mod Heads
pub mod Lengths
pub mod Decides
