pub mod Areas
pub mod Tables
pub mod EdgeHalf
pub mod Decoded
