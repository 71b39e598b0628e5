pub mod Parts
pub mod Numbering
pub mod OneSlice
pub mod Enough
