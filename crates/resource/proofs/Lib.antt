pub mod Masks
pub mod Parts
pub mod Lookup
pub mod Good
