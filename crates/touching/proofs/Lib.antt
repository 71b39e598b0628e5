pub mod Touches
pub mod Theorems
