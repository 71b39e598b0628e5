pub mod Sums
pub mod Theorems
