pub mod Serialize
pub mod Theorems
