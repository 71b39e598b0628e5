pub mod Parse
pub mod Filling
pub mod Theorems
