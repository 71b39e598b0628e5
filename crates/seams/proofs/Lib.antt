pub mod Row
pub mod Halves
pub mod Theorems
pub mod Before
