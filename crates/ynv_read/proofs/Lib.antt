pub mod Checks
pub mod Records
pub mod Accepted
pub mod Exact
pub mod Named
pub mod Theorems
pub mod Fills
