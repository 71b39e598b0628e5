pub mod Settling
pub mod Passes
pub mod Good
pub mod Marks
pub mod Walks
pub mod Deciding
pub mod Theorems
pub mod Examples
