pub mod Behind
pub mod Cells
pub mod Planned
