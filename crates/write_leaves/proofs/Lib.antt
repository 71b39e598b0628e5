pub mod Records
pub mod Leaves
