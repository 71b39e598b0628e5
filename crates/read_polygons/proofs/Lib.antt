pub mod Writes
pub mod Exact
pub mod InOrder
