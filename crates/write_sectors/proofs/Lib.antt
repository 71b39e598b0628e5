pub mod Steps
pub mod Cell
