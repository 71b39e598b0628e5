pub mod Ids
pub mod Seeds
pub mod EdgeHalf
pub mod Examples
