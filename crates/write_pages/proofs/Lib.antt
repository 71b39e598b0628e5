pub mod Lists
pub mod Sizes
pub mod Firsts
pub mod Accepted
pub mod Placed
pub mod Stored
pub mod LeafCounts
pub mod Examples
