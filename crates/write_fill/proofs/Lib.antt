pub mod Rooms
pub mod Lists
pub mod Whole
