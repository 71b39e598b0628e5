pub mod Ends
pub mod Words
pub mod Rooms
pub mod Last
pub mod Calls
