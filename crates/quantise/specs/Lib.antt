pub mod Short
pub mod Coordinates
pub mod Steps
pub mod Returning
pub mod Inside
