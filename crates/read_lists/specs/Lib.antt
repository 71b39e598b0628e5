pub mod Lists
pub mod Listed
pub mod Cursors
