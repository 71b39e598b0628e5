pub mod Lists
pub mod Accepted
pub mod Cuts
pub mod Exact
