pub mod Formed
pub mod RoundTrip
pub mod Points
