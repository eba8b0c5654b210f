pub mod Admission
pub mod Sends
pub mod Ways
pub mod RoundTrip
