pub mod Places
pub mod Rows
pub mod State
pub mod Requests
pub mod Mark
pub mod Sending
pub mod Code
