pub mod Found
pub mod Halves
pub mod Cleared
pub mod Leaves
pub mod Untouched
pub mod Sends
