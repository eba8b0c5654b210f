pub mod Calls
pub mod Deeds
pub mod Events
pub mod Story
pub mod Statement
pub mod Running
