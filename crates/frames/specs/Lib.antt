pub mod Security
pub mod Network
pub mod Aps
pub mod Layers
pub mod Reading
pub mod Making
pub mod Tunnelling
pub mod Code
