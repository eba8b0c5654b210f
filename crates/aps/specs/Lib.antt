pub mod Keys
pub mod Opening
pub mod Sealing
pub mod Code
