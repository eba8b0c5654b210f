pub mod Filling
pub mod Looking
