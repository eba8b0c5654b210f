pub mod Choice
pub mod Lists
pub mod Least
pub mod Addresses
pub mod Parts
pub mod Keys
