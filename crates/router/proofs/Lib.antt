pub mod One
pub mod Portions
