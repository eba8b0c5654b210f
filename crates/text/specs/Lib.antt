pub mod Cursor
pub mod Digits
pub mod Fields
pub mod Hex
pub mod Decimal
