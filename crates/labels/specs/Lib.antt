pub mod Crc
pub mod Codes
pub mod Spelling
pub mod Answers
pub mod Reading
pub mod Printing
pub mod Code
