pub mod Reading
pub mod Widths
pub mod Parted
pub mod Hexed
pub mod Decimals
pub mod Placed
pub mod ReadBack
