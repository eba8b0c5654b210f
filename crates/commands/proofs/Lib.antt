pub mod One
pub mod Bounds
pub mod Laid
pub mod Judging
pub mod Inner
pub mod ReadBack
pub mod Missing
pub mod WriteBack
