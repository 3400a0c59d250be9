pub mod Bounds
pub mod Eight
pub mod Floors
