pub mod Bits
pub mod Bounds
pub mod Bytes
pub mod Floor
pub mod Words
