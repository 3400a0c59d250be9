pub mod Search
pub mod Run
pub mod Between
pub mod Slices
pub mod Answer
pub mod Promise
