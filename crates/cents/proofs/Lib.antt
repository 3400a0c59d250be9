pub mod Rounding
pub mod Slice
pub mod Trials
