pub mod Fair
pub mod Shown
pub mod Faults
pub mod Always
pub mod Sizes
pub mod Writing
pub mod Answered
mod Trials
