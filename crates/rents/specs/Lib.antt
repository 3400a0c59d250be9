pub mod Faults
pub mod Rents
pub mod Shown
pub mod Answer
