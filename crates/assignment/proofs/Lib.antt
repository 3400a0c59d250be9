mod Sums
mod Near
mod Swap
mod Invariant
mod Step
mod Moved
mod Chain
mod Growth
pub mod Row
mod Lowered
mod Handed
mod Whole
pub mod Shown
