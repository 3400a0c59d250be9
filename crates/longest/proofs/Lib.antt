mod Views
mod Nearest
mod Growth
mod Rounds
pub mod Slacks
mod Passing
mod Lines
pub mod Padded
mod Outcome
