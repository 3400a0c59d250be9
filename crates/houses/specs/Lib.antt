pub mod Houses
pub mod Shares
pub mod Table
pub mod Unfair
