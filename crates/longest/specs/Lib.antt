pub mod Run
pub mod View
pub mod Held
pub mod Promise
