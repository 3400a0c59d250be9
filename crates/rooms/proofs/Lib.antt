pub mod Bytes
pub mod First
pub mod Taken
mod Roundtrips
pub mod Product
pub mod Sum
pub mod Reorder
pub mod Find
pub mod Sharing
pub mod Row
pub mod Turn
pub mod Longest
pub mod Before
