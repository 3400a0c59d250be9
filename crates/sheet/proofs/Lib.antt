pub mod Padded
pub mod Pieces
pub mod Roundtrips
pub mod Sheets
mod Found
mod Entered
mod Shared
mod Lengths
mod Priced
pub mod Judged
mod Verdicts
pub mod Meant
mod Fairly
mod Laid
