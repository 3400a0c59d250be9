mod Tests
mod Table
mod Unfair
