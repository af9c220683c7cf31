pub mod ReadErrors
pub mod Differences
pub mod inside
