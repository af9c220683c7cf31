pub mod TallyErrors
pub mod Events
pub mod Shares
pub mod Pieces
