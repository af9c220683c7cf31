-- What public contracts don't cite: views, stored forms, laws, and the words of private functions.
pub mod Points
pub mod Families
pub mod SameLaws
pub mod Writing
pub mod DocumentRows
