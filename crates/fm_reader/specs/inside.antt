-- What public contracts don't cite: views, stored forms, laws, and the words of private functions.
pub mod Numbers
pub mod Plain
pub mod Cuts
pub mod Remaining
pub mod Fronts
pub mod Lines
pub mod Parts
pub mod Shared
pub mod Samples
pub mod Names
pub mod Steps
pub mod Read
