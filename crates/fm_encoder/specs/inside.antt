-- What public contracts don't cite: views, stored forms, laws, and the words of private functions.
pub mod Steps
pub mod Gathering
pub mod BucketSteps
pub mod Joined
pub mod Samples
pub mod Plain
