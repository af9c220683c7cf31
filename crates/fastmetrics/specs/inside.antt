-- What public contracts don't cite: views, stored forms, laws, and the words of private functions.
pub mod Requests
pub mod RootCode
pub mod ProcessTexts
pub mod ProcessStats
pub mod FittingMetrics
