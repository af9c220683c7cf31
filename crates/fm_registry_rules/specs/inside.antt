-- What public contracts don't cite: views, stored forms, laws, and the words of private functions.
pub mod TreeCode
pub mod Refusals
pub mod Forests
pub mod Once
pub mod Names
pub mod RootLabels
pub mod LendsElement
pub mod Fitting
