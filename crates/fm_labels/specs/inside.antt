-- What public contracts don't cite: the words of private functions.
pub mod Constants
pub mod FreeLabels
pub mod JoinedValues
pub mod Steps
pub mod TakenNames
pub mod FittingNames
