-- What public contracts don't cite: views, stored forms, laws, and the words of private functions.
pub mod LabelLists
pub mod Lines
pub mod DocumentText
pub mod Words
