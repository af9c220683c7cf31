-- What public contracts don't cite: what was appended, and where labels are in a text.
pub mod Grown
pub mod LabelTexts
pub mod Plain
