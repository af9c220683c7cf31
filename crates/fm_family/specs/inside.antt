-- What public contracts don't cite: views, stored forms, laws, and the words of private functions.
pub mod MemberLabels
pub mod VecCode
pub mod Indexed
pub mod Young
