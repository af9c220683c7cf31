pub mod BlockLemmas
pub mod FrontLemmas
pub mod OutputLemmas
pub mod PartLemmas
pub mod RowLemmas
pub mod Utf8Escapes
pub mod Utf8Lemmas
