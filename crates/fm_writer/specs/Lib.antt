pub mod Front
pub mod Heads
pub mod NewSamples
pub mod Output
pub mod Utf8
pub mod inside
