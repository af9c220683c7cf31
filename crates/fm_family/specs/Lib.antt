pub use Rattle.fm_encoder.specs.Emits
pub mod Members
pub mod VecMembers
pub mod VecNames
pub mod MemberLends
pub mod MemberCalls
pub mod inside
