pub use Rattle.fm_writer.proofs.OutputLemmas
pub mod MemberLemmas
pub mod FaultLemmas
pub mod ValidLemmas
pub mod NamedLemmas
pub mod BucketLemmas
pub mod ExemplarLemmas
pub mod StateLemmas
