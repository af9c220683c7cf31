mod PathLemmas
mod ProcessLemmas
mod RootLemmas
mod FaultLemmas
mod FittingLemmas
-- Lemmas for those who use the library: label sets of one's own, and families whose label sets are pairs of texts.
pub use Rattle.fm_labels.proofs.OwnLabels
pub use Rattle.fm_family.proofs.PairLabels
mod CollectorLemmas
pub mod ConstantsLemmas
pub mod FitLemmas
mod ConstantPageLemmas
