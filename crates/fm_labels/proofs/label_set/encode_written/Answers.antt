use Rattle.std.proofs.Common.{List, subst, inl, inr}
use Rattle.fm_labels.specs.Labels.{EmittedLabel}
use Rattle.fm_labels.specs.LabelEncoders.{EmitsLabels}
use Rattle.fm_labels.proofs.LabelsLemmas.{EmitsLabels-weaker}
use Rattle.fm_labels.proofs.NameLemmas.{emitted_again-pairs}
use Rattle.fm_labels.proofs.label_set.encode_written.Goals as goal

pub returns : goal.returns
returns c =
    let pairs = EmitsLabels-weaker {G = ⊥} _ _ _ (λ (fault : _). elim fault.4 [ inl never ↦ never | inr never ↦ never ]) c.encode_all.ensures in
    subst (λ (hs : List EmittedLabel). EmitsLabels hs ⊥ c.args.encoder.now c.encode_all.new.encoder c.encode_all.result) (emitted_again-pairs c.args.labels.now) pairs
