use Rattle.std.proofs.Common.{◌≡◌, ◌⊎◌, ◌++◌, [], Ok, Err, inr, sym, subst, rules}
use Rattle.std.proofs.lemmas.Result.{err_from_is_err_and}
use Rattle.fm_raw.specs.declared.encode_error.EncodeError.TheVariants.{ReservedLabel}
use Rattle.fm_labels.specs.inside.Constants.{FamilyConstants, AreTested}
use Rattle.fm_labels.specs.Labels.{LabelsValid, LabelsFault, all_written, emitted_again}
use Rattle.fm_labels.specs.Refusals.{OwnRefusal}
use Rattle.fm_labels.proofs.ConstantLemmas.{tested_valid, tested_fault}
use Rattle.fm_labels.proofs.LabelsLemmas.{LabelsFault-append, after_constants}
use Rattle.fm_labels.proofs.collecting.constants.ConstantLabels.followed_by.Goals as goal

pub returns-then-self-clause-gathered : goal.returns-then-self-clause-gathered
returns-then-self-clause-gathered g c =
    let inside = c.self.inside in
    let type = c.args.encoder.now.metric_type in
    let seen : FamilyConstants = record { labels = inside.labels.labels; has_reserved = inside.has_reserved } in
    let tested = subst (AreTested type) (sym c.self.view_is) c.requires.tested in
    rw (← c.self.view_is) (inr (LabelsFault-append ReservedLabel type [] (emitted_again inside.labels.labels) (g.LS.EncodeLabelSet.labels c.args.labels.now) (tested_fault type seen tested c.if-self.true)))

pub returns-in_err-add_labels-clause-gathered : goal.returns-in_err-add_labels-clause-gathered
returns-in_err-add_labels-clause-gathered g c =
    let inside = c.self.inside in
    let labels = g.LS.EncodeLabelSet.labels c.args.labels.now in
    let type = c.args.encoder.now.metric_type in
    let MayFault = g.LS.EncodeLabelSet.may_fault c.args.labels.now in
    let seen : FamilyConstants = record { labels = inside.labels.labels; has_reserved = inside.has_reserved } in
    let valid = tested_valid type seen (subst (AreTested type) (sym c.self.view_is) c.requires.tested) c.self.invariant c.if-self.false in
    let exit = err_from_is_err_and c.from_residual-in_err-add_labels.result c.from_residual-in_err-add_labels.ensures.1 in
    let refused : OwnRefusal MayFault exit.0 ⊎ LabelsFault exit.0 type inside.labels.labels labels = search rules in
    rw (exit.1, ← c.self.view_is) (after_constants {L = Unit {0}} (λ _. c.add_labels.new.encoder.labels) type inside.labels.labels labels MayFault (Err exit.0) valid refused)

pub returns-in_ok-add_labels-clause-gathered : goal.returns-in_ok-add_labels-clause-gathered
returns-in_ok-add_labels-clause-gathered g c =
    let inside = c.self.inside in
    let labels = g.LS.EncodeLabelSet.labels c.args.labels.now in
    let type = c.args.encoder.now.metric_type in
    let seen : FamilyConstants = record { labels = inside.labels.labels; has_reserved = inside.has_reserved } in
    let valid = tested_valid type seen (subst (AreTested type) (sym c.self.view_is) c.requires.tested) c.self.invariant c.if-self.false in
    let gathered : LabelsValid type inside.labels.labels labels × (c.add_labels.new.encoder.labels ≡ inside.labels.labels ++ all_written labels) = search rules in
    rw (← c.self.view_is) (after_constants {L = Unit {0}} (λ _. c.add_labels.new.encoder.labels) type inside.labels.labels labels (g.LS.EncodeLabelSet.may_fault c.args.labels.now) (Ok tt) valid gathered)
