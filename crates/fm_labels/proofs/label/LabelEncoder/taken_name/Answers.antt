use Rattle.std.proofs.Common.{◌≡◌, ◌++◌, ◌∷◌, [], length, map, take, get_or, arith, refl, sym, ap, ◌∙◌, subst, false, true≢false, Contains}
use Rattle.std.proofs.lemmas.List.{length-map, take_more, map-append}
use Rattle.std.proofs.Math.Seq.{take-length}
use Rattle.std.specs.String.{string_bytes}
use Rattle.fm_grammar.specs.Exposition.{Text}
use Rattle.fm_labels.specs.Labels.{IsReserved, label_names}
use Rattle.fm_labels.specs.inside.TakenNames.{NamesAreFree}
use Rattle.fm_labels.specs.LabelEncoders.{GatheredPieces}
use Rattle.fm_labels.proofs.NamedLemmas.{free_none, free_more, name_among}
use Rattle.fm_labels.proofs.label.LabelEncoder.taken_name.Goals as goal

pub loop-name-init : goal.loop-name-init
loop-name-init c = free_none c.args.self.now.metric_type c.args.self.now.labels

pub returns-then-has_name-clause-taken : goal.returns-then-has_name-clause-taken
returns-then-has_name-clause-taken c = rw (← c.self.view_is) (
  string_bytes c.name-item.result,
  subst (λ ns. Contains ns (string_bytes c.name-item.result)) c.as_slice-name-items.ensures.names (name_among _ c.loop-name.name-index c.name-item.result (omega arith) c.name-item.is),
  subst (Contains (label_names c.self.inside.labels.labels)) c.as_str-name.ensures.value (c.if-has_name.ensures.0 refl),
)

pub loop-name-preserved : goal.loop-name-preserved
loop-name-preserved c =
    let items = c.as_slice-name-items.result.now in let i = c.loop-name.name-index in
    let more = ap (map string_bytes) (take_more items i c.name-item.result (omega arith) ∙ ap (λ n. take i items ++ n ∷ []) (sym c.name-item.is)) ∙ map-append string_bytes (take i items) (c.name-item.result ∷ []) in
    rw (more, ← c.self.view_is) (free_more _ _ _ _ (subst (λ (s : GatheredPieces). NamesAreFree s.metric_type s.labels (map string_bytes (take i items))) (sym c.self.view_is) c.loop-name.invariant)
    (λ reserved. true≢false (sym (c.if-is_reserved.ensures.1 (subst (IsReserved c.self.inside.metric_type) (sym c.as_str-name.ensures.value) reserved))))
    (λ there. true≢false (sym (c.if-has_name.ensures.1 (subst (Contains (label_names c.self.inside.labels.labels)) (sym c.as_str-name.ensures.value) there)))))

pub returns-clause-free : goal.returns-clause-free
returns-clause-free c =
    let items = c.as_slice-name-items.result.now in
    let all : c.loop-name.name-index ≡ length items = omega arith in
    let whole = ap (λ n. map string_bytes (take n items)) all ∙ ap (map string_bytes) (take-length items) ∙ c.as_slice-name-items.ensures.names in
    subst (NamesAreFree c.args.self.now.metric_type c.args.self.now.labels) whole c.loop-name.invariant
