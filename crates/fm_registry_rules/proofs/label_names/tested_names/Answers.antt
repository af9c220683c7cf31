use Rattle.std.proofs.Common.{◌≡◌, arith, refl, sym, ap, ◌∙◌, inr, [], map, Some, get_or}
use Rattle.std.specs.String.{string_bytes}
use Rattle.std.proofs.lemmas.Result.{err_from_is_err_and}
use Rattle.fm_registry_rules.specs.Answer.{label_refusal_after, seen_error}
use Rattle.fm_registry_rules.specs.LabelNames.{names_refusal}
use Rattle.fm_registry_rules.proofs.NameListLemmas.{names_valid, passes_next, copied_next, shown_all, none_wanted, refused_all}
use Rattle.fm_registry_rules.proofs.label_names.tested_names.Goals as goal

pub loop-name-init : goal.loop-name-init
loop-name-init c = record { copied = ap (map string_bytes) c.new-tested.ensures.items; passed = refl }

pub returns-in_err-test_name-clause-answer : goal.returns-in_err-test_name-clause-answer
returns-in_err-test_name-clause-answer c =
    let exit = err_from_is_err_and c.from_residual.result c.from_residual.ensures.1 in
    rw (exit.1, exit.2) (refused_all c.args.names.now c.deref.result.now c.loop-name.name-index (record { ref_ptr = (0, 0); now = [] }) (seen_error c.in_err-test_name.field-0.0) (omega arith) (ap (map string_bytes) c.deref.ensures.value ∙ c.loop-name.invariant.copied) c.loop-name.invariant.passed c.in_err-test_name.ensures)

pub loop-name-preserved : goal.loop-name-preserved
loop-name-preserved c =
    let names = c.args.names.now in let i = c.loop-name.name-index in
    let passes = none_wanted _ c.in_ok-test_name.ensures in
    record {
      copied = rw c.in_ok-push.ensures.items (copied_next names c.loop-name.tested.items c.in_ok-from_str.field-0 i (record { ref_ptr = (0, 0); now = [] }) (omega arith) c.loop-name.invariant.copied c.in_ok-from_str.ensures.ok);
      passed = passes_next names i (record { ref_ptr = (0, 0); now = [] }) (omega arith) c.loop-name.invariant.passed (ap (λ ts. label_refusal_after ts (get_or names i (record { ref_ptr = (0, 0); now = [] })).now) (sym (ap (map string_bytes) c.deref.ensures.value ∙ c.loop-name.invariant.copied)) ∙ passes);
    }

pub returns-clause-answer : goal.returns-clause-answer
returns-clause-answer c = inr (sym (ap names_refusal (sym (shown_all c.args.names.now c.loop-name.name-index (omega arith))) ∙ c.loop-name.invariant.passed))

pub returns-clause-copied : goal.returns-clause-copied
returns-clause-copied c = c.loop-name.invariant.copied ∙ shown_all c.args.names.now c.loop-name.name-index (omega arith)

pub returns-clause-names : goal.returns-clause-names
returns-clause-names c = names_valid _ (ap names_refusal (sym (shown_all c.args.names.now c.loop-name.name-index (omega arith))) ∙ c.loop-name.invariant.passed)
