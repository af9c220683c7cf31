-- What a call that was made of texts does.
use Rattle.std.proofs.Common.{◌≡◌, ◌++◌, ◌∷◌, [], List, Option, None, Result, Ok, Err, OnOk, OnErr, inl, inr, refl, sym, ap, subst, ◌∙◌, String, Global}
use Rattle.std.specs.List.{AllZip}
use Rattle.std.specs.String.{string_bytes}
use Rattle.fm_grammar.specs.declared.MetricType.{MetricType}
use Rattle.fm_raw.specs.declared.metadata.Unit as unit
use Rattle.fm_grammar.specs.LabelPairs.{labels_of}
use Rattle.fm_registry_rules.specs.Texts.{Text, Path, Labels}
use Rattle.fm_registry_rules.specs.Registration.{Registration}
use Rattle.fm_registry_rules.specs.History.{History, Register, Subsystem}
use Rattle.fm_registry_rules.specs.Answer.{Refusal, IsReturned, refusal_of, answer, after}
use Rattle.fm_registry_rules.specs.Running.{IsReply}
use Rattle.fm_registry_rules.specs.Tree.{Tree, Reads}
use Rattle.fm_registry_rules.specs.declared.error.RegistryError.{RegistryError}
use Rattle.fm_core.specs.Calls.{seen_path, RunsCall}
use Rattle.fm_core.specs.HasHistory.{Grows}
use Rattle.fm_core.specs.declared.registry.tree.registry_call.RegistryCall.{RegistryCall}
use Rattle.fm_core.specs.Named.{named_metric}
use Rattle.fm_core.specs.View.{asked_metric}
use Rattle.fm_core.proofs.GrowthLemmas.{Grows-returned}
use Rattle.fm_registry_rules.specs.LabelNames.{IsOrMemory}
use Rattle.fastmetrics.specs.Roots.{RootState, Adds, AddsClone, AddsKept, MakesNamed, Enters}
use Rattle.fastmetrics.specs.inside.Requests.{Asking}

-- clones of names are the same path
pub path-cloned : (v w : List (String Global)) → AllZip (λ s t. string_bytes t ≡ string_bytes s) v w → seen_path w ≡ seen_path v
path-cloned [] [] h = refl
path-cloned [] (y ∷ ys) h = absurd h
path-cloned (x ∷ xs) [] h = absurd h
path-cloned (x ∷ xs) (y ∷ ys) h = ap (λ n. n ∷ seen_path ys) h.0 ∙ ap (λ ns. string_bytes x ∷ ns) (path-cloned xs ys h.1)

-- a name at the end of a path
pub path-pushed : (names : List (String Global)) (name : String Global) → seen_path (names ++ name ∷ []) ≡ seen_path names ++ string_bytes name ∷ []
path-pushed [] name = refl
path-pushed (x ∷ xs) name = ap (λ ns. string_bytes x ∷ ns) (path-pushed xs name)

module _ {M : Type 0} (Types : M → MetricType → Type 0) where
  -- a registration by texts
  pub added : (path : Path) (name help : Text) (u : Option unit.Unit) (metric : M) (own_name own_help : String Global) (t : MetricType) (names : List (String Global)) (old new : Tree M) (r : Result (Unit {0}) RegistryError)
      → seen_path names ≡ path → string_bytes own_name ≡ name → string_bytes own_help ≡ help → Types metric t
      → ((b : History M) → Reads old b → IsReply (refusal_of r) b (Register (seen_path names) (asked_metric own_name own_help u metric t)))
      → OnOk r ((b : History M) → Reads old b → Reads new (after b (Register (seen_path names) (asked_metric own_name own_help u metric t)))) → OnErr r (new ≡ old)
      → Adds (Types metric) (named_metric name help u metric) (record { tree = old; path = path }) (record { tree = new; path = path }) r
  added path name help u metric own_name own_help t names old new r led named helped declared reply ok err =
      let same : Register (seen_path names) (asked_metric own_name own_help u metric t) ≡ Register path (named_metric name help u metric t) =
      ap (λ p. Register p (named_metric (string_bytes own_name) (string_bytes own_help) u metric t)) led
      ∙ ap (λ n. Register path (named_metric n (string_bytes own_help) u metric t)) named
      ∙ ap (λ h. Register path (named_metric name h u metric t)) helped in
      let reads = subst (λ k. OnOk r ((b : History M) → Reads old b → Reads new (after b k))) same ok in
      record {
        registers = record {
          metric_type = t;
          declared = declared;
          answer = λ b read. subst (λ k. IsReturned (refusal_of r) (answer b k)) same (reply b read).returned;
          ok = reads;
          err = err;
        };
        grows = Grows-returned old new (Register path (named_metric name help u metric t)) r reads err;
        path = refl;
      }

  pub asked : (path : Path) (name : Text) (labels : Labels) (call : RegistryCall M) (old new : Tree M) (r : Result (Unit {0}) RegistryError)
      → Asking path name labels call → RunsCall Types call old new r
      → ((b : History M) → Reads old b → IsReply (refusal_of r) b (Subsystem path name labels)) × OnOk r ((b : History M) → Reads old b → Reads new (after b (Subsystem path name labels)))
  asked path name labels call old new r made ran =
      let runs = subst (λ k. RunsCall Types k old new r) made.is ran in
      let same : runs.call ≡ Subsystem path name labels =
      runs.is
      ∙ ap (λ p. Subsystem p (string_bytes made.own_name) (labels_of made.own_labels.items)) made.is_path
      ∙ ap (λ n. Subsystem path n (labels_of made.own_labels.items)) made.is_name
      ∙ ap (λ ls. Subsystem path name ls) made.is_labels in (
        λ b reads. subst (λ k. IsReply (refusal_of r) b k) same (runs.reply b reads),
        subst (λ k. OnOk r ((b : History M) → Reads old b → Reads new (after b k))) same runs.ok,
      )

  -- a subsystem that is gone on in
  pub entered : (path below : Path) (name : Text) (labels : Labels) (call : RegistryCall M) (old new : Tree M)
      → Asking path name labels call → RunsCall Types call old new (Ok tt) → Grows old new → below ≡ path ++ name ∷ []
      → Enters name labels (record { tree = old; path = path }) (record { tree = new; path = below }) (Ok tt)
  entered path below name labels call old new made ran grows is_below =
      let got = asked path name labels call old new (Ok tt) made ran in
      record { reply = got.0; ok = (is_below, got.1); err = tt; grows = grows }

module _ {M T : Type 0} (refusal : Option Refusal) (Begins : T → Type 0) (IsClone : T → T → Type 0) (Converts : T → M → Type 0) (refuses : M → Option Refusal) (Types : M → MetricType → Type 0) (asked : M → MetricType → Registration M) (old new : RootState M) where
  -- a family that was made, and then registered or not
  pub made_named : (family : T) (r : Result T RegistryError) → IsOrMemory None refusal → Begins family → AddsKept family IsClone Converts refuses Types asked old new r → MakesNamed refusal Begins IsClone Converts refuses Types asked old new r
  made_named family r (inl none) begins adds = absurd cc
  made_named family (Ok made) (inr none) begins (kept, adds) =
      (sym none, subst Begins (sym kept) begins, subst (λ (made : T). AddsClone (IsClone made) Converts refuses Types asked old new (Ok tt)) (sym kept) adds)
  made_named family (Err e) (inr none) begins (inl unchanged) = inl unchanged
  made_named family (Err e) (inr none) begins (inr adds) = inr (inr (sym none, (family, adds)))
