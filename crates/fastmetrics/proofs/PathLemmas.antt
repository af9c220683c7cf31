-- What calls in turn below a path do.
use Rattle.std.proofs.Common.{◌≡◌, inl, inr, ◌∷◌, [], ◌++◌, List, length, Option, Some, Result, Ok, Err, refl, sym, ap, subst, ◌∙◌, Bor, String, Global}
use Rattle.std.specs.String.{string_bytes}
use Rattle.std.proofs.lemmas.List.{nil_from_length}
use Rattle.fm_grammar.specs.declared.MetricType.{MetricType}
use Rattle.fm_raw.specs.declared.metadata.Unit as unit
use Rattle.fm_grammar.specs.LabelPairs.{labels_of}
use Rattle.fm_registry_rules.specs.Texts.{Text, Path, Labels}
use Rattle.fm_registry_rules.specs.History.{History, Call, Register, Subsystem}
use Rattle.fm_registry_rules.specs.Answer.{Refusal, Memory, refusal_of, seen_error, after}
use Rattle.fm_registry_rules.specs.Tree.{Tree, Reads}
use Rattle.fm_registry_rules.specs.declared.error.RegistryError.{RegistryError}
use Rattle.fm_core.specs.Calls.{RunsCall, IsCall, seen_path}
use Rattle.fm_core.specs.declared.registry.tree.registry_call.RegistryCall.{RegistryCall}
use Rattle.fm_core.specs.Named.{named_metric}
use Rattle.fastmetrics.specs.Paths.{Below, Replied, RegistersBelow, shown_path}
use Rattle.fastmetrics.specs.inside.Requests.{Registering, Asking}
use Rattle.fastmetrics.proofs.RootLemmas.{asked}

module _ {M : Type 0} where
  -- nothing is left of the path
  pub ended : (Last : History M → Option Refusal → Tree M → Type 0) (above : Path) (path : List (Bor Text)) (b : History M) (r : Option Refusal) (t : Tree M)
      → length path ≡ 0 → Last b r t → Below Last above (shown_path path) b r t
  ended Last above path b r t none last = subst (λ p. Below Last above (shown_path p) b r t) (sym (nil_from_length path none)) last

  -- what is done after each call may be told otherwise
  pub told : (Last Told : History M → Option Refusal → Tree M → Type 0) → ((b : History M) (r : Option Refusal) (t : Tree M) → Last b r t → Told b r t)
      → (above path : Path) (b : History M) (r : Option Refusal) (t : Tree M) → Below Last above path b r t → Below Told above path b r t
  told Last Told tell above [] b r t below = tell b r t below
  told Last Told tell above (name ∷ names) b r t (inl refused) = inl refused
  told Last Told tell above (name ∷ names) b r t (inr made) =
      inr (made.0, told Last Told tell (above ++ name ∷ []) names (after b (Subsystem above name [])) r t made.1)

  -- the same from the root on
  pub told_at : (Last Told : History M → Option Refusal → Tree M → Type 0) → ((b : History M) (r : Option Refusal) (t : Tree M) → Last b r t → Told b r t)
      → (names : List (String Global)) (path : Path) (b : History M) (r : Option Refusal) (t : Tree M) → names ≡ [] → Below Last (seen_path names) path b r t → Below Told [] path b r t
  told_at Last Told tell names path b r t none below = told Last Told tell [] path b r t (subst (λ above. Below Last (seen_path above) path b r t) none below)

  -- there was no memory to ask for the first subsystem on the path
  pub unasked : (Last : History M → Option Refusal → Tree M → Type 0) (above : Path) (name : Bor Text) (rest path : List (Bor Text)) (t : Tree M)
      → path ≡ name ∷ rest → (b : History M) → Reads t b → Below Last above (shown_path path) b (Some Memory) t
  unasked Last above name rest path t is b reads =
      subst (λ p. Below Last above (shown_path p) b (Some Memory) t) (sym is) (inl (Memory, refl, inl refl, reads))

  module _ (Types : M → MetricType → Type 0) where
    -- a call was made, and got its reply
    pub replied : (g : RegistryCall M) (old new : Tree M) (r : Result (Unit {0}) RegistryError)
        → RunsCall Types g old new r → (b : History M) → Reads old b → (call : Call M) × IsCall Types g call × Replied call b (refusal_of r) new
    replied g old new (Ok x) ran b reads = (ran.call, ran.is, record { is = ran.reply b reads; reads = ran.ok b reads })
    replied g old new (Err e) ran b reads =
        (ran.call, ran.is, record { is = ran.reply b reads; reads = subst (λ t. Reads t b) (sym ran.err) reads })

    -- the first subsystem on the path was refused
    pub refused : (Last : History M → Option Refusal → Tree M → Type 0) (above : Path) (name : Bor Text) (rest path : List (Bor Text)) (call : RegistryCall M) (old new : Tree M) (e : RegistryError)
        → path ≡ name ∷ rest → Asking above name.now [] call → RunsCall Types call old new (Err e)
        → (b : History M) → Reads old b → Below Last above (shown_path path) b (Some (seen_error e)) new
    refused Last above name rest path call old new e is asking ran b reads =
        subst (λ p. Below Last above (shown_path p) b (Some (seen_error e)) new) (sym is)
        (inl (seen_error e, refl, inr ((asked Types above name.now [] call old new (Err e) asking ran).0 b reads), subst (λ t. Reads t b) (sym ran.err) reads))

    -- it was made or is there, and what is below it is done
    pub gone_on : (Last : History M → Option Refusal → Tree M → Type 0) (above below : Path) (name : Bor Text) (rest path : List (Bor Text)) (call : RegistryCall M) (old mid new : Tree M) (r : Option Refusal)
        → path ≡ name ∷ rest → Asking above name.now [] call → RunsCall Types call old mid (Ok tt) → below ≡ above ++ name.now ∷ []
        → ((b : History M) → Reads mid b → Below Last below (shown_path rest) b r new)
        → (b : History M) → Reads old b → Below Last above (shown_path path) b r new
    gone_on Last above below name rest path call old mid new r is asking ran is_below later b reads =
        let got = asked Types above name.now [] call old mid (Ok tt) asking ran in
        subst (λ p. Below Last above (shown_path p) b r new) (sym is)
        (inr (got.0 b reads, subst (λ at. Below Last at (shown_path rest) (after b (Subsystem above name.now [])) r new) is_below (later (after b (Subsystem above name.now [])) (got.1 b reads))))

    -- a call that was made of texts registers the metric of these texts
    pub registered : (at path : Path) (name help : Text) (u : Option unit.Unit) (metric : M) (call : RegistryCall M) → at ≡ path → Registering at name help u metric call
        → (b : History M) (r : Option Refusal) (t : Tree M) → (made : Call M) × IsCall Types call made × Replied made b r t
        → RegistersBelow path (Types metric) (named_metric name help u metric) b r t
    registered at path name help u metric call is_at made b r t got =
        let is = subst (λ k. IsCall Types k got.0) made.is got.1 in
        let same : got.0 ≡ Register path (named_metric name help u metric is.0) =
        is.2
        ∙ ap (λ p. Register p (named_metric (string_bytes made.own_name) (string_bytes made.own_help) u metric is.0)) (made.is_path ∙ is_at)
        ∙ ap (λ n. Register path (named_metric n (string_bytes made.own_help) u metric is.0)) made.is_name
        ∙ ap (λ h. Register path (named_metric name h u metric is.0)) made.is_help in
        (is.0, is.1, subst (λ k. Replied k b r t) same got.2)

    -- and one that asks for a subsystem asks for that of these texts
    pub subsystem_asked : (at path : Path) (name : Text) (labels : Labels) (call : RegistryCall M) → at ≡ path → Asking at name labels call
        → (b : History M) (r : Option Refusal) (t : Tree M) → (made : Call M) × IsCall Types call made × Replied made b r t
        → Replied (Subsystem path name labels) b r t
    subsystem_asked at path name labels call is_at made b r t got =
        let is = subst (λ k. IsCall Types k got.0) made.is got.1 in
        let same : got.0 ≡ Subsystem path name labels =
        is
        ∙ ap (λ p. Subsystem p (string_bytes made.own_name) (labels_of made.own_labels.items)) (made.is_path ∙ is_at)
        ∙ ap (λ n. Subsystem path n (labels_of made.own_labels.items)) made.is_name
        ∙ ap (λ ls. Subsystem path name ls) made.is_labels in
        subst (λ k. Replied k b r t) same got.2
