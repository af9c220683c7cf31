-- One metric more in what a scrape has collected.
use Rattle.std.proofs.Common.{◌≡◌, ◌<◌, ℕ, ◌+◌, List, length, get_or, [], ◌∷◌, ◌++◌, map, Option, Some, None, take, inl, inr, refl, sym, ap, subst, ◌∙◌, append_assoc, append-nil, codes, slice_get}
use Rattle.std.specs.List.{AllByRecursion}
use Rattle.std.specs.Option.{option_map, option_copied}
use Rattle.std.specs.String.{string_bytes}
use Rattle.std.proofs.lemmas.Grind.{flat_map-append}
use Rattle.fm_grammar.specs.Exposition.{Text, Sample, Family, Exposition}
use Rattle.fm_grammar.specs.Names.{AllDifferent}
use Rattle.fm_grammar.specs.WellFormed.{IsFamily}
use Rattle.fm_grammar.specs.Reading.{IsExposition}
use Rattle.fm_grammar.proofs.Runs.{all_append}
use Rattle.fm_raw.specs.Units.{seen_unit}
use Rattle.fm_registry_rules.specs.Texts.{prefixed_name, suffixed_name, printed_name}
use Rattle.fm_registry_rules.specs.Registration.{printed_unit}
use Rattle.fm_registry_rules.specs.Listing.{Listed, listed_name, listed_forest, listed_tree, IsListable}
use Rattle.fm_exposition.specs.inside.DocumentRows.{family_rows, families_rows}
use Rattle.fm_encoder.specs.declared.metric.EncodeMetric.{Ghosts}
use Rattle.fm_core.specs.Seen.{seen_listed}
use Rattle.fm_core.specs.inside.TreeView.{forest_of}
use Rattle.fm_core.specs.declared.registry.tree.Subsystem.{Subsystem}
use Rattle.fm_core.proofs.ListingLemmas.{listed_forest-next}
use Rattle.fm_core.specs.declared.registry.listed.ListedMetric.{ListedMetric}
use Rattle.fm_core.specs.Admits.{Admits}
use Rattle.fm_core.specs.inside.Offered.{Formed}
use Rattle.fm_core.specs.inside.Collected.{Collected, families_with, with_families, Adds}
use Rattle.fm_core.proofs.CollectLemmas.{Admits-++, take_at, families_differ}

-- a name in the exposition is the tail after the namespace
printed-tail : (namespace : Option Text) (name : Text) (unit : Option Text) → prefixed_name namespace (suffixed_name name unit) ≡ printed_name namespace name unit
printed-tail None name unit = refl
printed-tail (Some outer) name None = refl
printed-tail (Some outer) name (Some unit) = sym (append_assoc outer (codes "_" ++ name) (codes "_" ++ unit))

pub listed-tail : {M : Type 0} (m : ListedMetric M) → prefixed_name (option_copied m.namespace) m.tail.now ≡ listed_name (seen_listed m)
listed-tail m =
    ap (prefixed_name (option_copied m.namespace)) m.fits
    ∙ printed-tail (option_copied m.namespace) (string_bytes m.metadata.now.name) (printed_unit (option_map seen_unit m.metadata.now.unit))

-- no families more

families_with-none : (lines : Option Text) (before : Exposition) → before ≡ families_with lines before []
families_with-none None before = sym (append-nil before)
families_with-none (Some text) before = refl

lines-none : (lines : Option Text) → lines ≡ option_map (λ text. text ++ families_rows []) lines
lines-none None = refl
lines-none (Some text) = ap Some (sym (append-nil text))

pub with_families-none : (c : Collected) → c ≡ with_families c []
with_families-none c = λ i. record { families = families_with-none c.lines c.families i; lines = lines-none c.lines i }

-- families after others

families_with-++ : (lines : Option Text) (before d e : Exposition) → families_with (option_map (λ (text : Text). text ++ families_rows d) lines) (families_with lines before d) e ≡ families_with lines before (d ++ e)
families_with-++ None before d e = append_assoc before d e
families_with-++ (Some text) before d e = refl

lines-++ : (lines : Option Text) (d e : Exposition) → option_map (λ (text : Text). text ++ families_rows e) (option_map (λ (text : Text). text ++ families_rows d) lines) ≡ option_map (λ (text : Text). text ++ families_rows (d ++ e)) lines
lines-++ None d e = refl
lines-++ (Some text) d e = ap Some (append_assoc text (families_rows d) (families_rows e) ∙ ap (λ (rows : Text). text ++ rows) (sym (flat_map-append family_rows d e)))

pub with_families-++ : (c : Collected) (d e : Exposition) → with_families (with_families c d) e ≡ with_families c (d ++ e)
with_families-++ c d e = λ i. record { families = families_with-++ c.lines c.families d e i; lines = lines-++ c.lines d e i }

module _ {M : Type 0} (declared : Ghosts M) where
  -- a metric that is empty
  pub Adds-empty : (l : Listed M) (old : Collected) → declared.may_be_empty l.registration.metric → Adds declared (l ∷ []) old old
  Adds-empty l old empty = ([], inl (empty, refl), tt, with_families-none old)

  pub Adds-none : (old new : Collected) → new ≡ old → Adds declared [] old new
  Adds-none old new same = ([], refl, tt, same ∙ with_families-none old)

  -- the family of a listed metric with these samples
  abbrev family_from : Listed M → List Sample → Family
  family_from l samples =
      let r = l.registration in
      record { name = listed_name l; metric_type = r.metric_type; help = r.help; unit = printed_unit r.unit; samples = samples }

  -- what a metric that isn't empty adds
  pub Adds-family : (l : Listed M) (old new : Collected) (samples : List Sample) → IsListable l
      → Formed (declared.offers l.registration.metric) (declared.stamps l.registration.metric) (listed_name l) l.registration.metric_type l.labels samples
      → new ≡ with_families old (family_from l samples ∷ []) → Adds declared (l ∷ []) old new
  Adds-family l old new samples fits made is =
      let family = family_from l samples in (
        family ∷ [],
        inr (family, [], refl, (refl, refl, refl, refl, made.admitted), refl),
        (record { name = fits.name; unit = fits.unit; allowed = fits.allowed; samples = made.formed }, tt),
        is,
      )

  pub Adds-++ : (ls ms : List (Listed M)) (a b c : Collected) → Adds declared ls a b → Adds declared ms b c → Adds declared (ls ++ ms) a c
  Adds-++ ls ms a b c (d, first, formed, is) (e, second, forms, longer) = (
    d ++ e,
    Admits-++ declared ls ms d e first second,
    all_append IsFamily d e formed forms,
    longer ∙ ap (λ (x : Collected). with_families x e) is ∙ with_families-++ a d e,
  )

  -- the next metric of a list
  pub Adds-next : (ls : List (Listed M)) (i : ℕ) (l : Listed M) (a b c : Collected) → slice_get ls i ≡ Some l → Adds declared (take i ls) a b → Adds declared (l ∷ []) b c → Adds declared (take (i + 1) ls) a c
  Adds-next ls i l a b c at before next =
      subst (λ ms. Adds declared ms a c) (sym (take_at ls i l at)) (Adds-++ (take i ls) (l ∷ []) a b c before next)

  -- the next subsystem, with those below it
  pub Adds-below : (own : List (Listed M)) (ss : List (Subsystem M)) (i : ℕ) (s : Subsystem M) (a b c : Collected) → i < length ss → s ≡ get_or ss i s
      → Adds declared (own ++ listed_forest (forest_of (take i ss))) a b → Adds declared (listed_tree s.registry) b c → Adds declared (own ++ listed_forest (forest_of (take (i + 1) ss))) a c
  Adds-below own ss i s a b c within is before next =
      let first = listed_forest (forest_of (take i ss)) in
      subst (λ ms. Adds declared ms a c) (append_assoc own first (listed_tree s.registry) ∙ ap (λ ms. own ++ ms) (sym (listed_forest-next ss i s within is)))
      (Adds-++ (own ++ first) (listed_tree s.registry) a b c before next)

  -- if all listed names differ, the families make an exposition
  pub exposition_of : (ls : List (Listed M)) (e : Exposition) → Admits declared ls e → AllByRecursion IsFamily e → AllDifferent (map listed_name ls) → IsExposition e
  exposition_of ls e admits formed differ = record {
    well_formed = formed;
    different = subst AllDifferent (append-nil (map (λ family. family.name) e)) (families_differ declared ls e [] admits (subst AllDifferent (sym (append-nil (map listed_name ls))) differ));
  }
