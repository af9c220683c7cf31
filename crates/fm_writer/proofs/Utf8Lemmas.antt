-- The document of an exposition is valid UTF-8.
use Rattle.std.proofs.Common.{◌≡◌, ℕ, zero, suc, ◌<◌, ◌≤◌, ◌+◌, add-one, List, [], ◌∷◌, ◌++◌, arith, refl, Option, Some, None, IfSome, codes, get_or, length, take, subst}
use Rattle.std.proofs.lemmas.Str.{IsUtf8-append, IsUtf8-nil, IsUtf8-string_bytes}
use Rattle.std.specs.List.{AllByRecursion}
use Rattle.std.specs.Box.{box_value}
use Rattle.std.specs.Global.{Box}
use Rattle.std.specs.Option.{option_map}
use Rattle.std.specs.Str.{IsUtf8}
use Rattle.std.specs.declared.alloc.Global.{Global}
use Rattle.std.specs.declared.string.String.{String}
use Rattle.fm_grammar.specs.declared.MetricType.{MetricType}
use Rattle.fm_grammar.specs.Kinds.{suffix_of, type_word}
use Rattle.fm_grammar.specs.Exposition.{Text, Label, Exemplar, Sample, Family, Exposition}
use Rattle.fm_grammar.specs.Names.{IsSnakeCase}
use Rattle.fm_grammar.specs.inside.Words.{IsLabelByte}
use Rattle.fm_grammar.specs.Numbers.{fixed_text, millis_text}
use Rattle.fm_grammar.specs.Spelling.{escaped, label_text, label_list_text, in_braces, label_block_text, value_text, time_text, exemplar_text, type_line, help_line, unit_line, sample_line}
use Rattle.fm_grammar.specs.WellFormed.{IsSample, IsExemplar, IsFamily, IsWellFormed, AreMillis, UnitFits}
use Rattle.fm_grammar.proofs.Exemplars.{exemplar_spellable}
use Rattle.fm_grammar.proofs.FamilyNames.{IsNameByte, word_bytes, snake_case_bytes}
use Rattle.fm_grammar.proofs.Labels.{IsNamed, name_bytes}
use Rattle.fm_grammar.proofs.NumberTexts.{IsUnsignedByte, IsNumberByte, millis_bytes, fixed_bytes}
use Rattle.fm_grammar.proofs.Runs.{all_append}
use Rattle.fm_grammar.proofs.Values.{value_bytes}
use Rattle.fm_grammar.proofs.Words.{IsWordByte, suffix_bytes, type_word_bytes}
use Rattle.fm_exposition.specs.Rows.{sample_rows, unit_row, head_rows}
use Rattle.fm_exposition.specs.inside.DocumentRows.{family_rows, families_rows, document_rows}
use Rattle.fm_grammar.specs.LabelPairs.{labels_of}
use Rattle.fm_exposition.specs.Samples.{boxed_exemplar, common_labels, own_labels, samples_of}
use Rattle.fm_exposition.specs.declared.exposition.Exemplar.{Exemplar as StoredExemplar}
use Rattle.fm_exposition.specs.declared.exposition.Sample.{Sample as StoredSample}
use Rattle.fm_grammar.specs.inside.LabelLists.{AreUtf8Labels}
use Rattle.fm_exposition.specs.inside.Points.{HaveUtf8Labels}
use Rattle.fm_writer.specs.inside.Utf8.{IsUtf8Sample, IsUtf8Family}
use Rattle.fm_writer.proofs.Utf8Escapes.{utf8_ascii, utf8_bytes, utf8_escaped}

name_utf8 : (name : Text) → IsSnakeCase name → IsUtf8 name
name_utf8 name h = utf8_bytes IsNameByte (λ b c. omega arith) name (snake_case_bytes name h)

word_utf8 : (word : Text) → AllByRecursion IsWordByte word → IsUtf8 word
word_utf8 word h = utf8_bytes IsWordByte (λ b c. omega arith) word h

number_utf8 : (text : Text) → AllByRecursion IsNumberByte text → IsUtf8 text
number_utf8 text h = utf8_bytes IsNumberByte (λ b c. grind arith) text h

millis_utf8 : (t : ℕ) → AreMillis t → IsUtf8 (millis_text t)
millis_utf8 t h = utf8_bytes IsUnsignedByte (λ b c. grind arith) (millis_text t) (millis_bytes t (omega arith))

label_utf8 : (label : Label) → IsNamed label → IsUtf8 label.value → IsUtf8 (label_text label)
unfolding label_text
label_utf8 label h u =
    IsUtf8-append label.name _ (utf8_bytes IsLabelByte (λ b c. grind arith) label.name (name_bytes label.name h))
    (IsUtf8-append (codes "=\"") _ (utf8_ascii (codes "=\"") refl) (IsUtf8-append (escaped label.value) (codes "\"") (utf8_escaped label.value u) (utf8_ascii (codes "\"") refl)))

label_list_utf8 : (labels : List Label) → AllByRecursion IsNamed labels → AreUtf8Labels labels → IsUtf8 (label_list_text labels)
label_list_utf8 [] h u = IsUtf8-nil
label_list_utf8 (label ∷ []) h u = label_utf8 label h.0 u.0
label_list_utf8 (label ∷ next ∷ labels) h u =
    IsUtf8-append (label_text label) _ (label_utf8 label h.0 u.0) (IsUtf8-append (codes ",") _ (utf8_ascii (codes ",") refl) (label_list_utf8 (next ∷ labels) h.1 u.1))

braces_utf8 : (labels : List Label) → AllByRecursion IsNamed labels → AreUtf8Labels labels → IsUtf8 (in_braces labels)
unfolding in_braces
braces_utf8 labels h u =
    IsUtf8-append (codes "{") _ (utf8_ascii (codes "{") refl) (IsUtf8-append (label_list_text labels) (codes "}") (label_list_utf8 labels h u) (utf8_ascii (codes "}") refl))

block_utf8 : (labels : List Label) → AllByRecursion IsNamed labels → AreUtf8Labels labels → IsUtf8 (label_block_text labels)
block_utf8 [] h u = IsUtf8-nil
block_utf8 (label ∷ labels) h u = braces_utf8 (label ∷ labels) h u

time_utf8 : (t : Option ℕ) → IfSome t AreMillis → IsUtf8 (time_text t)
time_utf8 None h = IsUtf8-nil
time_utf8 (Some t) h = IsUtf8-append (codes " ") (millis_text t) (utf8_ascii (codes " ") refl) (millis_utf8 t h)

exemplar_utf8 : (x : Option Exemplar) → IfSome x IsExemplar → IfSome x (λ exemplar. AreUtf8Labels exemplar.labels) → IsUtf8 (exemplar_text x)
exemplar_utf8 None h u = IsUtf8-nil
exemplar_utf8 (Some x) h u =
    IsUtf8-append (codes " # ") _ (utf8_ascii (codes " # ") refl)
    (IsUtf8-append (in_braces x.labels) _ (braces_utf8 x.labels h.labels.names u)
    (IsUtf8-append (codes " ") _ (utf8_ascii (codes " ") refl)
    (IsUtf8-append (fixed_text x.value) (time_text x.time) (number_utf8 (fixed_text x.value) (fixed_bytes x.value (exemplar_spellable x h))) (time_utf8 x.time h.time))))

ended_utf8 : (line : Text) → IsUtf8 line → IsUtf8 (line ++ codes "\n")
ended_utf8 line u = IsUtf8-append line (codes "\n") u (utf8_ascii (codes "\n") refl)

sample_utf8 : (name : Text) (m : MetricType) (x : Sample) → IsSnakeCase name → IsSample m x → IsUtf8Sample x → IsUtf8 (sample_line name x)
unfolding sample_line
sample_utf8 name m x n h u =
    IsUtf8-append name _ (name_utf8 name n)
    (IsUtf8-append (suffix_of x.kind) _ (word_utf8 (suffix_of x.kind) (suffix_bytes x.kind))
    (IsUtf8-append (label_block_text x.labels) _ (block_utf8 x.labels h.labels.names u.labels)
    (IsUtf8-append (codes " ") _ (utf8_ascii (codes " ") refl)
    (IsUtf8-append (value_text x.value) _ (number_utf8 (value_text x.value) (value_bytes x.value h.value))
    (IsUtf8-append (time_text x.time) (exemplar_text x.exemplar) (time_utf8 x.time h.time) (exemplar_utf8 x.exemplar h.exemplar u.exemplar))))))

samples_utf8 : (name : Text) (m : MetricType) (xs : List Sample) → IsSnakeCase name → AllByRecursion (IsSample m) xs → AllByRecursion IsUtf8Sample xs → IsUtf8 (sample_rows name xs)
samples_utf8 name m [] n h u = IsUtf8-nil
samples_utf8 name m (x ∷ xs) n h u = IsUtf8-append _ _ (ended_utf8 (sample_line name x) (sample_utf8 name m x n h.0 u.0)) (samples_utf8 name m xs n h.1 u.1)

type_utf8 : (name : Text) (m : MetricType) → IsSnakeCase name → IsUtf8 (type_line name m)
unfolding type_line
type_utf8 name m n =
    IsUtf8-append (codes "# TYPE ") _ (utf8_ascii (codes "# TYPE ") refl)
    (IsUtf8-append name _ (name_utf8 name n) (IsUtf8-append (codes " ") (type_word m) (utf8_ascii (codes " ") refl) (word_utf8 (type_word m) (type_word_bytes m))))

help_utf8 : (name help : Text) → IsSnakeCase name → IsUtf8 help → IsUtf8 (help_line name help)
unfolding help_line
help_utf8 name help n u =
    IsUtf8-append (codes "# HELP ") _ (utf8_ascii (codes "# HELP ") refl)
    (IsUtf8-append name _ (name_utf8 name n) (IsUtf8-append (codes " ") (escaped help) (utf8_ascii (codes " ") refl) (utf8_escaped help u)))

unit_utf8 : (name : Text) (unit : Option Text) → IsSnakeCase name → UnitFits name unit → IsUtf8 (unit_row name unit)
unfolding unit_line
unit_utf8 name None n h = IsUtf8-nil
unit_utf8 name (Some unit) n h =
    ended_utf8 (unit_line name unit)
    (IsUtf8-append (codes "# UNIT ") _ (utf8_ascii (codes "# UNIT ") refl)
    (IsUtf8-append name _ (name_utf8 name n) (IsUtf8-append (codes " ") unit (utf8_ascii (codes " ") refl) (utf8_bytes IsNameByte (λ b c. omega arith) unit (word_bytes unit h.0)))))

family_utf8 : (f : Family) → IsFamily f → IsUtf8Family f → IsUtf8 (family_rows f)
family_utf8 f h u =
    IsUtf8-append (head_rows f) (sample_rows f.name f.samples)
    (IsUtf8-append _ _ (ended_utf8 _ (type_utf8 f.name f.metric_type h.name)) (IsUtf8-append _ (unit_row f.name f.unit) (ended_utf8 _ (help_utf8 f.name f.help h.name u.help)) (unit_utf8 f.name f.unit h.name h.unit)))
    (samples_utf8 f.name f.metric_type f.samples h.name h.samples u.samples)

families_utf8 : (e : Exposition) → IsWellFormed e → AllByRecursion IsUtf8Family e → IsUtf8 (families_rows e)
families_utf8 [] h u = IsUtf8-nil
families_utf8 (f ∷ e) h u = IsUtf8-append (family_rows f) (families_rows e) (family_utf8 f h.0 u.0) (families_utf8 e h.1 u.1)

-- the document of a well-formed exposition whose texts are valid UTF-8 is valid UTF-8
pub document_utf8 : (e : Exposition) → IsWellFormed e → AllByRecursion IsUtf8Family e → IsUtf8 (document_rows e)
document_utf8 e h u = IsUtf8-append (families_rows e) (codes "# EOF\n") (families_utf8 e h u) (utf8_ascii (codes "# EOF\n") refl)

-- exemplars have strings, whose bytes are valid UTF-8

labels_utf8 : (pairs : List (String Global × String Global)) → AreUtf8Labels (labels_of pairs)
labels_utf8 [] = tt
labels_utf8 (pair ∷ pairs) = (IsUtf8-string_bytes pair.1, labels_utf8 pairs)

stored_exemplar : (x : Option (Box StoredExemplar)) → IfSome (option_map boxed_exemplar x) (λ exemplar. AreUtf8Labels exemplar.labels)
stored_exemplar None = tt
stored_exemplar (Some x) = labels_utf8 (box_value x).labels.items

-- samples as they are kept
pub stored_samples : (samples : List StoredSample) → HaveUtf8Labels samples → AllByRecursion IsUtf8Sample (samples_of samples)
stored_samples [] have = tt
stored_samples (s ∷ samples) have = (
  record {
    labels = all_append (λ label. IsUtf8 label.value) (common_labels s) (own_labels s) have.0.0 have.0.1;
    exemplar = stored_exemplar s.exemplar;
  },
  stored_samples samples have.1,
)

-- within a loop: the items so far, and all of them

taken_one : {X : Type 0} (P : X → Type 0) (xs : List X) (i : ℕ) (x : X) → i < length xs → x ≡ get_or xs i x → P x → AllByRecursion P (take i xs) → AllByRecursion P (take (suc i) xs)
taken_one P [] i x within is p all = absurd (omega arith)
taken_one P (y ∷ xs) zero x within is p all = (subst P is p, tt)
taken_one P (y ∷ xs) (suc i) x within is p all = (all.0, taken_one P xs i x (omega arith) is p all.1)

pub taken_more : {X : Type 0} (P : X → Type 0) (xs : List X) (i : ℕ) (x : X) → i < length xs → x ≡ get_or xs i x → P x → AllByRecursion P (take i xs) → AllByRecursion P (take (i + 1) xs)
taken_more P xs i x within is p all = rw add-one (taken_one P xs i x within is p all)

pub taken_all : {X : Type 0} (P : X → Type 0) (xs : List X) (i : ℕ) → length xs ≤ i → AllByRecursion P (take i xs) → AllByRecursion P xs
taken_all P [] i end all = tt
taken_all P (y ∷ xs) zero end all = absurd (omega arith)
taken_all P (y ∷ xs) (suc i) end all = (all.0, taken_all P xs i (omega arith) all.1)
