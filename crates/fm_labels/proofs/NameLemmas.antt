-- The names of labels, and that valid labels have valid and different names.
use Rattle.std.proofs.Common.{◌≡◌, ◌≢◌, zero, suc, List, [], ◌∷◌, ◌++◌, map, ◌⊎◌, inl, inr, refl, sym, ap, subst, arith, append-nil, append_assoc, String, Global, string_bytes, Contains, codes}
use Rattle.std.specs.List.{AllByRecursion}
use Rattle.std.proofs.lemmas.List.Elements.{Contains-append_right}
use Rattle.fm_grammar.specs.declared.MetricType.{MetricType}
use Rattle.fm_grammar.specs.Exposition.{Text, Label}
use Rattle.fm_grammar.specs.Names.{IsLowerLetter, IsDigit, IsWord, BeginsWithLetter, IsSnakeCase, IsLabelName, AllDifferent}
use Rattle.fm_grammar.specs.inside.Words.{further_words, IsLabelByte}
use Rattle.fm_grammar.specs.WellFormed.{AreLabels}
use Rattle.fm_grammar.specs.LabelPairs.{labels_of}
use Rattle.fm_labels.specs.Labels.{EmittedLabel, NamePiece, ValuePiece, IsReserved, label_names, NameFits, LabelValid, LabelsValid, written, all_written, emitted_again}
use Rattle.fm_labels.specs.inside.FreeLabels.{AreFree, HasReserved}

abbrev pub Pairs : Type 0
Pairs = List (String Global × String Global)

Contains-cons : (x y : Text) (xs : List Text) → Contains xs x → Contains (y ∷ xs) x
Contains-cons x y xs there = Contains-append_right (y ∷ []) xs x there

names_of-append : (xs ys : List Label) → label_names (xs ++ ys) ≡ label_names xs ++ label_names ys
names_of-append [] ys = refl
names_of-append (x ∷ xs) ys = ap (λ (ns : List Text). x.name ∷ ns) (names_of-append xs ys)

valid-push : (xs : List Label) (l : Label) → AllByRecursion (λ label. IsLabelName label.name) xs → IsLabelName l.name → AllByRecursion (λ label. IsLabelName label.name) (xs ++ l ∷ [])
valid-push [] l h valid = (valid, tt)
valid-push (x ∷ xs) l h valid = (h.0, valid-push xs l h.1 valid)

others-push : (names : List Text) (name last : Text) → AllByRecursion (λ other. other ≢ name) names → last ≢ name → AllByRecursion (λ other. other ≢ name) (names ++ last ∷ [])
others-push [] name last h other = (other, tt)
others-push (n ∷ names) name last h other = (h.0, others-push names name last h.1 other)

different-push : (names : List Text) (last : Text) → AllDifferent names → ¬ (Contains names last) → AllDifferent (names ++ last ∷ [])
different-push [] last h fresh = (tt, tt)
different-push (n ∷ names) last h fresh =
    (others-push names n last h.0 (λ same. fresh (0, omega arith, sym same)), different-push names last h.1 (λ there. fresh (Contains-cons last n names there)))

-- a label whose name fits, after well-formed labels
AreLabels-push : (type : MetricType) (before : List Label) (l : Label) → AreLabels before → NameFits type before l.name → AreLabels (before ++ l ∷ [])
AreLabels-push type before l h fits = record {
  names = valid-push before l h.names fits.valid;
  different = subst AllDifferent (sym (names_of-append before (l ∷ []))) (different-push (label_names before) l.name h.different fits.fresh);
}

AreLabels-valid : (type : MetricType) (before : List Label) (label : EmittedLabel) → AreLabels before → LabelValid type before label → AreLabels (before ++ written label)
AreLabels-valid type before label h (inl none) = subst (λ (l : EmittedLabel). AreLabels (before ++ written l)) (sym none) (subst AreLabels (sym (append-nil before)) h)
AreLabels-valid type before label h (inr (n, t, is, fits)) =
    subst (λ (l : EmittedLabel). AreLabels (before ++ written l)) (sym is) (AreLabels-push type before (record { name = n; value = t }) h fits)

AreLabels-after : (type : MetricType) (before : List Label) (labels : List EmittedLabel) → AreLabels before → LabelsValid type before labels → AreLabels (before ++ all_written labels)
AreLabels-after type before [] h valid = subst AreLabels (sym (append-nil before)) h
AreLabels-after type before (label ∷ labels) h valid =
    subst AreLabels (append_assoc before (written label) (all_written labels)) (AreLabels-after type (before ++ written label) labels (AreLabels-valid type before label h valid.0) valid.1)

-- valid labels are well formed as they are written
pub AreLabels-written : (type : MetricType) (labels : List EmittedLabel) → LabelsValid type [] labels → AreLabels (all_written labels)
AreLabels-written type labels valid = AreLabels-after type [] labels (record { names = tt; different = tt }) valid

-- written labels are emitted again, as pairs of two strings are
pub emitted_again-pairs : (ls : Pairs) → map (λ p. NamePiece (string_bytes p.0) ∷ ValuePiece (string_bytes p.1) ∷ []) ls ≡ emitted_again (labels_of ls)
emitted_again-pairs [] = refl
emitted_again-pairs (l ∷ ls) = ap (λ (hs : List EmittedLabel). (NamePiece (string_bytes l.0) ∷ ValuePiece (string_bytes l.1) ∷ []) ∷ hs) (emitted_again-pairs ls)

-- labels that are valid after well-formed ones
pub AreLabels-joined : (type : MetricType) (before ls : List Label) (labels : List EmittedLabel) → AreLabels before → LabelsValid type before labels → ls ≡ before ++ all_written labels → AreLabels ls
AreLabels-joined type before ls labels h valid is = subst AreLabels (sym is) (AreLabels-after type before labels h valid)

all_bytes-append : (xs ys : Text) → AllByRecursion IsLabelByte xs → AllByRecursion IsLabelByte ys → AllByRecursion IsLabelByte (xs ++ ys)
all_bytes-append [] ys h more = more
all_bytes-append (x ∷ xs) ys h more = (h.0, all_bytes-append xs ys h.1 more)

word_bytes : (word : Text) → AllByRecursion (λ b. IsLowerLetter b ⊎ IsDigit b) word → AllByRecursion IsLabelByte word
word_bytes [] h = tt
word_bytes (b ∷ word) h = (elim h.0 as (λ _. IsLabelByte b) [ inl letter ↦ inl (inl letter) | inr digit ↦ inr digit ], word_bytes word h.1)

whole_word_bytes : (word : Text) → IsWord word → AllByRecursion IsLabelByte word
whole_word_bytes [] h = absurd h
whole_word_bytes (b ∷ word) h = word_bytes (b ∷ word) h

further_bytes : (words : List Text) → AllByRecursion IsWord words → AllByRecursion IsLabelByte (further_words words)
further_bytes [] h = tt
further_bytes (word ∷ words) h =
    all_bytes-append (codes "_" ++ word) (further_words words) (inl (inr (inr refl)), whole_word_bytes word h.0) (further_bytes words h.1)

label_name_of_words : (first : Text) (further : List Text) → IsWord first → BeginsWithLetter first → AllByRecursion IsWord further → IsLabelName (first ++ further_words further)
label_name_of_words [] further word letter words = absurd word
label_name_of_words (b ∷ rest) further word letter words =
    (inl letter, all_bytes-append rest (further_words further) (word_bytes rest word.1) (further_bytes further words))

-- a name in snake case is a label name
pub label_name_of_snake_case : (name : Text) → IsSnakeCase name → IsLabelName name
label_name_of_snake_case name h = subst IsLabelName (sym h.is) (label_name_of_words h.first h.further h.word h.letter h.words)

-- a label of a family's name, after labels that have another
pub AreLabels-named : (before ls : List Label) (l : Label) → AreLabels before → IsSnakeCase l.name → ¬ (Contains (label_names before) l.name) → ls ≡ before ++ l ∷ [] → AreLabels ls
AreLabels-named before ls l h snake fresh is =
    subst AreLabels (sym is) (record {
      names = valid-push before l h.names (label_name_of_snake_case l.name snake);
      different = subst AllDifferent (sym (names_of-append before (l ∷ []))) (different-push (label_names before) l.name h.different fresh);
    })

AreFree-append : (type : MetricType) (xs ys : List Label) → AreFree type xs → AreFree type ys → AreFree type (xs ++ ys)
AreFree-append type [] ys h more = more
AreFree-append type (x ∷ xs) ys h more = (h.0, AreFree-append type xs ys h.1 more)

AreFree-valid : (type : MetricType) (before : List Label) (label : EmittedLabel) → LabelValid type before label → AreFree type (written label)
AreFree-valid type before label (inl none) = subst (λ (l : EmittedLabel). AreFree type (written l)) (sym none) tt
AreFree-valid type before label (inr (n, t, is, fits)) = subst (λ (l : EmittedLabel). AreFree type (written l)) (sym is) (fits.free, tt)

-- valid labels have no reserved names
pub AreFree-written : (type : MetricType) (before : List Label) (labels : List EmittedLabel) → LabelsValid type before labels → AreFree type (all_written labels)
AreFree-written type before [] valid = tt
AreFree-written type before (label ∷ labels) valid =
    AreFree-append type (written label) (all_written labels) (AreFree-valid type before label valid.0) (AreFree-written type _ labels valid.1)

AreFree-without : (type : MetricType) (before : List Label) (name : Text) → AreFree type before → IsReserved type name → ¬ (Contains (label_names before) name)
AreFree-without type [] name h reserved (i, within, is) = absurd (omega arith)
AreFree-without type (x ∷ before) name h reserved (zero, within, is) = h.0 (subst (IsReserved type) (sym is) reserved)
AreFree-without type (x ∷ before) name h reserved (suc i, within, is) = AreFree-without type before name h.1 reserved (i, omega arith, is)

-- a label with a name that the type reserves, after the common labels
pub AreLabels-own : (type : MetricType) (before ls : List Label) (l : Label) → AreLabels before → AreFree type before → IsReserved type l.name → IsLabelName l.name → ls ≡ before ++ l ∷ [] → AreLabels ls
AreLabels-own type before ls l h free reserved valid is =
    subst AreLabels (sym is) (record {
      names = valid-push before l h.names valid;
      different = subst AllDifferent (sym (names_of-append before (l ∷ []))) (different-push (label_names before) l.name h.different (AreFree-without type before l.name free reserved));
    })

-- labels are free where none has the reserved name
pub AreFree-unless : (type : MetricType) (ls : List Label) → ¬ (HasReserved type ls) → AreFree type ls
AreFree-unless type [] none = tt
AreFree-unless type (l ∷ ls) none = (
  λ reserved. none (l.name, reserved, (0, omega arith, refl)),
  AreFree-unless type ls (λ has. none (has.0, has.1, Contains-cons has.0 l.name (label_names ls) has.2)),
)

pub AreFree-left : (type : MetricType) (xs ys : List Label) → AreFree type (xs ++ ys) → AreFree type xs
AreFree-left type [] ys h = tt
AreFree-left type (x ∷ xs) ys h = (h.0, AreFree-left type xs ys h.1)

pub AreFree-right : (type : MetricType) (xs ys : List Label) → AreFree type (xs ++ ys) → AreFree type ys
AreFree-right type [] ys h = h
AreFree-right type (x ∷ xs) ys h = AreFree-right type xs ys h.1
