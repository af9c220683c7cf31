-- The front of a line, and a line that is appended after it.
use Rattle.std.proofs.Common.{◌≡◌, ◌<◌, List, [], ◌∷◌, ◌++◌, length, codes, append_assoc, append-nil, arith, ap, sym, refl, ◌∙◌}
use Rattle.fm_grammar.specs.Exposition.{Text, Label, Sample}
use Rattle.fm_grammar.specs.declared.SampleKind.{SampleKind}
use Rattle.fm_grammar.specs.Kinds.{suffix_of}
use Rattle.fm_grammar.specs.Spelling.{label_list_text, label_block_text, in_braces, value_text, time_text, exemplar_text, sample_line}
use Rattle.fm_exposition.specs.Rows.{sample_row}
use Rattle.fm_text.specs.inside.LabelTexts.{list_before}
use Rattle.fm_writer.specs.Front.{line_front}
use Rattle.fm_writer.specs.Output.{OutputText, appended}
use Rattle.fm_text.specs.inside.Grown.{Grown, Grows}
use Rattle.fm_text.proofs.GrownLemmas.{block_front, block_back, list_after}
use Rattle.fm_writer.proofs.RowLemmas.{after_value}

after_is : (name suffix front list value time exemplar : Text) → ((name ++ (suffix ++ (codes "{" ++ front))) ++ (list ++ codes "} ")) ++ (value ++ (time ++ (exemplar ++ codes "\n"))) ≡ (name ++ (suffix ++ ((codes "{" ++ ((front ++ list) ++ codes "}")) ++ (codes " " ++ (value ++ (time ++ exemplar)))))) ++ codes "\n"
after_is name suffix front list value time exemplar = simp append_assoc

-- what comes after the front of a sample's line, if the sample has labels of its own
row_after : (name : Text) (common own : List Label) (s : Sample) → s.labels ≡ common ++ own → 0 < length own → (line_front name s.kind common ++ (label_list_text own ++ codes "} ")) ++ (value_text s.value ++ after_value s) ≡ sample_row name s
unfolding sample_line in_braces line_front
row_after name common own s is more =
    let block : label_block_text s.labels ≡ in_braces s.labels = rw is (block_back common own more) in
    let list : list_before common ++ label_list_text own ≡ label_list_text s.labels = rw is (list_after common own more) in
    rw (block, ← list) (after_is name (suffix_of s.kind) (list_before common) (label_list_text own) (value_text s.value) (time_text s.time) (exemplar_text s.exemplar))

-- a text is the front of lines whose samples have no labels in common, or some
pub front_bare : (name : Text) (kind : SampleKind) (common : List Label) (new : Text) → length common ≡ 0 → Grown [] new (name ++ (suffix_of kind ++ codes "{")) → new ≡ line_front name kind common
unfolding line_front
front_bare name kind [] new none start = start.bytes
front_bare name kind (label ∷ labels) new none start = absurd (omega arith)

pub front_listed : (name : Text) (kind : SampleKind) (common : List Label) (begun new : Text) → 0 < length common → Grown [] begun (name ++ (suffix_of kind ++ codes "{")) → Grows (λ t. begun ≡ t) (λ t. new ≡ t) (label_list_text common ++ codes ",") → new ≡ line_front name kind common
unfolding line_front
front_listed name kind [] begun new more start list = absurd (omega arith)
front_listed name kind (label ∷ labels) begun new more start list =
    let after = label_list_text (label ∷ labels) ++ codes "," in
    list.grows (name ++ (suffix_of kind ++ codes "{")) start.bytes
    ∙ append_assoc name (suffix_of kind ++ codes "{") after
    ∙ ap (λ (t : Text). name ++ t) (append_assoc (suffix_of kind) (codes "{") after)

-- a line that was appended after its front is the line of a sample
pub row_pushed : (old new front name : Text) (common own : List Label) (s : Sample) → s.labels ≡ common ++ own → 0 < length own → front ≡ line_front name s.kind common → Grown old new ((front ++ (label_list_text own ++ codes "} ")) ++ (value_text s.value ++ after_value s)) → OutputText new ≡ appended name (OutputText old) (s ∷ [])
row_pushed old new front name common own s is more front_is grown =
    let row : (front ++ (label_list_text own ++ codes "} ")) ++ (value_text s.value ++ after_value s) ≡ sample_row name s =
    ap (λ (t : Text). (t ++ (label_list_text own ++ codes "} ")) ++ (value_text s.value ++ after_value s)) front_is ∙ row_after name common own s is more in
    ap OutputText (grown.bytes ∙ ap (λ (t : Text). old ++ t) (row ∙ sym (append-nil (sample_row name s))))

cut_after : (front list end rest : Text) → front ++ (list ++ (end ++ rest)) ≡ (front ++ (list ++ end)) ++ rest
cut_after front list end rest = simp append_assoc

-- the same where the line's end is a value and a line feed, and all was appended at once
pub row_after_front : (old new front name value : Text) (common own : List Label) (s : Sample) → s.labels ≡ common ++ own → 0 < length own → front ≡ line_front name s.kind common → value_text s.value ++ after_value s ≡ value ++ codes "\n" → Grown old new (front ++ (label_list_text own ++ (codes "} " ++ (value ++ codes "\n")))) → OutputText new ≡ appended name (OutputText old) (s ∷ [])
row_after_front old new front name value common own s is more front_is end grown =
    row_pushed old new front name common own s is more front_is (rw (cut_after front (label_list_text own) (codes "} ") (value ++ codes "\n"), ← end) at grown)

braces_are : (name suffix list value time exemplar : Text) → name ++ (suffix ++ (codes "{" ++ (list ++ (codes "} " ++ (value ++ (time ++ (exemplar ++ codes "\n"))))))) ≡ (name ++ (suffix ++ ((codes "{" ++ (list ++ codes "}")) ++ (codes " " ++ (value ++ (time ++ exemplar)))))) ++ codes "\n"
braces_are name suffix list value time exemplar = simp append_assoc

row_braced : (name : Text) (common : List Label) (s : Sample) → s.labels ≡ common ++ [] → 0 < length common → name ++ (suffix_of s.kind ++ (codes "{" ++ (label_list_text common ++ (codes "} " ++ (value_text s.value ++ after_value s))))) ≡ sample_row name s
unfolding sample_line in_braces
row_braced name common s is more =
    let labels : s.labels ≡ common = is ∙ append-nil common in
    let block : label_block_text s.labels ≡ in_braces s.labels = rw is (block_front common [] more) in
    rw (block, labels) (braces_are name (suffix_of s.kind) (label_list_text common) (value_text s.value) (time_text s.time) (exemplar_text s.exemplar))

-- the same of a sample without labels of its own
pub row_in_braces : (old new name value : Text) (common own : List Label) (s : Sample) → s.labels ≡ common ++ own → length own ≡ 0 → 0 < length common → value_text s.value ++ after_value s ≡ value ++ codes "\n" → Grown old new (name ++ (suffix_of s.kind ++ (codes "{" ++ (label_list_text common ++ (codes "} " ++ (value ++ codes "\n")))))) → OutputText new ≡ appended name (OutputText old) (s ∷ [])
row_in_braces old new name value common [] s is none more end grown =
    let row = rw (← end) at grown in
    ap OutputText (row.bytes ∙ ap (λ (t : Text). old ++ t) (row_braced name common s is more ∙ sym (append-nil (sample_row name s))))
row_in_braces old new name value common (label ∷ labels) s is none more end grown = absurd (omega (arith, none))
