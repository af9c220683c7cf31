-- The lines of a family, each appended in a few steps.
use Rattle.std.proofs.Common.{◌≡◌, List, [], ◌++◌, codes, append_assoc, Option}
use Rattle.fm_grammar.specs.Exposition.{Text, Label, Sample}
use Rattle.fm_grammar.specs.declared.MetricType.{MetricType}
use Rattle.fm_grammar.specs.Kinds.{suffix_of, type_word}
use Rattle.fm_grammar.specs.Spelling.{escaped, label_list_text, label_block_text, in_braces, value_text, time_text, exemplar_text, sample_line, type_line, help_line}
use Rattle.fm_exposition.specs.Rows.{sample_row, head_rows, unit_row}
use Rattle.fm_text.specs.inside.Grown.{Grows}
use Rattle.fm_text.proofs.GrownLemmas.{grown_then}

-- what comes after the value
abbrev pub after_value : Sample → Text
after_value s = time_text s.time ++ (exemplar_text s.exemplar ++ codes "\n")

-- what comes before the value
abbrev pub before_value : Text → Text → List Label → Text
before_value name suffix labels = name ++ (suffix ++ (label_block_text labels ++ codes " "))

braced_is : (name suffix list : Text) → (name ++ (suffix ++ codes "{")) ++ (list ++ codes "} ") ≡ name ++ (suffix ++ ((codes "{" ++ (list ++ codes "}")) ++ codes " "))
braced_is name suffix list = simp append_assoc

row_is : (name suffix block value time exemplar : Text) → (name ++ (suffix ++ (block ++ codes " "))) ++ (value ++ (time ++ (exemplar ++ codes "\n"))) ≡ (name ++ (suffix ++ (block ++ (codes " " ++ (value ++ (time ++ exemplar)))))) ++ codes "\n"
row_is name suffix block value time exemplar = simp append_assoc

pub begun_bare : (a b : Text → Type 0) (name suffix : Text) (labels : List Label) → label_block_text labels ≡ [] → Grows a b (name ++ (suffix ++ codes " ")) → Grows a b (before_value name suffix labels)
begun_bare a b name suffix labels none start = rw none start

pub begun_braced : (a b c : Text → Type 0) (name suffix : Text) (labels : List Label) → label_block_text labels ≡ in_braces labels → Grows a b (name ++ (suffix ++ codes "{")) → Grows b c (label_list_text labels ++ codes "} ") → Grows a c (before_value name suffix labels)
unfolding in_braces
begun_braced a b c name suffix labels some start list = rw (some, ← braced_is name suffix (label_list_text labels)) (grown_then a b c _ _ start list)

pub row_begun : (a b c : Text → Type 0) (name : Text) (s : Sample) → Grows a b (before_value name (suffix_of s.kind) s.labels) → Grows b c (value_text s.value ++ after_value s) → Grows a c (sample_row name s)
unfolding sample_line
row_begun a b c name s start end =
    rw (← row_is name (suffix_of s.kind) (label_block_text s.labels) (value_text s.value) (time_text s.time) (exemplar_text s.exemplar)) (grown_then a b c _ _ start end)

-- the lines before the samples, cut after the type line's name and the help line's text
heads_are : (type name space word feed help_word help unit : Text) → (type ++ (name ++ (space ++ (word ++ (feed ++ help_word))))) ++ ((name ++ (space ++ help)) ++ (feed ++ unit)) ≡ ((type ++ (name ++ (space ++ word))) ++ feed) ++ (((help_word ++ (name ++ (space ++ help))) ++ feed) ++ unit)
heads_are type name space word feed help_word help unit = simp append_assoc

pub heads_whole : (a b c d : Text → Type 0) (name help : Text) (m : MetricType) (unit : Option Text) → Grows a b (codes "# TYPE " ++ (name ++ (codes " " ++ (type_word m ++ codes "\n# HELP ")))) → Grows b c (name ++ (codes " " ++ escaped help)) → Grows c d (codes "\n" ++ unit_row name unit)
    → Grows a d (head_rows (record { name = name; metric_type = m; help = help; unit = unit; samples = [] }))
unfolding type_line help_line
heads_whole a b c d name help m unit start middle end =
    let cut = heads_are (codes "# TYPE ") name (codes " ") (type_word m) (codes "\n") (codes "# HELP ") (escaped help) (unit_row name unit) in
    rw cut at (grown_then a b d _ _ start (grown_then b c d _ _ middle end))
