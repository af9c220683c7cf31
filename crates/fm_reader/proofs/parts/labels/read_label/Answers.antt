use Rattle.std.proofs.Common.{rules, ◌∷◌, string_bytes, Some, None, lit<, refl}
use Rattle.std.proofs.lemmas.Str.Pattern.{strip_prefix_char}
use Rattle.fm_reader.proofs.LabelFronts.{no_quote, no_value, no_last_quote, label_front}
use Rattle.fm_reader.proofs.parts.labels.read_label.Goals as goal

pub returns-in_default : goal.returns-in_default
returns-in_default c = c.in_default.ensures

pub returns-in_default-strip_prefix : goal.returns-in_default-strip_prefix
returns-in_default-strip_prefix c =
    no_quote _ _ _ c.in-Some.ensures.1
    (strip_prefix_char 34 _ None c.in_default-strip_prefix.ensures.cases (lit< tt))

pub returns-in_default-2 : goal.returns-in_default-2
returns-in_default-2 c =
    no_value _ _ _ _ c.in-Some.ensures.1
    (strip_prefix_char 34 _ (Some c.in-Some-strip_prefix.quoted) c.in-Some-strip_prefix.ensures.cases (lit< tt))
    (rw c.in_default-2.is at c.in_ok-value.ensures)

pub returns-in_default-strip_prefix-2 : goal.returns-in_default-strip_prefix-2
returns-in_default-strip_prefix-2 c =
    no_last_quote _ _ _ _ _ _ c.in-Some.ensures.1
    (strip_prefix_char 34 _ (Some c.in-Some-strip_prefix.quoted) c.in-Some-strip_prefix.ensures.cases (lit< tt))
    (rw c.in-Some-2.is at c.in_ok-value.ensures)
    (strip_prefix_char 34 _ None c.in_default-strip_prefix-2.ensures.cases (lit< tt))

pub returns-in-Some-split_plain : goal.returns-in-Some-split_plain
returns-in-Some-split_plain c = (
  record { name = c.in-Some.name.now; value = c.in-Some-split_plain.value.now },
  label_front _ _ _ _ _ (34 ∷ c.in-Some-split_plain.rest.now) _ c.in-Some.ensures.1.0 c.in-Some.ensures.0
      (strip_prefix_char 34 _ (Some c.in-Some-strip_prefix.quoted) c.in-Some-strip_prefix.ensures.cases (lit< tt)) c.in-Some-split_plain.ensures refl,
  c.in_ok-push.ensures.pushed,
)

pub returns : goal.returns
returns c =
    let found = rw c.in-Some-2.is at c.in_ok-value.ensures in (
      record { name = c.in-Some.name.now; value = string_bytes c.in-Some-2.value },
      label_front _ _ _ _ _ _ _ c.in-Some.ensures.1.0 c.in-Some.ensures.0
          (strip_prefix_char 34 _ (Some c.in-Some-strip_prefix.quoted) c.in-Some-strip_prefix.ensures.cases (lit< tt)) found.1
          (strip_prefix_char 34 _ (Some c.in-Some-strip_prefix-2.rest) c.in-Some-strip_prefix-2.ensures.cases (lit< tt)),
      search rules,
    )
