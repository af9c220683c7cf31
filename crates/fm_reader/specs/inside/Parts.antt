-- What is found in the parts of a sample line: a part and the text after it, or that the text does not begin with such
-- a part.
use Rattle.std.specs.Prelude.{◌≡◌, ◌≢◌, ◌⊎◌, ℕ, ◌^◌, ℤ, List, [], ◌∷◌, ◌++◌, ⊤, Option, Some, None, IfSome, Contains}
use Rattle.std.specs.Borrow.{Bor}
use Rattle.std.specs.List.{AllByRecursion}
use Rattle.fm_grammar.specs.declared.MetricType.{MetricType}
use Rattle.fm_grammar.specs.declared.SampleKind.{SampleKind}
use Rattle.fm_grammar.specs.Exposition.{Text, Label, Value, Millis, Exemplar}
use Rattle.fm_grammar.specs.Kinds.{suffix_of}
use Rattle.fm_grammar.specs.Numbers.{fixed_text}
use Rattle.fm_grammar.specs.Spelling.{label_list_text, label_block_text, value_text, time_text, exemplar_text}
use Rattle.fm_grammar.specs.WellFormed.{kinds_of, AreLabels, ValueSuits, ValueFits, AreMillis, ExemplarAllowed, IsExemplar, IsBetween}

-- what comes after the suffix of a kind: an opening brace or a space
abbrev pub EndsName : Text → Type 0
EndsName [] = ⊥
EndsName (byte ∷ text) = (byte ≡ 123) ⊎ (byte ≡ 32)

abbrev pub IsKindFront : MetricType → Text → Option (SampleKind × Text) → Type 0
IsKindFront metric_type text None = (kind : SampleKind) (rest : Text) → Contains (kinds_of metric_type) kind → EndsName rest → text ≢ suffix_of kind ++ rest
IsKindFront metric_type text (Some (kind, rest)) = Contains (kinds_of metric_type) kind × EndsName rest × (text ≡ suffix_of kind ++ rest)

abbrev pub IsAfterSuffix : SampleKind → Text → Option Text → Type 0
IsAfterSuffix kind text None = (rest : Text) → EndsName rest → text ≢ suffix_of kind ++ rest
IsAfterSuffix kind text (Some rest) = EndsName rest × (text ≡ suffix_of kind ++ rest)

abbrev pub seen_kind : Option (SampleKind × Bor Text) → Option (SampleKind × Text)
seen_kind None = None
seen_kind (Some (kind, rest)) = Some (kind, rest.now)

-- the text is that of valid labels
pub record IsListText (text : Text) (labels : List Label) : Type 0 where
  pub is : text ≡ label_list_text labels
  pub valid : AreLabels labels

-- labels after an opening brace, then the closing brace and a space
abbrev pub IsBracesFront : Text → Option (List Label × Text) → Type 0
IsBracesFront text None = (labels : List Label) (rest : Text) → AreLabels labels → text ≢ label_list_text labels ++ (125 ∷ 32 ∷ rest)
IsBracesFront text (Some (labels, rest)) = AreLabels labels × (text ≡ label_list_text labels ++ (125 ∷ 32 ∷ rest))

-- labels in braces, if there are any, and a space
abbrev pub IsBlockFront : Text → Option (List Label × Text) → Type 0
IsBlockFront text None = (labels : List Label) (rest : Text) → AreLabels labels → text ≢ label_block_text labels ++ (32 ∷ rest)
IsBlockFront text (Some (labels, rest)) = AreLabels labels × (text ≡ label_block_text labels ++ (32 ∷ rest))

-- nothing, or a space and the text after it
abbrev pub tail_text : Option (Bor Text) → Text
tail_text None = []
tail_text (Some rest) = 32 ∷ rest.now

-- the text up to the first space, and the rest of it
pub record IsToken (text token tail : Text) : Type 0 where
  pub is : text ≡ token ++ tail
  pub unspaced : AllByRecursion (λ byte. byte ≢ 32) token

abbrev pub FoundValue : SampleKind → Text → Option Value → Type 0
FoundValue kind text None = (value : Value) → ValueSuits kind value → ValueFits value → text ≢ value_text value
FoundValue kind text (Some value) = ValueSuits kind value × ValueFits value × (text ≡ value_text value)

-- a value that isn't in milliseconds
abbrev pub HasNoMillis : Value → Type 0
HasNoMillis (Millis t) = ⊥
HasNoMillis _ = ⊤

abbrev pub FoundNumber : Text → Option Value → Type 0
FoundNumber text None = (value : Value) → HasNoMillis value → ValueFits value → text ≢ value_text value
FoundNumber text (Some value) = HasNoMillis value × ValueFits value × (text ≡ value_text value)

-- what may come after a timestamp, or instead of one: nothing, or an exemplar
abbrev pub EndsTime : Text → Type 0
EndsTime text = (text ≡ []) ⊎ ((rest : Text) × (text ≡ 32 ∷ 35 ∷ rest))

abbrev pub EndsAt : Option ℕ → Text → Type 0
EndsAt None rest = EndsTime rest
EndsAt (Some time) rest = ⊤

abbrev pub IsTimeFront : Text → Option (Option ℕ × Option (Bor Text)) → Type 0
IsTimeFront text None = (time : Option ℕ) (rest : Text) → IfSome time AreMillis → EndsTime rest → text ≢ time_text time ++ rest
IsTimeFront text (Some (time, tail)) = IfSome time AreMillis × EndsAt time (tail_text tail) × (text ≡ time_text time ++ tail_text tail)

-- millionths in the range of an exemplar's value
abbrev pub FoundSmall : Text → Option ℤ → Type 0
FoundSmall text None = (z : ℤ) → IsBetween (2 ^ 63) (2 ^ 63) z → text ≢ fixed_text z
FoundSmall text (Some z) = IsBetween (2 ^ 63) (2 ^ 63) z × (text ≡ fixed_text z)

-- an exemplar after its opening brace
abbrev pub body_text : Exemplar → Text
body_text exemplar = label_list_text exemplar.labels ++ (125 ∷ 32 ∷ (fixed_text exemplar.value ++ time_text exemplar.time))

abbrev pub FoundBody : Text → Option Exemplar → Type 0
FoundBody text None = (exemplar : Exemplar) → IsExemplar exemplar → text ≢ body_text exemplar
FoundBody text (Some exemplar) = IsExemplar exemplar × (text ≡ body_text exemplar)

-- an exemplar, or nothing
abbrev pub FoundExemplar : SampleKind → Text → Option (Option Exemplar) → Type 0
FoundExemplar kind text None = (exemplar : Option Exemplar) → ExemplarAllowed kind exemplar → IfSome exemplar IsExemplar → text ≢ exemplar_text exemplar
FoundExemplar kind text (Some exemplar) = ExemplarAllowed kind exemplar × IfSome exemplar IsExemplar × (text ≡ exemplar_text exemplar)

-- a sample's value, timestamp and exemplar
pub record Shown : Type 0 where
  pub value : Value
  pub time : Option ℕ
  pub exemplar : Option Exemplar

abbrev pub shown_text : Shown → Text
shown_text shown = value_text shown.value ++ (time_text shown.time ++ exemplar_text shown.exemplar)

-- what a sample of a kind may have
pub record MayShow (kind : SampleKind) (shown : Shown) : Type 0 where
  pub suits : ValueSuits kind shown.value
  pub value : ValueFits shown.value
  pub time : IfSome shown.time AreMillis
  pub allowed : ExemplarAllowed kind shown.exemplar
  pub exemplar : IfSome shown.exemplar IsExemplar

abbrev pub FoundShown : SampleKind → Text → Option Shown → Type 0
FoundShown kind text None = (shown : Shown) → MayShow kind shown → text ≢ shown_text shown
FoundShown kind text (Some shown) = MayShow kind shown × (text ≡ shown_text shown)
