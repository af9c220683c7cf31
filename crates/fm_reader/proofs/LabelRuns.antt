-- The run of a label name's bytes at the front of a text.
use Rattle.std.proofs.Common.{◌≡◌, ◌≢◌, ℕ, zero, suc, ◌+◌, ◌<◌, ◌≤◌, ◌⊎◌, inl, inr, Bool, true, false, cond, ◌&&◌, ◌||◌, nat_le, nat_eq, [], ◌∷◌, ◌++◌, length, get_or, take, drop, refl, sym, subst, ap, ap₂, ◌∙◌, arith}
use Rattle.std.specs.Bool.{Decides}
use Rattle.std.specs.List.{AllByRecursion, prefix_len}
use Rattle.std.specs.Str.{IsCharBoundary, IsUtf8}
use Rattle.std.proofs.lemmas.Bool.{true≢false}
use Rattle.std.proofs.lemmas.Bool.Decides.{Decides-and, Decides-or, Decides-eqb, nat_tests}
use Rattle.std.proofs.lemmas.List.{take-append-drop}
use Rattle.std.proofs.lemmas.Str.{IsCharBoundary-after_ascii}
use Rattle.fm_grammar.specs.Exposition.{Text, Label}
use Rattle.fm_grammar.specs.Names.{IsLabelStart, IsLabelName}
use Rattle.fm_grammar.specs.inside.Words.{IsLabelByte}
use Rattle.fm_grammar.specs.NameTests.{is_lower_letter, is_upper_letter, is_digit, is_label_start, is_label_byte}
use Rattle.fm_grammar.specs.Spelling.{escaped, label_text}
use Rattle.fm_grammar.proofs.Runs.{Stops, one_run}
use Rattle.fm_grammar.proofs.Labels.{label_then, name_bytes}
use Rattle.fm_reader.specs.inside.Cuts.{Lacks}
use Rattle.fm_reader.proofs.LabelNames.{all_at, name_at, name_from}
use Rattle.fm_reader.proofs.Runs.{cut_at, take_get}

at_most : (low high : ℕ) → Decides (nat_le low high) (low ≤ high)
at_most low high = (λ e. grind (arith, nat_tests), λ h. grind (arith, nat_tests))

between : (low high byte : ℕ) → Decides (nat_le low byte && nat_le byte high) ((low ≤ byte) × (byte ≤ high))
between low high byte = Decides-and (nat_le low byte) (nat_le byte high) (at_most low byte) (at_most byte high)

start_decides : (byte : ℕ) → Decides (is_label_start byte) (IsLabelStart byte)
start_decides byte =
    Decides-or (is_lower_letter byte) (is_upper_letter byte || nat_eq byte 95) (between 97 122 byte)
    (Decides-or (is_upper_letter byte) (nat_eq byte 95) (between 65 90 byte) (Decides-eqb byte 95))

byte_decides : (byte : ℕ) → Decides (is_label_byte byte) (IsLabelByte byte)
byte_decides byte = Decides-or (is_label_start byte) (is_digit byte) (start_decides byte) (between 48 57 byte)

-- the first n bytes are a name's, and the next one is not
abbrev IsRun : Text → ℕ → Type 0
IsRun text n = AllByRecursion IsLabelByte (take n text) × Stops IsLabelByte (drop n text)

longer : (x : ℕ) (text : Text) (n m : ℕ) → m ≡ suc n → IsLabelByte x → IsRun text n → IsRun (x ∷ text) m
longer x text n m e is rest = subst (IsRun (x ∷ text)) (sym e) ((is, rest.0), rest.1)

in_run : (text : Text) → IsRun text (prefix_len is_label_byte text)
in_run [] = (tt, tt)
in_run (x ∷ text) = by (in_run text) (is_label_byte x) refl
  where
    by : IsRun text (prefix_len is_label_byte text) → (b : Bool) → is_label_byte x ≡ b → IsRun (x ∷ text) (cond (is_label_byte x) (1 + prefix_len is_label_byte text) 0)
    by rest true e = rw e (longer x text (prefix_len is_label_byte text) (1 + prefix_len is_label_byte text) (omega arith) ((byte_decides x).0 e) rest)
    by rest false e = rw e (tt, λ d. true≢false (sym ((byte_decides x).1 d) ∙ e))

abbrev pub IsNameEnd : Text → ℕ → Type 0
IsNameEnd text end = end ≡ prefix_len is_label_byte text

run_of : (text : Text) (end : ℕ) → IsNameEnd text end → IsRun text end
run_of text end is = subst (IsRun text) (sym is) (in_run text)

-- the run is the name of a label at the front
label_run : (text : Text) (end : ℕ) → IsNameEnd text end → (label : Label) (rest : Text) → IsLabelName label.name → text ≡ label_text label ++ rest → (take end text ≡ label.name) × (drop end text ≡ 61 ∷ 34 ∷ (escaped label.value ++ (34 ∷ rest)))
label_run text end is label rest named e =
    let run = run_of text end is in
    one_run IsLabelByte (take end text) label.name (drop end text) (61 ∷ 34 ∷ (escaped label.value ++ (34 ∷ rest))) run.0 (name_bytes label.name named) run.1 (λ d. grind arith) (take-append-drop end text ∙ e ∙ label_then label rest)

drop_get : (text : Text) (i : ℕ) → get_or (drop i text) 0 0 ≡ get_or text i 0
drop_get [] zero = refl
drop_get [] (suc i) = refl
drop_get (x ∷ text) zero = refl
drop_get (x ∷ text) (suc i) = drop_get text i

-- no label is at the front if no equals sign comes after the run,
pub no_equals_after : (text : Text) (end : ℕ) → IsNameEnd text end → get_or text end 0 ≢ 61 → (label : Label) (rest : Text) → IsLabelName label.name → text ≡ label_text label ++ rest → ⊥
no_equals_after text end is other label rest named e =
    other (sym (drop_get text end) ∙ ap (λ t. get_or t 0 0) (label_run text end is label rest named e).1)

past_end : (text : Text) (i : ℕ) → i ≡ length text → get_or text i 0 ≡ 0
past_end [] zero e = refl
past_end [] (suc i) e = refl
past_end (x ∷ text) zero e = absurd (omega arith)
past_end (x ∷ text) (suc i) e = past_end text i (omega arith)

pub nothing_after : (text : Text) (end : ℕ) → IsNameEnd text end → end ≡ length text → (label : Label) (rest : Text) → IsLabelName label.name → text ≡ label_text label ++ rest → ⊥
nothing_after text end is all = no_equals_after text end is (λ e. omega (arith, past_end text end all, e))

-- or if the run is empty or begins with a digit
pub bad_start : (text : Text) (end : ℕ) → IsNameEnd text end → (end ≡ 0) ⊎ (get_or text 0 0 ≤ 57) → (label : Label) (rest : Text) → IsLabelName label.name → text ≡ label_text label ++ rest → ⊥
bad_start text end is bad label rest named e = by label.name named (61 ∷ 34 ∷ (escaped label.value ++ (34 ∷ rest))) (e ∙ label_then label rest) (label_run text end is label rest named e).0 bad
  where
    by : (name : Text) → IsLabelName name → (s : Text) → text ≡ name ++ s → take end text ≡ name → (end ≡ 0) ⊎ (get_or text 0 0 ≤ 57) → ⊥
    by [] named s spelled same bad = named
    by (x ∷ name) named s spelled same (inl none) = let k : [] ≡ x ∷ name = sym (ap (λ n. take n text) none) ∙ same in cc
    by (x ∷ name) named s spelled same (inr low) = let first : get_or text 0 0 ≡ x = ap (λ t. get_or t 0 0) spelled in let start = named.0 in grind arith

-- and else the run is a name

pub after_name : (text : Text) (end : ℕ) → IsUtf8 text → end < length text → get_or text end 0 ≡ 61 → IsCharBoundary text (end + 1)
after_name text end utf8 within equals = IsCharBoundary-after_ascii text end utf8 within (omega (arith, equals))

is_name : (text name : Text) (end : ℕ) → IsNameEnd text end → name ≡ take end text → 0 < length name → 58 ≤ get_or name 0 0 → IsLabelName name
is_name text name end is cut some high =
    let bytes : AllByRecursion IsLabelByte name = subst (AllByRecursion IsLabelByte) (sym cut) (run_of text end is).0 in
    name_from name some (λ digit. omega (arith, high, digit)) (λ k h. all_at IsLabelByte name bytes k h)

name_lacks : (name : Text) → IsLabelName name → Lacks 61 name
name_lacks name named = λ i h e. let is = name_at name named i h in grind arith

pub name_cut : (text name after : Text) (end : ℕ) → IsNameEnd text end → end < length text → get_or text end 0 ≡ 61 → end ≢ 0 → 58 ≤ get_or text 0 0 → length name ≡ end → name ≡ take end text → after ≡ drop (end + 1) text
    → IsLabelName name × ((text ≡ name ++ (61 ∷ after)) × Lacks 61 name)
name_cut text name after end is within equals some high long front back =
    let first : get_or name 0 0 ≡ get_or text 0 0 = ap (λ t. get_or t 0 0) front ∙ take_get text end 0 (omega (arith, some)) in
    let named = is_name text name end is front (omega (arith, long, some)) (omega (arith, first, high)) in
    (named, (cut_at text end 61 within equals ∙ ap₂ (λ a b. a ++ (61 ∷ b)) (sym front) (sym back), name_lacks name named))
