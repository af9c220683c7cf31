-- Where a line leads a reader, and that it leads nowhere.
use Rattle.std.proofs.Common.{◌≡◌, List, [], ◌∷◌, ◌++◌, refl, sym, ap, subst, ◌∙◌, Bool, true, Option, Some, None, Result, Ok, Err, IfOk, codes, arith}
use Rattle.fm_grammar.specs.declared.MetricType.{MetricType}
use Rattle.fm_grammar.specs.Exposition.{Text, Sample, Family}
use Rattle.fm_grammar.specs.Names.{IsSnakeCase}
use Rattle.fm_grammar.specs.WellFormed.{UnitFits, UnitAllowed, IsSample}
use Rattle.fm_grammar.specs.Document.{IsTypeLine, IsHelpLine, IsUnitLine, IsSampleLine}
use Rattle.fm_grammar.specs.inside.Words.{IsLastLine}
use Rattle.fm_grammar.specs.Reading.{IsNewName}
use Rattle.fm_grammar.specs.inside.Lines.{State, Open, Headed, Ended, closed, with_unit, Follows, type_line, help_line, unit_line, sample_line, last_line}
use Rattle.fm_grammar.proofs.Runs.{one_run}
use Rattle.fm_grammar.proofs.FamilyNames.{IsNameByte, snake_case_bytes}
use Rattle.fm_grammar.specs.Kinds.{type_word}
use Rattle.std.proofs.lemmas.List.{append_cancel_left}
use Rattle.fm_reader.specs.inside.Lines.{FoundHelp, FoundUnit}
use Rattle.fm_reader.specs.inside.Steps.{reading_state, IsStep, IsStepWithin, IsSampleAdded, FoundNewType}
use Rattle.fm_reader.specs.declared.machine.Reading.{Reading}
use Rattle.fm_reader.specs.declared.error.ReadError.{ReadError}

-- the line is no unit line and no sample line of the family
abbrev pub RefusesWithin : Family → Text → Type 0
RefusesWithin family line =
    ((unit : Text) → IsUnitLine line family.name unit → family.unit ≡ None → family.samples ≡ [] → UnitFits family.name (Some unit) → UnitAllowed family.metric_type (Some unit) → ⊥)
    × ((sample : Sample) → IsSampleLine line family.name sample → IsSample family.metric_type sample → ⊥)

pub record RefusesOpen (finished : List Family) (current : Option Family) (line : Text) : Type 0 where
  pub last : IsLastLine line → ⊥
  pub type_lines : (name : Text) (metric_type : MetricType) → IsTypeLine line name metric_type → IsSnakeCase name → IsNewName name (closed finished current) → ⊥
  pub within : (family : Family) → current ≡ Some family → RefusesWithin family line

abbrev Refuses : State → Text → Type 0
Refuses (Open finished current) line = RefusesOpen finished current line
Refuses (Headed finished name metric_type) line = (help : Text) → IsHelpLine line name help → ⊥
Refuses (Ended families) line = Unit {0}

never : (before : State) (line : Text) (next : State) → Refuses before line → Follows before line next → ⊥
never _ line _ r (type_line {name = name} {metric_type = m} p n new) = r.type_lines name m p n new
never _ line _ r (help_line {help = help} p) = r help p
never _ line _ r (unit_line {family = f} {unit = u} p none empty fits allowed) = (r.within f refl).0 u p none empty fits allowed
never _ line _ r (sample_line {family = f} {sample = x} p k) = (r.within f refl).1 x p k
never _ line _ r (last_line p) = r.last p

pub open_refuses : (finished : List Family) (current : Option Family) (line : Text) → RefusesOpen finished current line → (next : State) → Follows (Open finished current) line next → ⊥
open_refuses finished current line r next p = never (Open finished current) line next r p

pub ended_refuses : (families : List Family) (line : Text) (next : State) → Follows (Ended families) line next → ⊥
ended_refuses families line next p = never (Ended families) line next tt p

pub headed_refuses : (finished : List Family) (name lent : Text) (m : MetricType) (line : Text) (found : Option Text) → lent ≡ name → found ≡ None → FoundHelp line lent found → (next : State) → Follows (Headed finished name m) line next → ⊥
headed_refuses finished name lent m line found e none f next p =
    let no_help : (help : Text) → IsHelpLine line lent help → ⊥ = subst (FoundHelp line lent) none f in
    never (Headed finished name m) line next (subst (λ n. (help : Text) → IsHelpLine line n help → ⊥) e no_help) p

pub headed_follows : (finished : List Family) (name lent help : Text) (m : MetricType) (line : Text) (found : Option Text) (samples : List Sample) → lent ≡ name → found ≡ Some help → samples ≡ [] → FoundHelp line lent found
    → Follows (Headed finished name m) line (Open finished (Some (record { name = name; metric_type = m; help = help; unit = None; samples = samples })))
headed_follows finished name lent help m line found samples e some empty f =
    let is : IsHelpLine line lent help = subst (FoundHelp line lent) some f in
    subst (λ xs. Follows (Headed finished name m) line (Open finished (Some (record { name = name; metric_type = m; help = help; unit = None; samples = xs })))) (sym empty)
    (help_line (subst (λ n. IsHelpLine line n help) e is))

pub unit_follows : (finished : List Family) (f : Family) (lent : Text) (m : MetricType) (unit text : Text) (line : Text) (new : Family) → lent ≡ f.name → m ≡ f.metric_type → text ≡ unit → new ≡ with_unit f text → (f.unit ≡ None) × (f.samples ≡ []) → FoundUnit line lent m (Some unit)
    → Follows (Open finished (Some f)) line (Open finished (Some new))
unit_follows finished f lent m unit text line new e kind same more bare found =
    let is : FoundUnit line f.name f.metric_type (Some unit) = subst (λ n. FoundUnit line n f.metric_type (Some unit)) e (subst (λ k. FoundUnit line lent k (Some unit)) kind found) in
    subst (λ g. Follows (Open finished (Some f)) line (Open finished (Some g))) (sym (more ∙ ap (with_unit f) same))
    (unit_line is.0 bare.0 bare.1 is.1 is.2)

pub sample_follows : (finished : List Family) (f : Family) (line : Text) (read : Bool) (new : Family) → read ≡ true → IsSampleAdded f line read new → Follows (Open finished (Some f)) line (Open finished (Some new))
sample_follows finished f line read new is_read h =
    let added : IsSampleAdded f line true new = subst (λ r. IsSampleAdded f line r new) is_read h in
    subst (λ g. Follows (Open finished (Some f)) line (Open finished (Some g))) (sym added.2) (sample_line added.1.0 added.1.1)

-- a type line whose name is taken

pub taken_type : (line name : Text) (m : MetricType) (families : List Family) → IsSnakeCase name → IsTypeLine line name m → (IsNewName name families → ⊥) → FoundNewType families line None
taken_type line name m families n p taken = λ other k q o new.
    let h = append_cancel_left (codes "# TYPE ") (name ++ (32 ∷ type_word m)) (other ++ (32 ∷ type_word k)) (sym p ∙ q) in
    let r = one_run IsNameByte name other (32 ∷ type_word m) (32 ∷ type_word k) (snake_case_bytes name n) (snake_case_bytes other o) (λ d. omega arith) (λ d. omega arith) h in
    taken (subst (λ z. IsNewName z families) (sym r.0) new)

-- steps where a family may begin

some_same : (a b : Family) → ◌≡◌ {A = Option Family} (Some a) (Some b) → a ≡ b
some_same a b e = cc

pub last_follows : (finished families : List Family) (current : Option Family) (line : Text) → IsLastLine line → families ≡ closed finished current → Follows (Open finished current) line (Ended families)
last_follows finished families current line p e = subst (λ fs. Follows (Open finished current) line (Ended fs)) (sym e) (last_line p)

pub type_follows : (finished families : List Family) (current : Option Family) (line lent name : Text) (m : MetricType) → name ≡ lent → families ≡ closed finished current → FoundNewType (closed finished current) line (Some (lent, m)) → Follows (Open finished current) line (Headed families name m)
type_follows finished families current line lent name m e f is =
    subst (λ fs. Follows (Open finished current) line (Headed fs name m)) (sym f)
    (subst (λ n. Follows (Open finished current) line (Headed (closed finished current) n m)) (sym e) (type_line is.1 is.0 is.2))

pub none_refuses : (finished : List Family) (current : Option Family) (line : Text) → current ≡ None → (IsLastLine line → ⊥) → FoundNewType (closed finished current) line None → (next : State) → Follows (Open finished current) line next → ⊥
none_refuses finished current line none last types =
    open_refuses finished current line (record {
      last = last;
      type_lines = types;
      within = λ family some. absurd (let k = sym none ∙ some in cc);
    })

pub within_step : (finished : List Family) (current : Option Family) (family : Family) (line : Text) (r : Result (Option Reading) ReadError) → current ≡ Some family → (IsLastLine line → ⊥) → FoundNewType (closed finished current) line None
    → IfOk r (λ next. IsStepWithin finished family line next) → IfOk r (λ next. IsStep (Open finished current) line next)
within_step finished current family line (Err e) some last types h = h
within_step finished current family line (Ok (Some reading)) some last types h = subst (λ c. Follows (Open finished c) line (reading_state reading)) (sym some) h
within_step finished current family line (Ok None) some last types h =
    open_refuses finished current line (record {
      last = last;
      type_lines = types;
      within = λ other other_is. subst (λ f. RefusesWithin f line) (let k = sym some ∙ other_is in some_same family other k) h;
    })
