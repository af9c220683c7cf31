-- The names of the families so far: a line of no new family keeps them.
use Rattle.std.proofs.Common.{◌≡◌, not, Bool, true, false, List, [], ◌∷◌, ◌++◌, refl, sym, ap, subst, ◌∙◌, Bor, Option, Some, None, Result, Ok, Err, IfOk}
use Rattle.std.specs.Prelude.{IfSome}
use Rattle.std.specs.Bool.{OnFalse}
use Rattle.std.specs.List.{list_any}
use Rattle.std.specs.BTreeSet.{BTreeSet, Updates}
use Rattle.std.specs.BTreeMap.{is_at}
use Rattle.std.specs.Ordering.{nat_cmp}
use Rattle.std.specs.Cmp.Lexicographic.{slice_cmp}
use Rattle.std.proofs.lemmas.List.{map-append}
use Rattle.fm_grammar.specs.declared.MetricType.{MetricType}
use Rattle.fm_grammar.specs.Exposition.{Text, Family}
use Rattle.fm_grammar.specs.Reading.{IsNewName}
use Rattle.fm_grammar.specs.inside.Lines.{State, Open, Headed, closed, Follows, type_line, help_line, unit_line, sample_line, last_line}
use Rattle.fm_reader.proofs.NameSets.{holds_more}
use Rattle.std.specs.Option.{option_map}
use Rattle.fm_reader.specs.inside.Lines.{FoundType, shown_type}
use Rattle.fm_reader.specs.inside.Steps.{reading_state, IsStep, FoundNewType}
use Rattle.fm_reader.specs.inside.Names.{names_of, state_names, IsFresh, has, HasNames, IsNoted, with_found, FoundNoted}
use Rattle.fm_reader.specs.declared.machine.Reading.{Reading}
use Rattle.fm_reader.specs.declared.error.ReadError.{ReadError}
use Rattle.fm_reader.proofs.StepLemmas.{taken_type}

-- a name is noted

same_names : (old new : BTreeSet (Bor Text)) (names : List Text) → new.keys ≡ old.keys → HasNames old names → HasNames new names
same_names old new names e h q =
    let same : has new q ≡ has old q = ap (list_any (is_at (λ k. slice_cmp nat_cmp q k.now))) e in
    (λ n. (h q).0 (sym same ∙ n), λ n. (h q).1 (sym same ∙ n))

negated_false : (b : Bool) → false ≡ not b → b ≡ true
negated_false true e = refl
negated_false false e = e

negated_true : (b : Bool) → true ≡ not b → b ≡ false
negated_true true e = e
negated_true false e = refl

pub noted : (old new : BTreeSet (Bor Text)) (key : Bor Text) (added : Bool) → added ≡ not (has old key.now) → Updates (λ x y. slice_cmp nat_cmp x.now y.now) old new key true → OnFalse added (new.keys ≡ old.keys) → IsNoted old key.now added new
noted old new key true e updates same = λ names h. ((h key.now).0 (negated_true (has old key.now) e), holds_more old new key names updates h)
noted old new key false e updates same = λ names h. ((h key.now).1 (negated_false (has old key.now) e), same_names old new names same h)

-- a name is new to families if it is none of their names

new_name : (name : Text) (families : List Family) → IsFresh name (names_of families) → IsNewName name families
new_name name [] h = tt
new_name name (family ∷ families) h = (h.0, new_name name families h.1)

fresh_name : (name : Text) (families : List Family) → IsNewName name families → IsFresh name (names_of families)
fresh_name name [] h = tt
fresh_name name (family ∷ families) h = (h.0, fresh_name name families h.1)

pub found_taken : (old new : BTreeSet (Bor Text)) (line name : Text) (m : MetricType) (added : Bool) → FoundType line (Some (name, m)) → IsNoted old name added new → added ≡ false → FoundNoted old line None new
found_taken old new line name m added h n e = λ families known.
    let is : IsNoted old name false new = subst (λ b. IsNoted old name b new) e n in
    let r = is (names_of families) known in
    (taken_type line name m families h.0 h.1 (λ free. r.0 (fresh_name name families free)), r.1)

pub found_new : (old new : BTreeSet (Bor Text)) (line name : Text) (m : MetricType) (added : Bool) → FoundType line (Some (name, m)) → IsNoted old name added new → added ≡ true → FoundNoted old line (Some (name, m)) new
found_new old new line name m added h n e = λ families known.
    let is : IsNoted old name true new = subst (λ b. IsNoted old name b new) e n in
    let r = is (names_of families) known in
    ((h.0, h.1, new_name name families r.0), r.1)

-- what was found beside families of whose names the set is
pub found_is : (old new : BTreeSet (Bor Text)) (line : Text) (found seen : Option (Bor Text × MetricType)) (families : List Family) → found ≡ seen → FoundNoted old line (option_map shown_type found) new → HasNames old (names_of families)
    → FoundNewType families line (option_map shown_type seen) × HasNames new (with_found (names_of families) (option_map shown_type seen))
found_is old new line found seen families e h known = subst (λ f. FoundNoted old line (option_map shown_type f) new) e h families known

-- the names that a line keeps

names_with : (finished : List Family) (family : Family) → names_of (finished ++ (family ∷ [])) ≡ names_of finished ++ (family.name ∷ [])
names_with finished family = map-append (λ f. f.name) finished (family ∷ [])

same_last : (finished : List Family) (a b : Family) → a.name ≡ b.name → names_of (finished ++ (a ∷ [])) ≡ names_of (finished ++ (b ∷ []))
same_last finished a b e = names_with finished a ∙ ap (λ name. names_of finished ++ (name ∷ [])) e ∙ sym (names_with finished b)

-- no type line of a new family may come there
abbrev NoType : State → Text → Type 0
NoType (Open finished current) line = FoundNewType (closed finished current) line None
NoType _ line = Unit {0}

kept : (before : State) (line : Text) (next : State) → NoType before line → Follows before line next → state_names next ≡ state_names before
kept _ line _ none (type_line {name = name} {metric_type = m} p n new) = absurd (none name m p n new)
kept _ line _ none (help_line {finished = f} {name = name} p) = names_with f _
kept _ line _ none (unit_line {finished = f} {family = x} p unit empty fits allowed) = same_last f _ x refl
kept _ line _ none (sample_line {finished = f} {family = x} p k) = same_last f _ x refl
kept _ line _ none (last_line p) = refl

-- the set has the names of the state where a line leads
abbrev NamesAfter : BTreeSet (Bor Text) → Option Reading → Type 0
NamesAfter set next = IfSome next (λ r. HasNames set (state_names (reading_state r)))

keeps : (set : BTreeSet (Bor Text)) (before : State) (line : Text) (next : Option Reading) → NoType before line → IsStep before line next → HasNames set (state_names before) → NamesAfter set next
keeps set before line None none h known = tt
keeps set before line (Some reading) none h known = subst (HasNames set) (sym (kept before line (reading_state reading) none h)) known

pub headed_keeps : (set : BTreeSet (Bor Text)) (finished : List Family) (name : Text) (m : MetricType) (line : Text) (r : Result (Option Reading) ReadError) → IfOk r (λ next. IsStep (Headed finished name m) line next) → HasNames set (state_names (Headed finished name m)) → IfOk r (λ next. NamesAfter set next)
headed_keeps set finished name m line (Err e) h known = h
headed_keeps set finished name m line (Ok next) h known = keeps set (Headed finished name m) line next tt h known

pub open_keeps : (set : BTreeSet (Bor Text)) (finished : List Family) (current : Option Family) (line : Text) (r : Result (Option Reading) ReadError) → FoundNewType (closed finished current) line None → IfOk r (λ next. IsStep (Open finished current) line next) → HasNames set (names_of (closed finished current)) → IfOk r (λ next. NamesAfter set next)
open_keeps set finished current line (Err e) none h known = h
open_keeps set finished current line (Ok next) none h known = keeps set (Open finished current) line next none h known

pub ended_names : (set : BTreeSet (Bor Text)) (families seen : List Family) → families ≡ seen → HasNames set (names_of seen) → HasNames set (names_of families)
ended_names set families seen e known = subst (λ fs. HasNames set (names_of fs)) (sym e) known

pub headed_names : (set : BTreeSet (Bor Text)) (families seen : List Family) (name lent : Text) → families ≡ seen → name ≡ lent → HasNames set (names_of seen ++ (lent ∷ [])) → HasNames set (names_of families ++ (name ∷ []))
headed_names set families seen name lent e same known = subst (λ n. HasNames set (names_of families ++ (n ∷ []))) (sym same) (subst (λ fs. HasNames set (names_of fs ++ (lent ∷ []))) (sym e) known)
