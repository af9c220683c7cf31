-- The names in one registry: the tails of its metrics and the names of its subsystems. Each name in the exposition
-- begins with one of them, after the registry's namespace, so three rules keep these names different.
use Rattle.std.specs.Prelude.{◌≡◌, ⊤, Bool, ◌||◌, List, [], ◌∷◌, ◌++◌, codes, map, eqb}
use Rattle.std.specs.List.{AllByRecursion, starts_with, list_any}
use Rattle.fm_grammar.specs.Names.{AllDifferent}
use Rattle.fm_registry_rules.specs.Texts.{Text, has_text, suffixed_name}
use Rattle.fm_registry_rules.specs.Registration.{Registration, printed_unit}

-- a metric's name in the exposition without its registry's namespace: its name, or its name, an underscore and its unit
abbrev pub tail_of : {M : Type 0} → Registration M → Text
tail_of registration = suffixed_name registration.name (printed_unit registration.unit)

abbrev pub tails_of : {M : Type 0} → List (Registration M) → List Text
tails_of registrations = map tail_of registrations

-- the text begins with the name and an underscore
pub record IsBelow (name text : Text) : Type 0 where
  pub rest : Text
  pub is : text ≡ name ++ (codes "_" ++ rest)

-- of two names neither begins with the other and an underscore
pub record AreApart (name other : Text) : Type 0 where
  pub not_above : ¬ (IsBelow name other)
  pub not_below : ¬ (IsBelow other name)

-- each name is apart from those after it
abbrev pub AllApart : List Text → Type 0
AllApart [] = ⊤
AllApart (name ∷ names) = AllByRecursion (λ other. AreApart name other) names × AllApart names

-- The three rules of one registry: no two metrics have the same tail, no tail is below a subsystem's name, and no
-- subsystem's name is below another's.
pub record AreSeparate (tails children : List Text) : Type 0 where
  pub different : AllDifferent tails
  pub free : AllByRecursion (λ child. AllByRecursion (λ tail. ¬ (IsBelow child tail)) tails) children
  pub apart : AllApart children

-- whether the text begins with the name and an underscore
abbrev pub is_below : Text → Text → Bool
is_below name text = starts_with eqb text (name ++ codes "_")

-- whether a metric with this tail would break a rule
abbrev pub is_tail_taken : List Text → List Text → Text → Bool
is_tail_taken tails children tail = has_text tails tail || list_any (λ child. is_below child tail) children

-- whether a new subsystem with this name would break a rule
abbrev pub is_child_taken : List Text → List Text → Text → Bool
is_child_taken tails children name =
    list_any (λ tail. is_below name tail) tails || list_any (λ child. is_below child name || is_below name child) children
