-- A tree is stored as a list of marks: an opening mark for each registry and a closing one after its subsystems.
use Rattle.std.specs.Prelude.{◌≡◌, ℕ, zero, suc, List, [], ◌∷◌, Option, None, Some, Bool, refl}
use Rattle.std.specs.Coded.{Coded, code_by, coded×, coded_ℕ, coded_bool, coded_list, coded_option}
use Rattle.std.proofs.Common.{◌∙◌, ap}
use Rattle.fm_registry_rules.specs.Texts.{Text, Label, Labels}
use Rattle.fm_registry_rules.specs.Registration.{Registration, SeenUnit}
use Rattle.fm_registry_rules.specs.Tree.{Facts, Forest, Leaf, Child, Tree}
use Rattle.fm_grammar.specs.declared.MetricType.{MetricType}
use Rattle.fm_grammar.specs.Numbering.{type_number, type_at, type_back}

module _ (M : Type 0) where
  -- an opening mark has the registry's name and facts
  abbrev Mark : Type 0
  Mark = Option (Text × Facts M)

module _ {M : Type 0} where
  -- the marks of a forest, followed by these
  abbrev marks_of : Forest M → List (Mark M) → List (Mark M)
  marks_of Leaf after = after
  marks_of (Child name facts below rest) after = Some (name, facts) ∷ marks_of below (None ∷ marks_of rest after)

  -- makes the forest on top a subsystem's children, and puts the subsystem in front of the next forest
  abbrev opened : Text × Facts M → List (Forest M) → List (Forest M)
  opened mark [] = []
  opened mark (below ∷ []) = []
  opened mark (below ∷ rest ∷ others) = Child mark.0 mark.1 below rest ∷ others

  -- the forests that are not yet joined, read from the last mark on
  abbrev read_marks : List (Mark M) → List (Forest M)
  read_marks [] = Leaf ∷ []
  read_marks (None ∷ marks) = Leaf ∷ read_marks marks
  read_marks (Some mark ∷ marks) = opened mark (read_marks marks)

  -- one forest followed by another
  abbrev before : Forest M → Forest M → Forest M
  before Leaf last = last
  before (Child name facts below rest) last = Child name facts below (before rest last)

  before-Leaf : (f : Forest M) → before f Leaf ≡ f
  before-Leaf Leaf = refl
  before-Leaf (Child name facts below rest) = ap (Child name facts below) (before-Leaf rest)

  -- reading the marks of a forest gives the forest
  read_marks-marks_of : (f last : Forest M) (others : List (Forest M)) (after : List (Mark M)) → read_marks after ≡ last ∷ others → read_marks (marks_of f after) ≡ before f last ∷ others
  read_marks-marks_of Leaf last others after h = h
  read_marks-marks_of (Child name facts below rest) last others after h =
      let after_rest = read_marks-marks_of rest last others after h in
      ap (opened (name, facts)) (read_marks-marks_of below Leaf (before rest last ∷ others) (None ∷ marks_of rest after) (ap (λ fs. Leaf ∷ fs) after_rest))
      ∙ ap (λ f. Child name facts f (before rest last) ∷ others) (before-Leaf below)

  -- the forest on top
  abbrev top : List (Forest M) → Forest M
  top [] = Leaf
  top (f ∷ _) = f

  -- a tree as its facts and the marks below, and back
  abbrev to_marks : Tree M → Facts M × List (Mark M)
  to_marks t = (t.facts, marks_of t.children [])

  abbrev from_marks : Facts M × List (Mark M) → Tree M
  from_marks p = record { facts = p.0; children = top (read_marks p.1) }

  pub from_marks-to_marks : (t : Tree M) → from_marks (to_marks t) ≡ t
  from_marks-to_marks t = ap (λ f. record { facts = t.facts; children = f }) (ap top (read_marks-marks_of t.children Leaf [] [] refl) ∙ before-Leaf t.children)

-- how each part is stored
abbrev text_code : Coded Text
text_code = coded_list coded_ℕ

abbrev type_code : Coded MetricType
type_code = code_by ℕ coded_ℕ type_number type_at type_back

abbrev unit_code : Coded SeenUnit
unit_code = code_by (Bool × Text) (coded× coded_bool text_code) (λ u. (u.own, u.text)) (λ p. record { own = p.0; text = p.1 }) (λ _. refl)

abbrev label_code : Coded Label
label_code = code_by (Text × Text) (coded× text_code text_code) (λ l. (l.name, l.value)) (λ p. record { name = p.0; value = p.1 }) (λ _. refl)

module _ {M : Type 0} (code : Coded M) where
  abbrev registration_code : Coded (Registration M)
  registration_code =
      code_by ((Text × Text) × (MetricType × (Option SeenUnit × M))) (coded× (coded× text_code text_code) (coded× type_code (coded× (coded_option unit_code) code)))
      (λ r. ((r.name, r.help), (r.metric_type, (r.unit, r.metric))))
      (λ p. record { name = p.0.0; help = p.0.1; metric_type = p.1.0; unit = p.1.1.0; metric = p.1.1.1 })
      (λ _. refl)

  abbrev facts_code : Coded (Facts M)
  facts_code =
      code_by ((Option Text × Labels) × (ℕ × List (Registration M))) (coded× (coded× (coded_option text_code) (coded_list label_code)) (coded× coded_ℕ (coded_list registration_code)))
      (λ f. ((f.namespace, f.labels), (f.depth, f.metrics)))
      (λ p. record { namespace = p.0.0; labels = p.0.1; depth = p.1.0; metrics = p.1.1 })
      (λ _. refl)

  abbrev pub tree_code : Coded (Tree M)
  tree_code = code_by (Facts M × List (Mark M)) (coded× facts_code (coded_list (coded_option (coded× text_code facts_code)))) to_marks from_marks from_marks-to_marks
