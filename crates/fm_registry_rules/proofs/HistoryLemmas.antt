-- The history of a subsystem, against the history of the registry above it.
use Rattle.std.proofs.Common.{◌≡◌, true, false, ◌&&◌, List, [], ◌∷◌, ◌++◌, Some, if◌then◌else◌, refl, sym, ap, ◌∙◌, append_assoc}
use Rattle.std.specs.Str.{bytes_eq}
use Rattle.fm_registry_rules.specs.Texts.{Text, Path, Labels, path_eq, has_text, merge_labels}
use Rattle.fm_registry_rules.specs.History.{Call, Subsystem, Register, History, metrics_at, children_at, labels_given, labels_along, labels_at, missing_along, calls_below, history_below}

module _ {M : Type 0} where
  -- what a path below a subsystem shows is what the calls below it show
  pub metrics_at-calls_below : (calls : List (Call M)) (n : Text) (p : Path) → metrics_at calls (n ∷ p) ≡ metrics_at (calls_below calls n) p
  metrics_at-calls_below [] n p = refl
  metrics_at-calls_below (Subsystem [] m labels ∷ calls) n p = metrics_at-calls_below calls n p
  metrics_at-calls_below (Subsystem (k ∷ q) m labels ∷ calls) n p =
      elim (bytes_eq k n) as (λ c. metrics_at calls (n ∷ p) ≡ metrics_at (if c then Subsystem q m labels ∷ calls_below calls n else calls_below calls n) p) [ true ↦ metrics_at-calls_below calls n p | false ↦ metrics_at-calls_below calls n p ]
  metrics_at-calls_below (Register [] r ∷ calls) n p = metrics_at-calls_below calls n p
  metrics_at-calls_below (Register (k ∷ q) r ∷ calls) n p =
      elim (bytes_eq k n) as (λ c. (if c && path_eq q p then r ∷ metrics_at calls (n ∷ p) else metrics_at calls (n ∷ p)) ≡ metrics_at (if c then Register q r ∷ calls_below calls n else calls_below calls n) p) [ true ↦ ap (λ rs. if path_eq q p then r ∷ rs else rs) (metrics_at-calls_below calls n p) | false ↦ metrics_at-calls_below calls n p ]

  pub children_at-calls_below : (calls : List (Call M)) (n : Text) (p : Path) → children_at calls (n ∷ p) ≡ children_at (calls_below calls n) p
  children_at-calls_below [] n p = refl
  children_at-calls_below (Register [] r ∷ calls) n p = children_at-calls_below calls n p
  children_at-calls_below (Register (k ∷ q) r ∷ calls) n p =
      elim (bytes_eq k n) as (λ c. children_at calls (n ∷ p) ≡ children_at (if c then Register q r ∷ calls_below calls n else calls_below calls n) p) [ true ↦ children_at-calls_below calls n p | false ↦ children_at-calls_below calls n p ]
  children_at-calls_below (Subsystem [] m labels ∷ calls) n p = children_at-calls_below calls n p
  children_at-calls_below (Subsystem (k ∷ q) m labels ∷ calls) n p =
      elim (bytes_eq k n) as (λ c. (if c && path_eq q p then m ∷ children_at calls (n ∷ p) else children_at calls (n ∷ p)) ≡ children_at (if c then Subsystem q m labels ∷ calls_below calls n else calls_below calls n) p) [ true ↦ ap (λ ms. if path_eq q p then m ∷ ms else ms) (children_at-calls_below calls n p) | false ↦ children_at-calls_below calls n p ]

  pub labels_given-calls_below : (calls : List (Call M)) (n : Text) (p : Path) (m : Text) → labels_given calls (n ∷ p) m ≡ labels_given (calls_below calls n) p m
  labels_given-calls_below [] n p m = refl
  labels_given-calls_below (Register [] r ∷ calls) n p m = labels_given-calls_below calls n p m
  labels_given-calls_below (Register (k ∷ q) r ∷ calls) n p m =
      elim (bytes_eq k n) as (λ c. labels_given calls (n ∷ p) m ≡ labels_given (if c then Register q r ∷ calls_below calls n else calls_below calls n) p m) [ true ↦ labels_given-calls_below calls n p m | false ↦ labels_given-calls_below calls n p m ]
  labels_given-calls_below (Subsystem [] k labels ∷ calls) n p m = labels_given-calls_below calls n p m
  labels_given-calls_below (Subsystem (j ∷ q) k labels ∷ calls) n p m =
      elim (bytes_eq j n) as (λ c. (if (c && path_eq q p) && bytes_eq k m then labels ++ labels_given calls (n ∷ p) m else labels_given calls (n ∷ p) m) ≡ labels_given (if c then Subsystem q k labels ∷ calls_below calls n else calls_below calls n) p m) [ true ↦ ap (λ ls. if path_eq q p && bytes_eq k m then labels ++ ls else ls) (labels_given-calls_below calls n p m) | false ↦ labels_given-calls_below calls n p m ]

  pub labels_along-calls_below : (calls : List (Call M)) (n : Text) (labels : Labels) (q p : Path) → labels_along calls labels (n ∷ q) p ≡ labels_along (calls_below calls n) labels q p
  labels_along-calls_below calls n labels q [] = refl
  labels_along-calls_below calls n labels q (m ∷ p) =
      ap (λ ls. labels_along calls (merge_labels labels ls) (n ∷ (q ++ m ∷ [])) p) (labels_given-calls_below calls n q m)
      ∙ labels_along-calls_below calls n (merge_labels labels (labels_given (calls_below calls n) q m)) (q ++ m ∷ []) p

  pub missing_along-calls_below : (calls : List (Call M)) (n : Text) (q p : Path) → missing_along calls (n ∷ q) p ≡ missing_along (calls_below calls n) q p
  missing_along-calls_below calls n q [] = refl
  missing_along-calls_below calls n q (m ∷ p) =
      ap (λ ms. if has_text ms m then missing_along calls (n ∷ (q ++ m ∷ [])) p else Some m) (children_at-calls_below calls n q)
      ∙ ap (λ o. if has_text (children_at (calls_below calls n) q) m then o else Some m) (missing_along-calls_below calls n (q ++ m ∷ []) p)

  pub labels_at-history_below : (b : History M) (n : Text) (p : Path) → labels_at b (n ∷ p) ≡ labels_at (history_below b n) p
  labels_at-history_below b n p = labels_along-calls_below b.calls n (merge_labels b.labels (labels_given b.calls [] n)) [] p

  -- lists of calls, one after the other
  pub metrics_at-++ : (xs ys : List (Call M)) (p : Path) → metrics_at (xs ++ ys) p ≡ metrics_at xs p ++ metrics_at ys p
  metrics_at-++ [] ys p = refl
  metrics_at-++ (Subsystem q n labels ∷ xs) ys p = metrics_at-++ xs ys p
  metrics_at-++ (Register q r ∷ xs) ys p =
      elim (path_eq q p) as (λ c. (if c then r ∷ metrics_at (xs ++ ys) p else metrics_at (xs ++ ys) p) ≡ (if c then r ∷ metrics_at xs p else metrics_at xs p) ++ metrics_at ys p) [ true ↦ ap (λ rs. r ∷ rs) (metrics_at-++ xs ys p) | false ↦ metrics_at-++ xs ys p ]

  pub children_at-++ : (xs ys : List (Call M)) (p : Path) → children_at (xs ++ ys) p ≡ children_at xs p ++ children_at ys p
  children_at-++ [] ys p = refl
  children_at-++ (Register q r ∷ xs) ys p = children_at-++ xs ys p
  children_at-++ (Subsystem q n labels ∷ xs) ys p =
      elim (path_eq q p) as (λ c. (if c then n ∷ children_at (xs ++ ys) p else children_at (xs ++ ys) p) ≡ (if c then n ∷ children_at xs p else children_at xs p) ++ children_at ys p) [ true ↦ ap (λ ms. n ∷ ms) (children_at-++ xs ys p) | false ↦ children_at-++ xs ys p ]

  pub labels_given-++ : (xs ys : List (Call M)) (p : Path) (n : Text) → labels_given (xs ++ ys) p n ≡ labels_given xs p n ++ labels_given ys p n
  labels_given-++ [] ys p n = refl
  labels_given-++ (Register q r ∷ xs) ys p n = labels_given-++ xs ys p n
  labels_given-++ (Subsystem q m labels ∷ xs) ys p n =
      elim (path_eq q p && bytes_eq m n) as (λ c. (if c then labels ++ labels_given (xs ++ ys) p n else labels_given (xs ++ ys) p n) ≡ (if c then labels ++ labels_given xs p n else labels_given xs p n) ++ labels_given ys p n) [ true ↦ ap (λ ls. labels ++ ls) (labels_given-++ xs ys p n) ∙ sym (append_assoc labels (labels_given xs p n) (labels_given ys p n)) | false ↦ labels_given-++ xs ys p n ]

  pub calls_below-++ : (xs ys : List (Call M)) (n : Text) → calls_below (xs ++ ys) n ≡ calls_below xs n ++ calls_below ys n
  calls_below-++ [] ys n = refl
  calls_below-++ (Subsystem [] m labels ∷ xs) ys n = calls_below-++ xs ys n
  calls_below-++ (Register [] r ∷ xs) ys n = calls_below-++ xs ys n
  calls_below-++ (Subsystem (k ∷ q) m labels ∷ xs) ys n =
      elim (bytes_eq k n) as (λ c. (if c then Subsystem q m labels ∷ calls_below (xs ++ ys) n else calls_below (xs ++ ys) n) ≡ (if c then Subsystem q m labels ∷ calls_below xs n else calls_below xs n) ++ calls_below ys n) [ true ↦ ap (λ cs. Subsystem q m labels ∷ cs) (calls_below-++ xs ys n) | false ↦ calls_below-++ xs ys n ]
  calls_below-++ (Register (k ∷ q) r ∷ xs) ys n =
      elim (bytes_eq k n) as (λ c. (if c then Register q r ∷ calls_below (xs ++ ys) n else calls_below (xs ++ ys) n) ≡ (if c then Register q r ∷ calls_below xs n else calls_below xs n) ++ calls_below ys n) [ true ↦ ap (λ cs. Register q r ∷ cs) (calls_below-++ xs ys n) | false ↦ calls_below-++ xs ys n ]
