-- Pieces appended to an output one after another.
use Rattle.std.proofs.Common.{◌≡◌, ℕ, List, [], ◌∷◌, ◌++◌, refl, sym, ap, ◌∙◌, ◌⊎◌, inl, inr, codes, append_assoc, arith, length, length-append, ◌≤◌, ◌<◌, ◌+◌, ◌-◌, ◌^◌, min, get_or, take, drop, drop-cons, add-one, map, subst}
use Rattle.std.proofs.lemmas.List.{append-nil, length-map, length-take, map-append, take-append-drop, take_all, take_more}
use Rattle.std.proofs.lemmas.Grind.{flat_map-append}
use Rattle.std.specs.List.{flat_map}
use Rattle.std.proofs.Math.ListN.{drop_of_length-le, get_or-map}
use Rattle.fm_grammar.specs.Exposition.{Text, Label}
use Rattle.fm_grammar.specs.Spelling.{label_text, label_list_text, label_block_text, in_braces}
use Rattle.fm_text.specs.inside.LabelTexts.{further_labels, list_before}
use Rattle.fm_text.proofs.ListLemmas.{label_list_is, list_joined, list_back}
use Rattle.fm_text.specs.inside.Grown.{Grown, Grows, IsLeft, IsLeftOf, size_of}

pub grown_then : (a b c : Text → Type 0) (first second : Text) → Grows a b first → Grows b c second → Grows a c (first ++ second)
grown_then a b c first second one two = record {
  grows = λ front is. subst (λ (t : Text). c t) (append_assoc front first second) (two.grows (front ++ first) (one.grows front is));
}

pub grown_nothing : (a : Text → Type 0) → Grows a a []
grown_nothing a = record { grows = λ front is. subst (λ (t : Text). a t) (sym (append-nil front)) is }

pub ruleset grown = (grown_then, grown_nothing)

-- two pieces at once, and what comes after them
pub grown_two : (a b c : Text → Type 0) (x y rest : Text) → Grows a b (x ++ y) → Grows b c rest → Grows a c (x ++ (y ++ rest))
grown_two a b c x y rest start end = subst (λ (t : Text). Grows a c t) (append_assoc x y rest) (grown_then a b c (x ++ y) rest start end)

-- a text that grows, seen as an output
pub grows_text : (a b text : Text) → Grown a b text → Grows (λ t. a ≡ t) (λ t. b ≡ t) text
grows_text a b text grown = record { grows = λ front is. grown.bytes ∙ ap (λ (t : Text). t ++ text) is }

pub text_grows : (a b text : Text) → Grows (λ t. a ≡ t) (λ t. b ≡ t) text → Grown a b text
text_grows a b text grown = record { bytes = grown.grows a refl }

-- the size of a text, seen as an output
pub grows_size : (a b n : ℕ) (text : Text) → b ≡ min (a + n) (2 ^ 64 - 1) → n ≡ size_of text → Grows (λ t. a ≡ size_of t) (λ t. b ≡ size_of t) text
grows_size a b n text sum is = record { grows = λ front before. omega (arith, sum, is, before, length-append front text) }

-- the texts of what is left are that of the next item and those after it
pub flat_map-drop : {X : Type 0} (f : X → Text) (xs : List X) (i : ℕ) (d : X) → i < length xs → flat_map f (drop i xs) ≡ f (get_or xs i d) ++ flat_map f (drop (i + 1) xs)
flat_map-drop f xs i d within = rw (add-one, drop-cons xs i d) refl

pub left_at_start : {X : Type 0} (f : X → Text) (xs : List X) (a : Text → Type 0) → IsLeft f xs 0 a a
left_at_start f xs a = record { front = []; grown = grown_nothing a; is = refl }

pub left_more : {X : Type 0} (f : X → Text) (xs : List X) (i : ℕ) (d : X) (old now next : Text → Type 0) → i < length xs → IsLeft f xs i old now → Grows now next (f (get_or xs i d)) → IsLeft f xs (i + 1) old next
left_more f xs i d old now next within left grown = record {
  front = left.front ++ f (get_or xs i d);
  grown = grown_then old now next left.front (f (get_or xs i d)) left.grown grown;
  is = append_assoc left.front (f (get_or xs i d)) (flat_map f (drop (i + 1) xs)) ∙ rw (← flat_map-drop f xs i d within) left.is;
}

pub left_more_is : {X : Type 0} (f : X → Text) (xs : List X) (i : ℕ) (x : X) (old now next : Text → Type 0) → i < length xs → x ≡ get_or xs i x → IsLeft f xs i old now → Grows now next (f x) → IsLeft f xs (i + 1) old next
left_more_is {X = X} f xs i x old now next within is left grown = left_more f xs i x old now next within left (subst (λ (y : X). Grows now next (f y)) is grown)

pub left_none : {X : Type 0} (f : X → Text) (xs : List X) (i : ℕ) (old now : Text → Type 0) → length xs ≤ i → IsLeft f xs i old now → Grows old now (flat_map f xs)
left_none f xs i old now all left =
    let none : drop i xs ≡ [] = drop_of_length-le xs all in
    let whole : left.front ≡ flat_map f xs = sym (append-nil left.front) ∙ rw none at left.is in
    rw (← whole) left.grown

seen_at : {X Y : Type 0} (view : Y → X) (ys : List Y) (i : ℕ) (y : Y) → y ≡ get_or ys i y → view y ≡ get_or (map view ys) i (view y)
seen_at view ys i y is = ap view is ∙ sym (get_or-map view ys i y)

pub left_more_seen : {X Y : Type 0} (view : Y → X) (f : X → Text) (ys : List Y) (i : ℕ) (y : Y) (old now next : Text → Type 0) → i < length ys → y ≡ get_or ys i y → IsLeft f (map view ys) i old now → Grows now next (f (view y)) → IsLeft f (map view ys) (i + 1) old next
left_more_seen view f ys i y old now next within is left grown =
    let next_is : Grows now next (f (get_or (map view ys) i (view y))) = rw (← seen_at view ys i y is) grown in
    left_more f (map view ys) i (view y) old now next (rw (length-map ys view) within) left next_is

pub left_more_mapped : {X Y : Type 0} (view : Y → X) (f : X → Text) (ys : List Y) (i : ℕ) (d : Y) (old now next : Text → Type 0) → i < length ys → IsLeft f (map view ys) i old now → Grows now next (f (view (get_or ys i d))) → IsLeft f (map view ys) (i + 1) old next
left_more_mapped view f ys i d old now next within left grown =
    let next_is : Grows now next (f (get_or (map view ys) i (view d))) = rw (get_or-map view ys i d) grown in
    left_more f (map view ys) i (view d) old now next (rw (length-map ys view) within) left next_is

-- of a whole text nothing is left, or a piece more is appended
pub left_of_start : (whole : Text) (a : Text → Type 0) → IsLeftOf whole whole a a
left_of_start whole a = record { front = []; grown = grown_nothing a; is = refl }

pub left_of_more : (piece rest whole : Text) (old now next : Text → Type 0) → IsLeftOf (piece ++ rest) whole old now → Grows now next piece → IsLeftOf rest whole old next
left_of_more piece rest whole old now next left grown = record {
  front = left.front ++ piece;
  grown = grown_then old now next left.front piece left.grown grown;
  is = append_assoc left.front piece rest ∙ left.is;
}

pub left_of_none : (whole : Text) (old now : Text → Type 0) → IsLeftOf [] whole old now → Grows old now whole
left_of_none whole old now left = rw (sym (append-nil left.front) ∙ left.is) at left.grown

-- a run of items that are written as they are, and the item after it
pub left_of_run : (f : ℕ → Text) (n b : ℕ) (rest plain others after whole : Text) (old now next last : Text → Type 0) → plain ≡ take n rest → others ≡ drop n rest → flat_map f (take n rest) ≡ take n rest → others ≡ b ∷ after
    → IsLeftOf (flat_map f rest) whole old now → Grows now next plain → Grows next last (f b) → IsLeftOf (flat_map f after) whole old last
left_of_run f n b rest plain others after whole old now next last plain_is others_is as_it_is split left grown escape =
    let parts : flat_map f rest ≡ plain ++ (f b ++ flat_map f after) =
    ap (flat_map f) (sym (take-append-drop n rest)) ∙ flat_map-append f (take n rest) (drop n rest)
    ∙ (λ i. (as_it_is ∙ sym plain_is) i ++ flat_map f ((sym others_is ∙ split) i)) in
    left_of_more (f b) (flat_map f after) whole old next last (left_of_more plain (f b ++ flat_map f after) whole old now next (subst (λ (t : Text). IsLeftOf t whole old now) parts left) grown) escape

-- a list of labels with one more after a comma, unless it is the first
pub list_more : {Y : Type 0} (view : Y → Label) (ys : List Y) (i : ℕ) (d : Y) (comma : Text) (old now next : Text → Type 0) → i < length ys → ((i ≡ 0) × (comma ≡ [])) ⊎ ((0 < i) × (comma ≡ codes ",")) → Grows old now (label_list_text (map view (take i ys))) → Grows now next (comma ++ label_text (view (get_or ys i d))) → Grows old next (label_list_text (map view (take (i + 1) ys)))
list_more {Y} view ys i d comma old now next within (inl (start, none)) before more =
    let front : map view (take i ys) ≡ [] = ap (λ (n : ℕ). map view (take n ys)) start in
    let label : Text = label_text (view (get_or ys i d)) in
    let one : map view (take (i + 1) ys) ≡ view (get_or ys i d) ∷ [] = ap (map view) (take_more ys i d within) ∙ map-append view (take i ys) (get_or ys i d ∷ []) ∙ ap (λ (ls : List Label). ls ++ view (get_or ys i d) ∷ []) front in
    let grown : Grows old next (label_list_text (map view (take i ys)) ++ (comma ++ label)) = grown_then old now next _ _ before more in
    let same : label_list_text (map view (take i ys)) ++ (comma ++ label) ≡ label = (λ j. label_list_text (front j) ++ (none j ++ label)) in
    rw (one, ← same) grown
list_more {Y} view ys i d comma old now next within (inr (later, is)) before more =
    let front = map view (take i ys) in
    let last = view (get_or ys i d) in
    let some : 0 < length front = omega (arith, length-map (take i ys) view, length-take i ys) in
    let one : map view (take (i + 1) ys) ≡ front ++ last ∷ [] = ap (map view) (take_more ys i d within) ∙ map-append view (take i ys) (get_or ys i d ∷ []) in
    let list : label_list_text (front ++ last ∷ []) ≡ label_list_text front ++ (codes "," ++ label_text last) = list_joined front (last ∷ []) some ∙ ap (λ (t : Text). label_list_text front ++ t) (append-nil (codes "," ++ label_text last)) in
    rw (one, list) (subst (λ (t : Text). Grows old next (label_list_text front ++ (t ++ label_text last))) is (grown_then old now next _ _ before more))

-- the list of all labels
pub list_taken : {Y : Type 0} (view : Y → Label) (ys : List Y) (i : ℕ) (a b : Text → Type 0) → length ys ≤ i → Grows a b (label_list_text (map view (take i ys))) → Grows a b (label_list_text (map view ys))
list_taken view ys i a b all g = rw (take_all i ys all) at g

-- the texts of two lists that are not empty, with a comma between them, are the text of both
pub joined_whole : (a b : Text → Type 0) (front back : List Label) (after : Text) → ◌<◌ 0 (length front) → ◌<◌ 0 (length back) → Grows a b (label_list_text front ++ (codes "," ++ (label_list_text back ++ after))) → Grows a b (label_list_text (front ++ back) ++ after)
joined_whole a b front [] after some more g = absurd (omega (arith, more))
joined_whole a b front (first ∷ others) after some more g =
    let further : further_labels (first ∷ others) ≡ codes "," ++ label_list_text (first ∷ others) = ap (λ (t : Text). codes "," ++ t) (sym (label_list_is first others)) in
    let list : label_list_text (front ++ first ∷ others) ≡ label_list_text front ++ (codes "," ++ label_list_text (first ∷ others)) = list_joined front (first ∷ others) some ∙ ap (λ (t : Text). label_list_text front ++ t) further in
    let whole : label_list_text (front ++ first ∷ others) ++ after ≡ label_list_text front ++ (codes "," ++ (label_list_text (first ∷ others) ++ after)) =
    ap (λ (t : Text). t ++ after) list ∙ append_assoc (label_list_text front) (codes "," ++ label_list_text (first ∷ others)) after ∙ ap (λ (t : Text). label_list_text front ++ t) (append_assoc (codes ",") (label_list_text (first ∷ others)) after) in
    rw whole g

pub joined_nothing : (a b : Text → Type 0) (front back : List Label) (after : Text) → length back ≡ 0 → Grows a b (label_list_text front ++ after) → Grows a b (label_list_text (front ++ back) ++ after)
joined_nothing a b front [] after none g = rw (append-nil front) g
joined_nothing a b front (first ∷ others) after none g = absurd (omega (arith, none))

pub joined_after : (a b : Text → Type 0) (front back : List Label) (after : Text) → length front ≡ 0 → Grows a b (label_list_text back ++ after) → Grows a b (label_list_text (front ++ back) ++ after)
joined_after a b front back after none g = rw (list_back front back none) g

-- the list of further labels, after the one before and a comma, is the list of all
pub list_after : (common own : List Label) → 0 < length own → list_before common ++ label_list_text own ≡ label_list_text (common ++ own)
list_after [] own more = refl
list_after (first ∷ others) [] more = absurd (omega arith)
list_after (first ∷ others) (next ∷ back) more =
    append_assoc (label_list_text (first ∷ others)) (codes ",") (label_list_text (next ∷ back))
    ∙ ap (λ (t : Text). label_list_text (first ∷ others) ++ (codes "," ++ t)) (label_list_is next back)
    ∙ sym (list_joined (first ∷ others) (next ∷ back) (omega arith))

-- a block of two lists
pub block_neither : (front back : List Label) → length front ≡ 0 → length back ≡ 0 → label_block_text (front ++ back) ≡ []
block_neither [] [] f b = refl
block_neither [] (y ∷ ys) f b = absurd (omega arith)
block_neither (x ∷ xs) back f b = absurd (omega arith)

pub block_front : (front back : List Label) → ◌<◌ 0 (length front) → label_block_text (front ++ back) ≡ in_braces (front ++ back)
block_front [] back f = absurd (omega arith)
block_front (x ∷ xs) back f = refl

pub block_back : (front back : List Label) → ◌<◌ 0 (length back) → label_block_text (front ++ back) ≡ in_braces (front ++ back)
block_back [] [] f = absurd (omega arith)
block_back [] (y ∷ ys) f = refl
block_back (x ∷ xs) back f = refl

pub ruleset two_blocks = (block_neither, block_front, block_back, length-map)

-- three pieces at once, and what comes after them, with or without the line feed
pub grown_line : (a b c : Text → Type 0) (word name space rest : Text) → Grows a b (word ++ (name ++ space)) → Grows b c (rest ++ codes "\n") → Grows a c ((word ++ (name ++ (space ++ rest))) ++ codes "\n")
grown_line a b c word name space rest start end =
    let regrouped : (word ++ (name ++ space)) ++ (rest ++ codes "\n") ≡ (word ++ (name ++ (space ++ rest))) ++ codes "\n" = simp append_assoc in
    rw regrouped at (grown_then a b c (word ++ (name ++ space)) (rest ++ codes "\n") start end)

pub grown_apart : (a b c : Text → Type 0) (x y z rest : Text) → Grows a b (x ++ (y ++ z)) → Grows b c rest → Grows a c (x ++ (y ++ (z ++ rest)))
grown_apart a b c x y z rest start end =
    let regrouped : (x ++ (y ++ z)) ++ rest ≡ x ++ (y ++ (z ++ rest)) = simp append_assoc in
    rw regrouped at (grown_then a b c (x ++ (y ++ z)) rest start end)

pub ruleset line = (grown_line, grown_apart, grown_then, grown_nothing)
