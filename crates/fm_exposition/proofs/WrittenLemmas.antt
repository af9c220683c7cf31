-- Pieces written one after another.
use Rattle.std.proofs.Common.{◌≡◌, ℕ, [], ◌++◌, Option, Some, None, refl, sym, ap, ◌∙◌, append_assoc, subst, ◌-◌, length, take, drop, length-drop}
use Rattle.std.proofs.lemmas.List.{append-nil, take-append-drop}
use Rattle.std.proofs.Math.Seq.{take-length}
use Rattle.std.specs.Io.KnownBytes.{Appends, Keeps}
use Rattle.fm_grammar.specs.Exposition.{Text}
use Rattle.fm_exposition.specs.Written.{AppendsBeginning}
use Rattle.fm_exposition.specs.inside.Writing.{AppendsAllBut}

pub Appends-nothing : (known : Option Text) → Appends known known []
Appends-nothing None = tt
Appends-nothing (Some bytes) = sym (append-nil bytes)

pub Appends-then : (a b c : Option Text) (x y : Text) → Appends a b x → Appends b c y → Appends a c (x ++ y)
Appends-then None b c x y h k = tt
Appends-then (Some p) None c x y h k = absurd h
Appends-then (Some p) (Some q) None x y h k = k
Appends-then (Some p) (Some q) (Some r) x y h k = k ∙ ap (λ (t : Text). t ++ y) h ∙ append_assoc p x y

pub Appends-keeps : (a b c : Option Text) (x : Text) → Appends a b x → Keeps b c → Appends a c x
Appends-keeps None b c x h k = tt
Appends-keeps (Some p) None c x h k = absurd h
Appends-keeps (Some p) (Some q) None x h k = absurd k
Appends-keeps (Some p) (Some q) (Some r) x h k = k ∙ h

-- nothing is written yet
pub all_but_all : (known : Option Text) (whole : Text) → AppendsAllBut whole known known whole
all_but_all known whole = record { front = []; appended = Appends-nothing known; is = refl }

-- the next piece is written
pub all_but_more : (a b c : Option Text) (piece rest whole : Text) → AppendsAllBut (piece ++ rest) a b whole → Appends b c piece → AppendsAllBut rest a c whole
all_but_more a b c piece rest whole before next = record {
  front = before.front ++ piece;
  appended = Appends-then a b c before.front piece before.appended next;
  is = append_assoc before.front piece rest ∙ before.is;
}

-- nothing is left to write
pub all_but_none : (a b : Option Text) (whole : Text) → AppendsAllBut [] a b whole → Appends a b whole
all_but_none a b whole before = let P : Text → Type 0 = λ t. Appends a b t in subst P (sym (append-nil before.front) ∙ before.is) before.appended

-- nothing more is written
pub all_but_same : (a b c : Option Text) (rest whole : Text) → AppendsAllBut rest a b whole → Keeps b c → AppendsBeginning a c whole
all_but_same a b c rest whole before kept = (before.front, rest, Appends-keeps a b c before.front before.appended kept, before.is)

-- the writer took n bytes of the rest
pub all_but_taken : (a b c : Option Text) (n : ℕ) (rest whole : Text) → AppendsAllBut rest a b whole → Appends b c (take n rest) → AppendsAllBut (take (length rest - n) (drop n rest)) a c whole
all_but_taken a b c n rest whole before wrote =
    let left : take (length rest - n) (drop n rest) ≡ drop n rest = rw (← length-drop n rest) (take-length (drop n rest)) in
    rw left (all_but_more a b c (take n rest) (drop n rest) whole (rw (take-append-drop n rest) before) wrote)
