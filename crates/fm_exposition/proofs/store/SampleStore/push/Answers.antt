use Rattle.std.proofs.Common.{rules, ◌≡◌, ◌+◌, ◌^◌, ◌<◌, ◌++◌, ◌∷◌, [], length, true, refl, sym, subst}
use Rattle.fm_exposition.specs.declared.store.SampleStore.TheInside.{Inside}
use Rattle.fm_grammar.specs.inside.LabelLists.{AreUtf8Labels}
use Rattle.fm_exposition.specs.inside.Points.{IsCut, HaveUtf8Labels}
use Rattle.fm_exposition.specs.Samples.{shared_labels}
use Rattle.fm_exposition.proofs.PointLemmas.{cut_begun, cut_pushed, last_count, utf8_pushed}
use Rattle.fm_exposition.proofs.store.SampleStore.push.Goals as goal
use Rattle.fm_exposition.proofs.store.SampleStore.push.Goals.{then-not-self+in_ok-push, else-not-self}

-- a point is current
abbrev HasPoint : Inside → Type 0
HasPoint s = (s.is_under_way ≡ true) × IsCut (shared_labels s.common) true s.counts.items s.samples.items × AreUtf8Labels (shared_labels s.common) × HaveUtf8Labels s.samples.items

pub invariant_of-self-in_err-common : goal.invariant_of-self-in_err-common
invariant_of-self-in_err-common c =
    let inside = c.self.inside in
    let has : HasPoint c.if-not-self.self-inside = elim c.if-not-self.branch as (λ _. HasPoint c.if-not-self.self-inside) [
      | then-not-self+in_ok-push w ↦
          (let more : w.push.new.self.items ≡ inside.counts.items ++ 0 ∷ [] = search rules in
          subst HasPoint (sym w.self-inside-is) (refl, rw more (cut_begun (shared_labels inside.common) inside.is_under_way inside.counts.items inside.samples.items c.self.invariant.cut), c.self.invariant.common_utf8, c.self.invariant.samples_utf8))
      | else-not-self w ↦
          (let begun : inside.is_under_way ≡ true = search rules in
          subst HasPoint (sym w.self-inside-is) (begun, rw begun at c.self.invariant.cut, c.self.invariant.common_utf8, c.self.invariant.samples_utf8))
    ] in
    record { cut = rw has.0 has.1; common_utf8 = has.2; samples_utf8 = has.3 }

pub invariant_of-self-in_err-push_sample : goal.invariant_of-self-in_err-push_sample
invariant_of-self-in_err-push_sample c =
    let inside = c.self.inside in
    let has : HasPoint c.if-not-self.self-inside = elim c.if-not-self.branch as (λ _. HasPoint c.if-not-self.self-inside) [
      | then-not-self+in_ok-push w ↦
          (let more : w.push.new.self.items ≡ inside.counts.items ++ 0 ∷ [] = search rules in
          subst HasPoint (sym w.self-inside-is) (refl, rw more (cut_begun (shared_labels inside.common) inside.is_under_way inside.counts.items inside.samples.items c.self.invariant.cut), c.self.invariant.common_utf8, c.self.invariant.samples_utf8))
      | else-not-self w ↦
          (let begun : inside.is_under_way ≡ true = search rules in
          subst HasPoint (sym w.self-inside-is) (begun, rw begun at c.self.invariant.cut, c.self.invariant.common_utf8, c.self.invariant.samples_utf8))
    ] in
    let same : c.push_sample.new.samples.items ≡ c.if-not-self.self-inside.samples.items = search rules in
    record { cut = rw (has.0, same) has.1; common_utf8 = has.2; samples_utf8 = rw same has.3 }

pub count_one-requires : goal.count_one-requires
count_one-requires c =
    let inside = c.self.inside in
    let has : HasPoint c.if-not-self.self-inside = elim c.if-not-self.branch as (λ _. HasPoint c.if-not-self.self-inside) [
      | then-not-self+in_ok-push w ↦
          (let more : w.push.new.self.items ≡ inside.counts.items ++ 0 ∷ [] = search rules in
          subst HasPoint (sym w.self-inside-is) (refl, rw more (cut_begun (shared_labels inside.common) inside.is_under_way inside.counts.items inside.samples.items c.self.invariant.cut), c.self.invariant.common_utf8, c.self.invariant.samples_utf8))
      | else-not-self w ↦
          (let begun : inside.is_under_way ≡ true = search rules in
          subst HasPoint (sym w.self-inside-is) (begun, rw begun at c.self.invariant.cut, c.self.invariant.common_utf8, c.self.invariant.samples_utf8))
    ] in
    let s = c.if-not-self.self-inside in
    let fits : length s.samples.items + 1 < 2 ^ 64 = search rules in
    last_count (shared_labels s.common) s.counts.items s.samples.items has.1 fits

pub invariant_of-self-2 : goal.invariant_of-self-2
invariant_of-self-2 c =
    let inside = c.self.inside in
    let has : HasPoint c.if-not-self.self-inside = elim c.if-not-self.branch as (λ _. HasPoint c.if-not-self.self-inside) [
      | then-not-self+in_ok-push w ↦
          (let more : w.push.new.self.items ≡ inside.counts.items ++ 0 ∷ [] = search rules in
          subst HasPoint (sym w.self-inside-is) (refl, rw more (cut_begun (shared_labels inside.common) inside.is_under_way inside.counts.items inside.samples.items c.self.invariant.cut), c.self.invariant.common_utf8, c.self.invariant.samples_utf8))
      | else-not-self w ↦
          (let begun : inside.is_under_way ≡ true = search rules in
          subst HasPoint (sym w.self-inside-is) (begun, rw begun at c.self.invariant.cut, c.self.invariant.common_utf8, c.self.invariant.samples_utf8))
    ] in
    let s = c.if-not-self.self-inside in
    let same : shared_labels c.in_ok-common.common ≡ shared_labels s.common = search rules in
    record {
      cut = rw (has.0, c.in_ok-push_sample.ensures.pushed) (cut_pushed (shared_labels s.common) s.counts.items c.count_one.new.counts.items s.samples.items _ has.1 same c.count_one.ensures);
      common_utf8 = has.2;
      samples_utf8 = rw c.in_ok-push_sample.ensures.pushed (utf8_pushed s.samples.items _ has.3 (subst AreUtf8Labels (sym same) has.2) c.hold_utf8.ensures);
    }
