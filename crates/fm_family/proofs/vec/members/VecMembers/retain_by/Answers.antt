use Rattle.std.proofs.Common.{◌≡◌, ◌<◌, Bool, Some, length, slice_get, refl, sym, ap, ◌∙◌, subst, arith, of_calls}
use Rattle.std.specs.Fn.{Called}
use Rattle.fm_grammar.specs.Exposition.{Text}
use Rattle.std.proofs.Common.{List}
use Rattle.fm_family.specs.Members.{CalledAtMember}
use Rattle.fm_family.proofs.RetainLemmas.{retained_none, retained_not, retained_one}
use Rattle.fm_family.proofs.vec.members.VecMembers.retain_by.Goals as goal
use Rattle.fm_family.proofs.vec.members.VecMembers.retain_by.Goals.{then-keep, else-keep}

pub loop-index-init : goal.loop-index-init
loop-index-init g c =
    record {
      callable = c.requires;
      counts = (refl, refl);
      so_far = retained_none (CalledAtMember g.F.FnMut) c.args.keep.now c.args.self.now.entries;
    }

pub loop-index-preserved : goal.loop-index-preserved
loop-index-preserved g c =
    let R = CalledAtMember g.F.FnMut in
    let before = c.loop-index.keep in let after = c.keep.new.self in
    let old = c.args.self.now.entries in let now = c.loop-index.self.entries in
    let n = c.loop-index.retained in let i = c.loop-index.index in
    let so = c.loop-index.invariant in let so_far = so.so_far in
    let pair : List Text × g.row.M.Denot = (c.in-Some.values.now, c.in-Some.metric.now) in
    let read : slice_get now i ≡ Some pair = sym (ap (λ v. slice_get v.entries i) c.self-in-loop-index.view_is) ∙ sym c.in-Some.ensures.entry in
    let long = so_far.long in
    let within : i < length now = omega arith in
    let returned : (b : Bool) → c.keep.result ≡ b → R before pair b after = λ b is. record { labels = c.in-Some.values; metric = c.in-Some.metric; shows = (refl, refl); called = subst (λ r. Called g.F.FnMut before (c.in-Some.values, (c.in-Some.metric, tt)) r after) is c.keep.ensures } in
    record {
      callable = search of_calls;
      counts = elim c.if-keep.branch [
        | then-keep w ↦ rw w.self-is (rw w.exchange.ensures so.counts)
        | else-keep w ↦ rw w.self-is so.counts
      ];
      so_far = elim c.if-keep.branch [
        | then-keep w ↦ rw (w.self-is, w.retained-is) (retained_one R c.args.keep.now before after old now n i pair so_far within read w.exchange.new.self.entries (ap (λ v. v.entries) w.exchange.ensures) (returned _ w.if-keep.true))
        | else-keep w ↦ rw (w.self-is, w.retained-is) (retained_not R c.args.keep.now before after old now n i pair so_far within read (returned _ w.if-keep.false))
      ];
    }
