use Rattle.std.proofs.Common.{◌≡◌, ◌++◌, ◌<◌, arith, length, codes}
use Rattle.fm_grammar.specs.Kinds.{suffix_of}
use Rattle.fm_grammar.specs.Spelling.{label_list_text}
use Rattle.fm_grammar.proofs.ResultLemmas.{on_ok_more}
use Rattle.fm_text.specs.inside.Grown.{Grows}
use Rattle.fm_text.proofs.GrownLemmas.{block_neither, block_front, block_back, grown_two, joined_whole, joined_nothing, joined_after}
use Rattle.fm_writer.proofs.RowLemmas.{before_value, begun_bare, begun_braced, row_begun}
use Rattle.fm_writer.proofs.rendering.append_sample_row.Goals as goal
use Rattle.fm_writer.proofs.rendering.append_sample_row.Goals.{then-len-eq0+then-len-eq0-2+in_ok-put_three, then-len-eq0+else-len-eq0-2+in_ok-put_three-2+in_ok-append_before, else-len-eq0+in_ok-put_three-3+in_ok-append_before-3, then-len-gt0+in_ok-append_before-2, else-len-gt0}

pub returns : goal.returns
returns g c =
    let front = g.F.LabelSource.labels c.args.common.now in
    let back = g.G.LabelSource.labels c.args.own.now in
    let stands = g.O.Output.stands_for in
    let name = c.args.name.now in
    let suffix = suffix_of c.args.kind in
    let begun : Grows (stands c.args.text.now) (stands c.if-len-eq0.text) (before_value name suffix (front ++ back)) = elim c.if-len-eq0.branch [
      | then-len-eq0+then-len-eq0-2+in_ok-put_three w ↦
          (let block = block_neither front back (omega (arith, w.len-then-len-eq0.ensures, w.if-len-eq0-2.true)) (omega (arith, c.len.ensures, w.if-len-eq0.true)) in
          rw (w.text-is) (begun_bare _ _ name suffix (front ++ back) block (rw (w.in_ok-put_three.was, c.as_bytes-name.ensures.value, c.as_bytes-suffix.ensures.value, c.suffix.ensures) at w.put_three.ensures)))
      | then-len-eq0+else-len-eq0-2+in_ok-put_three-2+in_ok-append_before w ↦
          (let none : length back ≡ 0 = omega (arith, c.len.ensures, w.if-len-eq0.true) in
          let block = block_front front back (omega (arith, w.len-then-len-eq0.ensures, w.if-len-eq0-2.false)) in
          let list = joined_nothing _ _ front back (codes "} ") none (rw w.in_ok-append_before.was at w.append_before.ensures) in
          rw (w.text-is) (begun_braced _ _ _ name suffix (front ++ back) block (rw (w.in_ok-put_three-2.was, c.as_bytes-name.ensures.value, c.as_bytes-suffix.ensures.value, c.suffix.ensures) at w.put_three-else-len-eq0-2.ensures) list))
      | else-len-eq0+in_ok-put_three-3+in_ok-append_before-3 w ↦
          (let more : 0 < length back = omega (arith, c.len.ensures, w.if-len-eq0.false) in
          let block = block_back front back more in
          let own = rw w.in_ok-append_before-3.was at w.append_before-else-len-eq0.ensures in
          let list : Grows (stands w.put_three-else-len-eq0.new.self) (stands w.append_before-else-len-eq0.new.text) (label_list_text (front ++ back) ++ codes "} ") = elim w.if-len-gt0.branch [
            | then-len-gt0+in_ok-append_before-2 v ↦
                (let some : 0 < length front = omega (arith, w.len-else-len-eq0.ensures, v.if-len-gt0.true) in
                joined_whole _ _ front back (codes "} ") some more (grown_two _ _ _ _ _ _ (rw (v.in_ok-append_before-2.was, ← v.text-is) at v.append_before-then-len-gt0.ensures) own))
            | else-len-gt0 v ↦
                joined_after _ _ front back (codes "} ") (omega (arith, w.len-else-len-eq0.ensures, v.if-len-gt0.false)) (rw (v.text-is) at own)
          ] in
          rw (w.text-is) (begun_braced _ _ _ name suffix (front ++ back) block (rw (w.in_ok-put_three-3.was, c.as_bytes-name.ensures.value, c.as_bytes-suffix.ensures.value, c.suffix.ensures) at w.put_three-else-len-eq0.ensures) list))
    ] in
    on_ok_more c.append_reading.result _ _ (λ end. row_begun _ _ _ name _ begun end) c.append_reading.ensures
