use Rattle.std.proofs.Common.{◌<◌, ◌≤◌, length, take, subst, arith}
use Rattle.fm_grammar.specs.Exposition.{Text}
use Rattle.fm_grammar.proofs.ResultLemmas.{on_err, on_err_more}
use Rattle.fm_exposition.specs.inside.Writing.{AppendsAllBut}
use Rattle.fm_exposition.proofs.WrittenLemmas.{all_but_more}
use Rattle.fm_writer.proofs.BlockLemmas.{all_but_begun, next_block, last_block, last_begun}
use Rattle.fm_writer.proofs.blocks.TextBlocks.write_to.Goals as goal

pub returns-in_err-write_text-clause-stopped : goal.returns-in_err-write_text-clause-stopped
returns-in_err-write_text-clause-stopped g c =
    let blocks = take c.self.inside.full c.deref.result.now in
    let within : c.loop-block.block-index < length blocks = omega arith in
    let next = next_block blocks c.self.inside.last c.loop-block.block-index c.block-item.result within c.block-item.is in
    let left = subst (λ (t : Text). AppendsAllBut t (g.W.Write.contents c.args.writer.now) (g.W.Write.contents c.loop-block.writer) c.args.self.now) next c.loop-block.invariant in
    on_err c.from_residual.result _ (all_but_begun _ _ _ c.block-item.result _ _ left (rw c.as_slice.ensures at c.in_err-write_text.ensures.stopped))

pub loop-block-preserved : goal.loop-block-preserved
loop-block-preserved g c =
    let blocks = take c.self.inside.full c.deref.result.now in
    let within : c.loop-block.block-index < length blocks = omega arith in
    let next = next_block blocks c.self.inside.last c.loop-block.block-index c.block-item.result within c.block-item.is in
    let left = subst (λ (t : Text). AppendsAllBut t (g.W.Write.contents c.args.writer.now) (g.W.Write.contents c.loop-block.writer) c.args.self.now) next c.loop-block.invariant in
    all_but_more _ _ _ c.block-item.result _ _ left (rw c.as_slice.ensures at c.in_ok-write_text.ensures.ok)

pub returns-clause-stopped : goal.returns-clause-stopped
returns-clause-stopped g c =
    let blocks = take c.self.inside.full c.deref.result.now in
    let past : length blocks ≤ c.loop-block.block-index = omega arith in
    let none = last_block blocks c.self.inside.last c.loop-block.block-index past in
    let left = subst (λ (t : Text). AppendsAllBut t (g.W.Write.contents c.args.writer.now) (g.W.Write.contents c.loop-block.writer) c.args.self.now) none c.loop-block.invariant in
    on_err_more c.write_text-2.result _ _ (λ begun. last_begun _ _ _ c.self.inside.last _ left (rw c.as_slice-2.ensures at begun)) c.write_text-2.ensures.stopped
