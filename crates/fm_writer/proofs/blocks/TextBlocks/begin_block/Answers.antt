use Rattle.std.proofs.Common.{◌<◌, ◌≤◌, ◌++◌, ◌+◌, [], ◌∷◌, List, length, take, ap, arith, ◌∙◌}
use Rattle.std.specs.List.{concat}
use Rattle.fm_grammar.specs.Exposition.{Text}
use Rattle.fm_writer.specs.declared.blocks.TextBlocks.TheInside.{Inside}
use Rattle.fm_writer.proofs.BlockLemmas.{spare_taken, block_added}
use Rattle.fm_writer.proofs.blocks.TextBlocks.begin_block.Goals.{then-self-len, else-self-len+in_ok-next+in_ok-reserve}
use Rattle.fm_writer.proofs.blocks.TextBlocks.begin_block.Goals as goal

pub returns : goal.returns
returns c =
    let blocks = c.self.inside.blocks.items in
    let full = c.self.inside.full in
    elim c.if-self-len.branch [
      | then-self-len w ↦
          let within : full < length blocks = omega arith in
          ap (λ (s : Inside). concat (take (s.full + 1) s.blocks.items) ++ s.last) w.self-inside-is
          ∙ spare_taken blocks full w.swap.new.x w.clear.new.self within w.clear.ensures
          ∙ ap (λ (t : Text). concat (take full blocks) ++ t) w.swap.ensures.x_after ∙ c.self.view_is
      | else-self-len+in_ok-next+in_ok-reserve w ↦
          let past : length blocks ≤ full = omega arith in
          ap (λ (s : Inside). concat (take (s.full + 1) s.blocks.items) ++ s.last) w.self-inside-is
          ∙ ap (λ (bs : List Text). concat (take (full + 1) bs) ++ w.replace.new.dest) (w.push_reserved.ensures.items ∙ ap (λ (bs : List Text). bs ++ w.replace.result ∷ []) w.in_ok-reserve.ensures.items)
          ∙ block_added blocks full w.replace.result w.replace.new.dest past (w.replace.ensures.after ∙ w.in_ok-next.ensures)
          ∙ ap (λ (t : Text). concat (take full blocks) ++ t) w.replace.ensures.value ∙ c.self.view_is
    ]
