use Rattle.std.proofs.Common.{◌++◌, drop}
use Rattle.std.specs.List.{concat}
use Rattle.fm_exposition.specs.inside.Writing.{AppendsAllBut}
use Rattle.fm_writer.proofs.blocks.TextBlocks.write_to.Given as goal

-- the blocks from here on are left, and the last one
abbrev pub invariant-loop-block : goal.invariant-loop-block
invariant-loop-block g l = AppendsAllBut (concat (drop l.block-index l.block-items) ++ l.self-inside.last) (g.W.Write.contents l.fn.writer) (g.W.Write.contents l.writer) l.self
