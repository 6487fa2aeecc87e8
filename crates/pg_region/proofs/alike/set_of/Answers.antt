use Rattle.std.proofs.Common.{sym, ◌∙◌}
use Rattle.std.proofs.lemmas.Bool.{true≢false}
use Rattle.std.proofs.lemmas.List.Elements.{Contains-get_or}
use Rattle.pg_cfg.proofs.Reaches.{none_in}
use Rattle.pg_region.proofs.AlikeBranches.{set_more}
use Rattle.pg_region.proofs.alike.set_of.Goals as goal

pub loop-block-init : goal.loop-block-init
loop-block-init c = λ x e. absurd (true≢false (sym (rw c.in_ok-set.ensures at e) ∙ none_in c.args.count x))

pub loop-block-preserved : goal.loop-block-preserved
loop-block-preserved c = λ x e.
    set_more c.args.blocks.now c.loop-block.set.items _ (Contains-get_or c.args.blocks.now c.loop-block.block-index 0 c.loop-block-test.true) c.loop-block.invariant x (rw c.put.ensures.items at e)
