use Rattle.std.proofs.Common.{map, ap, ◌∙◌}
use Rattle.std.specs.List.{flat_map}
use Rattle.pg_check_rules.specs.Earliest.{earliest}
use Rattle.pg_check_rules.specs.Starts.{names_behind}
use Rattle.pg_check_rules.specs.BlockConditions.{wrong_sources}
use Rattle.pg_check_bodies.specs.BodyBlocks.{bare_node}
use Rattle.pg_check_bodies.proofs.blocks.wrong_sources.Goals as goal

pub returns : goal.returns
returns c = λ all k.
    c.in_ok-wrong.ensures all k
    ∙ ap (λ ns. earliest (flat_map (wrong_sources all (names_behind ns)) (map bare_node c.args.block.now.lines.now))) c.as_slice-2.ensures.value
    ∙ ap (λ ns. earliest (flat_map (wrong_sources all ns) (map bare_node c.args.block.now.lines.now))) c.in_ok-before.ensures
