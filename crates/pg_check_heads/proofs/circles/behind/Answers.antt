use Rattle.std.proofs.Common.{map}
use Rattle.pg_read_ast.specs.Views.{type_item_of}
use Rattle.pg_check_heads.specs.Circles.{next_places}
use Rattle.pg_check_heads.proofs.PlaceLists.{flat_step}
use Rattle.pg_check_heads.proofs.circles.behind.Goals as goal

pub loop-index-preserved : goal.loop-index-preserved
loop-index-preserved c = λ h.
    flat_step (next_places (map type_item_of c.args.items.now)) c.loop-index.found.items c.add_next.new.found.items c.args.front.now c.loop-index.index _ c.loop-index-test.true
    (c.loop-index.invariant h) (c.in_ok-add_next.ensures h)
