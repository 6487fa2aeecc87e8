use Rattle.pg_check_heads.proofs.PlaceLists.{placed_step}
use Rattle.pg_check_heads.proofs.circles.add_all.Goals as goal

pub loop-ty-preserved : goal.loop-ty-preserved
loop-ty-preserved c = λ types h.
    placed_step types c.args.found.now.items c.loop-ty.found.items c.add_place.new.found.items c.args.all.now c.loop-ty.ty-index c.ty-item.result c.ty-item.result c.loop-ty-test.true c.ty-item.is
    (c.loop-ty.invariant types h) (c.in_ok-add_place.ensures types h)
