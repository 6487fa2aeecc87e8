use Rattle.std.proofs.Common.{arith}
use Rattle.std.proofs.lemmas.List.Elements.{Contains-get_or}
use Rattle.pg_cfg.proofs.Found.{found_more}
use Rattle.pg_cfg.proofs.marks.find.Goals as goal

pub find_one-requires : goal.find_one-requires
find_one-requires c =
    let here = c.requires _ (Contains-get_or c.args.targets.now c.loop-target.target-index 0 c.loop-target-test.true) in
    omega (arith, here, c.loop-target.invariant.size, c.loop-target.found.ok.0, c.args.found.now.ok.0)

pub loop-target-preserved : goal.loop-target-preserved
loop-target-preserved c =
    found_more c.args.targets.now c.loop-target.target-index c.args.found.now.items c.args.pending.now.items c.loop-target.found.items c.loop-target.pending.items
    c.find_one.new.found.items c.find_one.new.pending.items c.loop-target-test.true c.loop-target.invariant c.in_ok-find_one.ensures
