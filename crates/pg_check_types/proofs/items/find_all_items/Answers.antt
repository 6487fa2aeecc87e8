use Rattle.std.proofs.Common.{arith}
use Rattle.pg_check_types.proofs.ItemPasses.{count_within}
use Rattle.pg_check_types.proofs.items.find_all_items.Goals as goal

pub unreachable-requires : goal.unreachable-requires
unreachable-requires c =
    let h = count_within c.loop.items in
    omega (arith, h, c.loop-test.false, c.loop.auto.items, c.requires.lengths, c.loop.invariant.count)
