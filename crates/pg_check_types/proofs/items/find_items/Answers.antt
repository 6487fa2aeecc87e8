use Rattle.std.proofs.Common.{arith}
use Rattle.pg_check_types.specs.Table.{types_of}
use Rattle.pg_check_types.specs.Items.{found_count}
use Rattle.pg_check_types.proofs.Resolutions.{grows_again}
use Rattle.pg_check_types.proofs.ItemPasses.{count_no_less, more_now, stuck_now}
use Rattle.pg_check_types.proofs.items.find_items.Goals as goal

pub loop-place-preserved : goal.loop-place-preserved
loop-place-preserved c =
    let before = types_of c.loop-place.table in
    let after = types_of c.find_from_both_ends.new.table in
    let a = c.loop-place.items in
    let b = c.find_from_both_ends.new.items in
    let l = count_no_less c.in_ok-more.more a b c.in_ok-more.ensures.more c.in_ok-more.ensures.same in
    record {
      grows = grows_again (types_of c.args.table.now) before after c.loop-place.invariant.grows c.in_ok-more.ensures.grows;
      found = c.in_ok-more.ensures.found;
      no_less = omega (arith, l, c.loop-place.invariant.no_less);
      more = more_now c.loop-place.found c.in_ok-more.more c.either-found.result
          (found_count c.args.items.now) a b c.either-found.ensures c.loop-place.invariant.no_less c.loop-place.invariant.more c.in_ok-more.ensures.more c.in_ok-more.ensures.same;
      stuck = stuck_now c.loop-place.found c.in_ok-more.more c.either-found.result c.args.types.now before after c.args.places.now a b c.loop-place.place c.either-found.ensures
          c.in_ok-more.ensures.grows c.loop-place.invariant.found c.loop-place.invariant.stuck c.in_ok-more.ensures.same c.in_ok-more.ensures.stuck;
    }
