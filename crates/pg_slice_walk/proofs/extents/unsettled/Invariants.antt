use Rattle.std.specs.Prelude.{slice_index_or}
use Rattle.pg_slice_walk.specs.Settled.{Leads}
use Rattle.pg_slice_walk.proofs.extents.unsettled.Given as goal

abbrev pub invariant-loop-list : goal.invariant-loop-list
invariant-loop-list l = Leads l.holders (slice_index_or l.holders l.number 0) l.list.items l.holder

abbrev pub decreases-loop-list : goal.decreases-loop-list
decreases-loop-list l = l.holder
