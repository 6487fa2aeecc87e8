use Rattle.std.proofs.Common.{◌≡◌, drop}
use Rattle.std.specs.List.{list_any}
use Rattle.pg_slice_rules.specs.Freeable.{stores_on}
use Rattle.pg_slice_replay.specs.Apart.{loads_stored}
use Rattle.pg_slice_replay.specs.Paths.{accesses_with}
use Rattle.pg_slice_replay.proofs.apart.store_on_loads.Given as goal

abbrev pub invariant-loop-i : goal.invariant-loop-i
invariant-loop-i l = list_any (stores_on (accesses_with l.accesses l.ats)) (accesses_with l.accesses l.ats)
    ≡ list_any (loads_stored (accesses_with l.accesses l.ats)) (accesses_with (drop l.i l.accesses) (drop l.i l.ats))
