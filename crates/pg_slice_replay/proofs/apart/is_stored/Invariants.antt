use Rattle.std.proofs.Common.{◌≡◌, drop}
use Rattle.std.specs.List.{list_any}
use Rattle.pg_slice_replay.specs.Apart.{is_stored, stores_to}
use Rattle.pg_slice_replay.specs.Paths.{accesses_with}
use Rattle.pg_slice_replay.proofs.apart.is_stored.Given as goal

abbrev pub invariant-loop-i : goal.invariant-loop-i
invariant-loop-i l = is_stored (accesses_with l.accesses l.ats) l.word ≡ list_any (stores_to l.word) (accesses_with (drop l.i l.accesses) (drop l.i l.ats))
