use Rattle.std.proofs.Common.{◌≡◌, ◌++◌, take, drop, length}
use Rattle.std.specs.Prelude.{map, vec_capacity}
use Rattle.pg_run_objects.specs.Sync.{release}
use Rattle.pg_run_objects.proofs.threads.release_each.Given as goal

abbrev pub invariant-loop-i : goal.invariant-loop-i
invariant-loop-i l = record {
  items : l.threads.items ≡ map (release l.place) (take l.i l.initial.threads.items) ++ drop l.i l.initial.threads.items;
  len : length l.threads.items ≡ length l.initial.threads.items;
  room : vec_capacity l.threads ≡ vec_capacity l.initial.threads;
}
