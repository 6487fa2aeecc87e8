use Rattle.std.proofs.Common.{◌≡◌, ◌<◌, ◌∙◌, sym, arith, length, false, true, ap}
use Rattle.std.specs.Prelude.{slice_get, None}
use Rattle.pg_run_objects.specs.Objects.{object_at, is_missing}
use Rattle.pg_run_objects.specs.Places.{place_is}
use Rattle.pg_run_objects.proofs.ObjectTables.{lookup_missing}
use Rattle.pg_run_objects.proofs.table.ObjectTable.put.Goals as goal

pub unreachable-requires : goal.unreachable-requires
unreachable-requires c =
    let s = c.self.inside.entries.items in
    let f : place_is c.args.place (slice_get s c.position-index.result) ≡ false = rw c.as_slice-2.ensures.value at (sym c.stands.ensures ∙ c.if-stands.false) in
    let n : object_at c.args.place s ≡ None = lookup_missing c.args.place s c.position-index.result (rw c.as_slice.ensures.value at c.position-index.ensures.below)
    (rw c.as_slice.ensures.value at c.position-index.ensures.stops) f in
    let m : is_missing (object_at c.args.place s) ≡ true = ap is_missing n in
    let k : length s < 4096 = rw c.self.view_is (c.requires.room (rw (← c.self.view_is) m)) in
    omega (arith, k, c.in-Err.ensures.full, c.self.invariant.2)
