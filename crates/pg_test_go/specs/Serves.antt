-- Entries whose schedules may be run by workers.
use Rattle.std.specs.Prelude.{◌≡◌, ◌<◌, ◌^◌, ℤ, List, length, true}
use Rattle.pg_go.specs.pg_ir.Program.{NumberedProgram}
use Rattle.pg_law_reuse.specs.pg_precondition.Values.{is_admitted}
use Rattle.pg_law_reuse.specs.Entries.{EntryParts}
use Rattle.pg_law_reuse.specs.pg_law_order.Good.{IsGoodRun}

-- the full guided run along the entry's schedule is good on each input that the entry admits
pub record Serves (p : NumberedProgram) (e : EntryParts) : Type 0 where
  pub good : (input : List ℤ) → length input < 2 ^ 64 → is_admitted input e.precondition ≡ true → IsGoodRun p input e.schedule
