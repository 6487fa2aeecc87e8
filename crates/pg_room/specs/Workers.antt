-- The workers of a run at its begin.
use Rattle.std.specs.Prelude.{◌≡◌, ℕ, ◌<◌, List, length, slice_index_or}
use Rattle.pg_crew.specs.pg_worker.declared.worker.Worker.{Worker}

-- they have done no turn
abbrev pub AreFirst : List Worker → Type 0
AreFirst ws = (t : ℕ) (d : Worker) → t < length ws → (slice_index_or ws t d).done ≡ 0
