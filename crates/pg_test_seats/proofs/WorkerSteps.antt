-- Workers in a list, of which one goes on.
use Rattle.std.proofs.Common.{◌≡◌, ℕ, ◌<◌, List, length, ◌∙◌, ap}
use Rattle.std.specs.Prelude.{slice_index_or, slice_set}
use Rattle.std.proofs.lemmas.List.{length-set}
use Rattle.atomic_table.specs.Seated.{TableId}
use Rattle.pg_crew.specs.pg_seats.declared.run.Run.{Run}
use Rattle.pg_crew.specs.pg_worker.declared.worker.Worker.{Worker}
use Rattle.pg_crew.specs.pg_worker.Standing.{IsAt}
use Rattle.pg_crew.specs.Workers.{AreWorkers}
use Rattle.pg_crew.proofs.WorkerLists.{are_again, default_is, set_each}

pub one_moved : (r : Run) (table : TableId) (ws : List Worker) (i : ℕ) (w x : Worker) → AreWorkers r table ws → i < length ws → w.thread ≡ (slice_index_or ws i x).thread
    → IsAt r table 0 w → AreWorkers r table (slice_set ws i w)
one_moved r table ws i w x are lt same at =
    are_again r table ws (slice_set ws i w) are (length-set ws i w) (set_each ws i w lt (λ n v. IsAt r table 0 v) are.at at)
    (λ t d l. set_each ws i w lt (λ n v. v.thread ≡ (slice_index_or ws n d).thread) (λ n e k. ap (λ (v : Worker). v.thread) (default_is ws n e d k))
    (same ∙ ap (λ (v : Worker). v.thread) (default_is ws i x d lt)) t d l)
