-- A run that is made ready, until its words are given back.
use Rattle.std.specs.Prelude.{◌≡◌, suc, ◌<◌, ◌^◌, [], length}
use Rattle.pg_crew.specs.pg_num.declared.layout.TheConstants.{GRANULE_COUNT}
use Rattle.pg_crew.specs.pg_seats.declared.run.View.TheVariants.{Pool}
use Rattle.pg_crew.specs.pg_worker.Standing.{run_in, table_in}
use Rattle.pg_crew.specs.Workers.{AreWorkers}
use Rattle.pg_room.specs.declared.parts.Ready.{Ready}
use Rattle.pg_room.specs.Laying.{HasMarked}

-- its workers stand in the run that they share, their seats were split off the pool's, and what was laid is marked
pub record IsReady (run : Ready) : Type 0 where
  pub gated : run.shared.gated ≡ run.shared.schedule.now.gated
  pub epoch : suc run.shared.epoch < 2 ^ 64
  pub workers : AreWorkers (run_in run.shared) (table_in run.shared) run.workers.items
  pub own : run.pool.table_id ≡ table_in run.shared
  pub view : run.pool.me ≡ (Pool (run_in run.shared) (length run.workers.items) 0, [])
  pub laid : HasMarked run.shared.program.now.globals GRANULE_COUNT run.laid.words.items
