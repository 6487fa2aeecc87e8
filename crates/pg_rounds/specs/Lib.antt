pub mod Prints
pub mod Turns
pub use Rattle.pg_room.specs as pg_room
pub use Rattle.pg_room.specs.pg_crew
pub use Rattle.pg_room.specs.pg_ir
pub use Rattle.pg_room.specs.pg_law_effects
pub use Rattle.pg_room.specs.pg_law_order
pub use Rattle.pg_room.specs.pg_law_runs
pub use Rattle.pg_room.specs.pg_law_threads
pub use Rattle.pg_room.specs.pg_num
pub use Rattle.pg_room.specs.pg_run
pub use Rattle.pg_room.specs.pg_run_thread
pub use Rattle.pg_room.specs.pg_run_trace
pub use Rattle.pg_room.specs.pg_worker
