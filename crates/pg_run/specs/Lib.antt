pub mod Alone
pub mod Answer
pub mod Bound
pub mod Completed
pub mod Filled
pub mod Fits
pub mod Follow
pub mod FullGuided
pub mod Guided
pub mod Locality
pub mod Machine
pub mod MachineStep
pub mod Named
pub mod Permitted
pub mod Phases
pub mod Readers
pub mod Recordings
pub mod Rotation
pub mod Runs
pub mod State
pub mod Taken
pub mod Texts
pub mod Walked
pub mod Went
pub mod WithSteps
pub use Rattle.pg_run_trace.specs.pg_law_threads
pub use Rattle.pg_run_memory.specs as pg_run_memory
pub use Rattle.pg_run_objects.specs as pg_run_objects
pub use Rattle.pg_run_thread.specs as pg_run_thread
pub use Rattle.pg_run_trace.specs as pg_run_trace
