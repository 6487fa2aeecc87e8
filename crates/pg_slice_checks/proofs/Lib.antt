pub mod OneNeedMore
pub mod OneOperand
pub mod AskedByCases
pub mod EventOperands
pub mod PathLoads
pub use Rattle.pg_slice_memory.proofs as of_pg_slice_memory
