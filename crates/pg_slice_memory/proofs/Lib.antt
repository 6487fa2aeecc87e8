pub mod ByteChanges
pub mod KnownAfterChanges
pub mod ByteNodes
pub mod LoadedNumbers
pub mod ByteNumbers
pub mod ReadBytes
pub use Rattle.pg_slice_values.proofs as of_pg_slice_values
