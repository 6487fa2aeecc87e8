-- What contracts see of an adapter over a reader or a writer of `std::io`.
use Rattle.std.specs.Prelude.{ℕ, Bool}

-- the reader, how many calls failed, and whether a read gave no byte
pub record ReaderState (R : Type 0) : Type 0 where
  pub reader : R
  pub count : ℕ
  pub ended : Bool

-- the writer, and how many calls failed
pub record WriterState (W : Type 0) : Type 0 where
  pub writer : W
  pub count : ℕ
