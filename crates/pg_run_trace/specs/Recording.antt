-- What a trace is: the steps of a run in their order, and for how many it has room.
use Rattle.std.specs.Prelude.{ℕ, List, []}
use Rattle.pg_ir.specs.declared.request.Request.{Request}
use Rattle.pg_run_trace.specs.declared.step.Step.{Step}
use Rattle.pg_run_trace.specs.declared.step.Happening.{Happening}
use Rattle.pg_run_trace.specs.Kinds.{kind_of, object_of}

pub record Recording : Type 0 where
  pub steps : List Step
  pub room : ℕ

abbrev pub empty_with : ℕ → Recording
empty_with n = record { steps = []; room = n }

-- the event that a request of thread t is, where so many threads are made
abbrev pub happening_of : ℕ → ℕ → Request → Happening
happening_of t made r = record { kind = kind_of r; object = object_of t made r }
