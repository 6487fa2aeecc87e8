-- What the symbolic values of all threads stand for, with the extents in which each stands.
use Rattle.std.specs.Prelude.{ℕ, List, [], ◌∷◌}
use Rattle.std.specs.List.{AllByRecursion}
use Rattle.pg_precondition.specs.Nodes.{NodeList}
use Rattle.pg_slice_rules.specs.Extents.{Extent}
use Rattle.pg_slice_rules.specs.Known.{SymbolicThread}
use Rattle.pg_slice_registers.specs.SymbolicRegisterNodes.{AreCalls, CallList, calls_by}

abbrev pub thread_by : NodeList → CallList → List Extent → SymbolicThread
thread_by ns calls es = record { calls = calls_by ns calls; extents = es }

-- the calls of each thread, and as many lists of extents
abbrev pub threads_by : NodeList → List CallList → List (List Extent) → List SymbolicThread
threads_by ns [] extents = []
threads_by ns (t ∷ ts) [] = thread_by ns t [] ∷ threads_by ns ts []
threads_by ns (t ∷ ts) (es ∷ extents) = thread_by ns t es ∷ threads_by ns ts extents

abbrev pub AreThreads : ℕ → List CallList → Type 0
AreThreads n ts = AllByRecursion (AreCalls n) ts
