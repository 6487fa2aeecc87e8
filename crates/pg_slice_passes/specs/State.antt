-- What is kept of what is known before a step.
use Rattle.std.specs.Prelude.{◌≡◌, ℕ, List, [], ◌∷◌, length, map, Bool, slice_index_or}
use Rattle.pg_ir.specs.Program.{NumberedProgram}
use Rattle.pg_precondition.specs.Nodes.{NodeList}
use Rattle.pg_slice_rules.specs.Extents.{Extent}
use Rattle.pg_slice_rules.specs.Known.{SymbolicState, SymbolicThread}
use Rattle.pg_slice_decisions.specs.declared.open.OpenExtents.{OpenExtents}
use Rattle.pg_slice_decisions.specs.Open.{AreOpen}
use Rattle.pg_slice_decisions.specs.Places.{open_at}
use Rattle.pg_slice_checks.specs.pg_slice_memory.Changes as bytes
use Rattle.pg_slice_registers.specs.SymbolicRegisterNodes.{AreSymbolicNodes, CallList, registers_by, top_symbolic_nodes}
use Rattle.pg_slice_registers.specs.Threads.{AreThreads, threads_by}
use Rattle.pg_slice_values.specs.SymbolicNodes.{SymbolicNodeList}
use Rattle.pg_slice_passes.specs.declared.state.SymbolicRun.{SymbolicRun}

-- the open extents of each thread
abbrev pub extents_of : SymbolicState → List (List Extent)
extents_of k = map (λ (t : SymbolicThread). t.extents) k.threads

-- where they end, thread by thread, of those whose branch steps aren't pinned
abbrev pub EachOpen : (ℕ → Bool) → List (List Extent) → List OpenExtents → Type 0
EachOpen pinned [] [] = Unit {0}
EachOpen pinned (es ∷ extents) (o ∷ opens) = AreOpen pinned es (open_at o) × EachOpen pinned extents opens
EachOpen pinned extents opens = ⊥

abbrev pub extents_in : List SymbolicThread → List (List Extent)
extents_in ks = map (λ (t : SymbolicThread). t.extents) ks

-- by these nodes, the calls of threads and where their extents end stand for what is known of threads
pub record KnowsThreads (ns : NodeList) (pinned : ℕ → Bool) (threads : List CallList) (opens : List OpenExtents) (ks : List SymbolicThread) : Type 0 where
  pub calls : ks ≡ threads_by ns threads (extents_in ks)
  pub as_many : length ks ≡ length threads
  pub extents : EachOpen pinned (extents_in ks) opens

-- each symbolic value's node is one of the first n
pub record AreKept (n : ℕ) (s : SymbolicRun) : Type 0 where
  pub threads : AreThreads n s.threads.items
  pub bytes : bytes.AreSymbolicNodes n s.memory
  pub words : AreSymbolicNodes n s.words.items

-- by these nodes, what is kept stands for what is known
pub record Knows (p : NumberedProgram) (ns : NodeList) (pinned : ℕ → Bool) (s : SymbolicRun) (k : SymbolicState) : Type 0 where
  pub threads : k.threads ≡ threads_by ns s.threads.items (extents_of k)
  pub as_many : length k.threads ≡ length s.threads.items
  pub bytes : (b : ℕ) → k.bytes b ≡ bytes.symbolics_of p ns s.memory b
  pub words : k.words ≡ registers_by ns s.words.items
  pub extents : EachOpen pinned (extents_of k) s.extents.items

-- the registers of the present call of thread t
abbrev pub symbolic_nodes_in : SymbolicRun → ℕ → SymbolicNodeList
symbolic_nodes_in s t = top_symbolic_nodes (slice_index_or s.threads.items t [])
