-- What is kept stands for what is known while nodes are added, and part by part.
use Rattle.std.proofs.Common.{◌≡◌, ℕ, List, length, Bool, Result, Ok, Err, OnOk, Option, Some, None, IfSome, refl, ap, sym, ◌∙◌}
use mathlib.Core.Path.{fun_ext}
use Rattle.pg_ir.specs.Program.{NumberedProgram}
use Rattle.pg_precondition.specs.Nodes.{NodeList}
use Rattle.pg_slice_rules.specs.Known.{SymbolicState, SymbolicThread, registers_of}
use Rattle.pg_slice_rules.specs.SymbolicValues.{Symbolic}
use Rattle.pg_slice_values.specs.SymbolicNodes.{Grew}
use Rattle.pg_slice_values.proofs.GrowingNodes.{grew_length}
use Rattle.pg_slice_checks.specs.pg_slice_memory.Changes.{symbolics_of}
use Rattle.pg_slice_checks.proofs.of_pg_slice_memory.ByteNodes.{names_more, symbolics_kept}
use Rattle.pg_slice_registers.specs.SymbolicRegisterNodes.{registers_by}
use Rattle.pg_slice_registers.proofs.KeptValues.{registers_kept, symbolic_nodes_kept}
use Rattle.pg_slice_registers.proofs.ThreadsMade.{threads_kept, threads_stay}
use Rattle.pg_slice_passes.specs.declared.state.SymbolicRun.{SymbolicRun}
use Rattle.pg_slice_passes.specs.State.{AreKept, Knows, KnowsThreads, extents_of, symbolic_nodes_in}
use Rattle.pg_slice_passes.proofs.ThreadLists.{registers_known}

pub kept_more : (old new : NodeList) (s : SymbolicRun) → Grew old new → AreKept (length old) s → AreKept (length new) s
kept_more old new s g a = record {
  threads = threads_stay old new s.threads.items g a.threads;
  bytes = names_more (length old) (length new) s.memory (grew_length old new g) a.bytes;
  words = symbolic_nodes_kept old new s.words.items g a.words;
}

pub knows_more : (p : NumberedProgram) (old new : NodeList) (pinned : ℕ → Bool) (s : SymbolicRun) (k : SymbolicState) → Grew old new → AreKept (length old) s → Knows p old pinned s k
    → Knows p new pinned s k
knows_more p old new pinned s k g a h = record {
  threads = h.threads ∙ sym (threads_kept old new s.threads.items (extents_of k) g a.threads);
  as_many = h.as_many;
  bytes = λ b. h.bytes b ∙ sym (ap (λ (f : ℕ → Symbolic). f b) (symbolics_kept p old new s.memory g a.bytes));
  words = h.words ∙ sym (registers_kept old new s.words.items g a.words);
  extents = h.extents;
}

-- ---- part by part

pub threads_in : (p : NumberedProgram) (ns : NodeList) (pinned : ℕ → Bool) (s : SymbolicRun) (k : SymbolicState) → Knows p ns pinned s k
    → KnowsThreads ns pinned s.threads.items s.extents.items k.threads
threads_in p ns pinned s k h = record { calls = h.threads; as_many = h.as_many; extents = h.extents }

pub bytes_in : (p : NumberedProgram) (ns : NodeList) (pinned : ℕ → Bool) (s : SymbolicRun) (k : SymbolicState) → Knows p ns pinned s k → k.bytes ≡ symbolics_of p ns s.memory
bytes_in p ns pinned s k h = fun_ext (λ b. h.bytes b)

pub registers_in : (p : NumberedProgram) (ns : NodeList) (pinned : ℕ → Bool) (s : SymbolicRun) (k : SymbolicState) (t : ℕ) → Knows p ns pinned s k
    → registers_by ns (symbolic_nodes_in s t) ≡ registers_of k t
registers_in p ns pinned s k t h = registers_known ns s.threads.items t k.threads h.threads

pub knows_by : (p : NumberedProgram) (ns : NodeList) (pinned : ℕ → Bool) (s : SymbolicRun) (k : SymbolicState) → KnowsThreads ns pinned s.threads.items s.extents.items k.threads →
    ((b : ℕ) → k.bytes b ≡ symbolics_of p ns s.memory b) → k.words ≡ registers_by ns s.words.items → Knows p ns pinned s k
knows_by p ns pinned s k t b w = record { threads = t.calls; as_many = t.as_many; bytes = b; words = w; extents = t.extents }

-- ---- one part changes

pub bytes_known : (p : NumberedProgram) (old new : NodeList) (pinned : ℕ → Bool) (s z : SymbolicRun) (k : SymbolicState) (bytes : ℕ → Symbolic) → Grew old new → AreKept (length old) s
    → Knows p old pinned s k →
    z.threads.items ≡ s.threads.items → z.words.items ≡ s.words.items → z.extents.items ≡ s.extents.items → ((b : ℕ) → bytes b ≡ symbolics_of p new z.memory b) →
    Knows p new pinned z (record k { bytes = bytes })
bytes_known p old new pinned s z k bytes g a h threads words extents e =
    let more = knows_more p old new pinned s k g a h in
    knows_by p new pinned z (record k { bytes = bytes }) (rw (threads, extents) (threads_in p new pinned s k more)) e (more.words ∙ ap (registers_by new) (sym words))

pub words_known : (p : NumberedProgram) (old new : NodeList) (pinned : ℕ → Bool) (s z : SymbolicRun) (k : SymbolicState) (words : List Symbolic) → Grew old new → AreKept (length old) s
    → Knows p old pinned s k →
    z.threads.items ≡ s.threads.items → z.memory ≡ s.memory → z.extents.items ≡ s.extents.items → words ≡ registers_by new z.words.items →
    Knows p new pinned z (record k { words = words })
words_known p old new pinned s z k words g a h threads memory extents e =
    let more = knows_more p old new pinned s k g a h in
    knows_by p new pinned z (record k { words = words }) (rw (threads, extents) (threads_in p new pinned s k more)) (λ b. more.bytes b ∙ ap (λ cs. symbolics_of p new cs b) (sym memory)) e

pub threads_known : (p : NumberedProgram) (old new : NodeList) (pinned : ℕ → Bool) (s z : SymbolicRun) (k : SymbolicState) (ks : List SymbolicThread) → Grew old new → AreKept (length old) s
    → Knows p old pinned s k →
    z.memory ≡ s.memory → z.words.items ≡ s.words.items → KnowsThreads new pinned z.threads.items z.extents.items ks →
    Knows p new pinned z (record k { threads = ks })
threads_known p old new pinned s z k ks g a h memory words t =
    let more = knows_more p old new pinned s k g a h in
    knows_by p new pinned z (record k { threads = ks }) t (λ b. more.bytes b ∙ ap (λ cs. symbolics_of p new cs b) (sym memory)) (more.words ∙ ap (registers_by new) (sym words))

-- ---- a result

pub on_ok_each : {T E A : Type 0} (r : Result T E) (P : A → Type 0) → ((a : A) → OnOk r (P a)) → OnOk r ((a : A) → P a)
on_ok_each (Ok x) P h = h
on_ok_each (Err e) P h = tt

pub if_some_from : {A : Type 0} (o : Option A) (P : A → Type 0) → ((x : A) → o ≡ Some x → P x) → IfSome o P
if_some_from None P h = tt
if_some_from (Some x) P h = h x refl

pub if_some_all : {A : Type 0} (o : Option A) (P : A → Type 0) → ((x : A) → P x) → IfSome o P
if_some_all None P h = tt
if_some_all (Some x) P h = h x
