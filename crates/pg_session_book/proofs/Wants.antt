-- Faults that are no want of memory.
use Rattle.std.proofs.Common.{◌≡◌, sym, ◌∙◌}
use Rattle.pg_session_runner.specs.FromFault.{FromFault}
use Rattle.pg_session_runner.specs.FromFault.TheVariants as turns
use Rattle.pg_session_runner.specs.declared.loading.LoadFault.{LoadFault}
use Rattle.pg_session_runner.specs.declared.loading.LoadFault.TheVariants as load
use Rattle.pg_session_book.specs.LoadedBooks.{IsNoWant}

gate_apart : (fault : FromFault) → Path LoadFault load.Gate (load.Turns fault) → ⊥
gate_apart fault e = absurd cc

same_turns : (a b : FromFault) → Path LoadFault (load.Turns a) (load.Turns b) → a ≡ b
same_turns a b e = cc

pub not_gate : (fault : LoadFault) → fault ≡ load.Gate → IsNoWant fault
not_gate fault is = λ e. gate_apart turns.OutOfMemory (sym is ∙ e)

pub not_turns : (why : FromFault) → (why ≡ turns.OutOfMemory → ⊥) → IsNoWant (load.Turns why)
not_turns why other = λ e. other (same_turns why turns.OutOfMemory e)
