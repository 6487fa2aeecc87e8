use Rattle.std.proofs.Common.{ℕ, arith, sym, subst}
use Rattle.pg_slice_memory.specs.Stamped.{IsLast}
use Rattle.pg_slice_memory.specs.Changes.{Changes}
use Rattle.pg_slice_memory.specs.declared.change.Change.{Change}
use Rattle.pg_slice_memory.specs.declared.symbolic_node.Held.TheVariants as held
use Rattle.pg_slice_memory.proofs.ByteChanges.{last_is_in}
use Rattle.pg_slice_memory.proofs.memory.SymbolicMemory.at.Goals as goal

-- what an index outside of the list would give
abbrev none : Change
none = record { start = 0; bytes = 0; to = held.Known 0 }

last_of : (c : goal.Else-count-eq0) → IsLast c.as_slice-changes.result.now c.greatest-count.result c.args.byte
last_of c =
    subst (λ (cs : Changes). IsLast cs c.greatest-count.result c.args.byte) (sym c.as_slice-changes.ensures.value)
    (subst (λ (n : ℕ). IsLast c.self.inside.changes.items n c.args.byte) (sym c.greatest-count.ensures) (c.self.invariant.last c.args.byte (omega (arith, c.if-byte-ge-PLACE_COUNT.false))))

pub symbolic_node-requires-clause-from : goal.symbolic_node-requires-clause-from
symbolic_node-requires-clause-from c = (last_is_in c.as_slice-changes.result.now c.greatest-count.result c.args.byte none (last_of c) c.if-count-eq0.false).0

pub symbolic_node-requires-clause-place : goal.symbolic_node-requires-clause-place
symbolic_node-requires-clause-place c = (last_is_in c.as_slice-changes.result.now c.greatest-count.result c.args.byte none (last_of c) c.if-count-eq0.false).1
