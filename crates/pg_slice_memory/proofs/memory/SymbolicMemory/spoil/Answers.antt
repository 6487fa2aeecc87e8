use Rattle.std.proofs.Common.{◌≡◌, ◌++◌, ◌∷◌, []}
use Rattle.std.proofs.lemmas.Result.{on_ok_weaker}
use Rattle.pg_num.specs.Places.{ByteRange}
use Rattle.pg_slice_memory.specs.declared.symbolic_node.Held.TheVariants.{Unknown}
use Rattle.pg_slice_memory.specs.SymbolicNodes.{changed}
use Rattle.pg_slice_memory.specs.Changes.{symbolic_nodes_of}
use Rattle.pg_slice_memory.proofs.ByteChanges.{symbolic_nodes_more}
use Rattle.pg_slice_memory.proofs.KnownAfterChanges.{names_kept, spoil_shown}
use Rattle.pg_slice_memory.proofs.memory.SymbolicMemory.spoil.Goals as goal

abbrev spoiled_range : goal.After-change → ByteRange
spoiled_range c = record { start = c.args.start; bytes = c.args.bytes }

symbolic_nodes_are : (c : goal.After-change) → c.change.new.self ≡ c.args.self.now ++ record { start = c.args.start; bytes = c.args.bytes; to = Unknown c.args.by } ∷ [] →
    symbolic_nodes_of c.change.new.self ≡ changed (spoiled_range c) (Unknown c.args.by) (symbolic_nodes_of c.args.self.now)
symbolic_nodes_are c e = symbolic_nodes_more c.args.self.now c.change.new.self (record { start = c.args.start; bytes = c.args.bytes; to = Unknown c.args.by }) e

pub returns-clause-symbolic_nodes : goal.returns-clause-symbolic_nodes
returns-clause-symbolic_nodes c = on_ok_weaker c.change.result (symbolic_nodes_are c) c.change.ensures.ok

pub returns-clause-symbolic : goal.returns-clause-symbolic
returns-clause-symbolic c = on_ok_weaker c.change.result (λ e p ns. spoil_shown (spoiled_range c) c.args.by c.args.self.now c.change.new.self (symbolic_nodes_are c e) p ns) c.change.ensures.ok

pub returns-clause-names : goal.returns-clause-names
returns-clause-names c = on_ok_weaker c.change.result (λ e n s. names_kept (spoiled_range c) (Unknown c.args.by) c.args.self.now c.change.new.self (symbolic_nodes_are c e) n s tt) c.change.ensures.ok
