use Rattle.std.proofs.Common.{◌≡◌, ◌+◌, ◌∙◌, arith}
use Rattle.std.proofs.Math.ListN.{length-set}
use Rattle.pg_slice_memory.specs.declared.symbolic_node.SymbolicByte.TheVariants as byte
use Rattle.pg_slice_memory.specs.Changes.{symbolic_nodes_of}
use Rattle.pg_slice_memory.specs.SymbolicNodes.{IsPart}
use Rattle.pg_slice_memory.proofs.ReadBytes.{set_next}
use Rattle.pg_slice_memory.proofs.memory.SymbolicMemory.symbolic_nodes.Goals as goal

pub loop-k-preserved : goal.loop-k-preserved
loop-k-preserved c =
    let cs = c.args.self.now in
    let xs = c.loop-k.symbolic_nodes in
    let k = c.loop-k.k in record {
      size = length-set xs k c.at.result ∙ c.loop-k.invariant.size;
      symbolic_nodes = set_next (λ j s. s ≡ symbolic_nodes_of cs (c.args.start + j)) xs k c.at.result byte.Initial (omega (arith, c.loop-k.invariant.size)) c.loop-k.invariant.symbolic_nodes c.at.ensures.symbolic_node;
      parts = set_next (λ j s. IsPart s) xs k c.at.result byte.Initial (omega (arith, c.loop-k.invariant.size)) c.loop-k.invariant.parts c.at.ensures.part;
    }
