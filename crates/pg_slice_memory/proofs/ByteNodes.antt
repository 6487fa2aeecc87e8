-- What is known of bytes as nodes are added: it stays.
use Rattle.std.proofs.Common.{◌≡◌, ℕ, ◌<◌, ◌≤◌, length, arith, refl, ap, ◌∙◌}
use mathlib.Core.Path.{fun_ext}
use Rattle.pg_ir.specs.Program.{NumberedProgram}
use Rattle.pg_precondition.specs.Nodes.{NodeList}
use Rattle.pg_slice_values.specs.pg_slice_rules.SymbolicValues.{OnInput, Symbolic, byte_in, valued}
use Rattle.pg_slice_memory.specs.declared.symbolic_node.SymbolicByte.{SymbolicByte}
use Rattle.pg_slice_memory.specs.declared.symbolic_node.SymbolicByte.TheVariants as byte
use Rattle.pg_slice_memory.specs.Loads.{IsByteNode}
use Rattle.pg_slice_memory.specs.SymbolicNodes.{IsSymbolicNode, byte_symbolic}
use Rattle.pg_slice_memory.specs.Changes.{AreSymbolicNodes, Changes, symbolics_of, symbolic_nodes_of}
use Rattle.pg_slice_values.specs.SymbolicNodes.{Grew}
use Rattle.pg_slice_values.proofs.GrowingNodes.{grew_length, number_kept}

pub byte_kept : (p : NumberedProgram) (old new : NodeList) (b : ℕ) (s : SymbolicByte) → Grew old new → IsSymbolicNode (length old) s → byte_symbolic p new b s ≡ byte_symbolic p old b s
byte_kept p old new b byte.Initial g h = refl
byte_kept p old new b (byte.Part of at) g h =
    let f : OnInput → Symbolic = λ n. byte_in at (valued n) in
    ap f (fun_ext (λ input. number_kept old new of input g h))
byte_kept p old new b (byte.Unknown x) g h = refl

pub symbolic_node_more : (m n : ℕ) (s : SymbolicByte) → m ≤ n → IsSymbolicNode m s → IsSymbolicNode n s
symbolic_node_more m n byte.Initial h i = tt
symbolic_node_more m n (byte.Part of at) h i = omega arith
symbolic_node_more m n (byte.Unknown x) h i = tt

pub byte_node_kept : (old new : NodeList) (k : ℕ) (s : Symbolic) → Grew old new → IsByteNode old k s → IsByteNode new k s
byte_node_kept old new k s g h = record {
  below = let a = grew_length old new g in let b = h.below in omega (arith, a, b);
  value = ap (λ f. valued f) (fun_ext (λ input. number_kept old new k input g h.below)) ∙ h.value;
  small = λ input. rw (number_kept old new k input g h.below) (h.small input);
}

pub symbolics_kept : (p : NumberedProgram) (old new : NodeList) (cs : Changes) → Grew old new → AreSymbolicNodes (length old) cs → symbolics_of p new cs ≡ symbolics_of p old cs
symbolics_kept p old new cs g h = fun_ext (λ b. byte_kept p old new b (symbolic_nodes_of cs b) g (h.names b))

pub names_more : (m n : ℕ) (cs : Changes) → m ≤ n → AreSymbolicNodes m cs → AreSymbolicNodes n cs
names_more m n cs le h = record { names = λ b. symbolic_node_more m n (symbolic_nodes_of cs b) le (h.names b) }
