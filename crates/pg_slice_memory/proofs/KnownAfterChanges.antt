-- What is known of bytes after a change is what is known of the bytes after a store, and after a range is forgotten.
use Rattle.std.proofs.Common.{◌≡◌, ℕ, ◌-◌, Bool, true, false, refl, ap, ◌∙◌, if◌then◌else◌}
use mathlib.Core.Path.{fun_ext}
use Rattle.pg_num.specs.Places.{ByteRange}
use Rattle.pg_ir.specs.Program.{NumberedProgram}
use Rattle.pg_precondition.specs.Nodes.{NodeList}
use Rattle.pg_slice_values.specs.pg_slice_rules.SymbolicValues.{Bounded, OnInput, Symbolic, Unknown, is_within, spoiled, stored, byte_in}
use Rattle.pg_slice_values.specs.pg_slice_rules.declared.decision.Decision.{Decision}
use Rattle.pg_slice_memory.specs.declared.symbolic_node.SymbolicByte.{SymbolicByte}
use Rattle.pg_slice_memory.specs.declared.symbolic_node.Held.{Held}
use Rattle.pg_slice_memory.specs.declared.symbolic_node.Held.TheVariants as held
use Rattle.pg_slice_memory.specs.SymbolicNodes.{IsHeld, IsSymbolicNode, byte_symbolic, changed, held_symbolic, part_of}
use Rattle.pg_slice_memory.specs.Changes.{AreSymbolicNodes, Changes, symbolics_of, symbolic_nodes_of}

part_symbolic : (p : NumberedProgram) (ns : NodeList) (h : Held) (b k : ℕ) → byte_symbolic p ns b (part_of h k) ≡ byte_in k (held_symbolic ns h)
part_symbolic p ns (held.Known v) b k = refl
part_symbolic p ns (held.Unknown x) b k = refl

changed_symbolic : (p : NumberedProgram) (ns : NodeList) (r : ByteRange) (h : Held) (f : ℕ → SymbolicByte) (b : ℕ) →
    byte_symbolic p ns b (changed r h f b) ≡ stored r (held_symbolic ns h) (λ a. byte_symbolic p ns a (f a)) b
changed_symbolic p ns r h f b = go (is_within r b)
  where
    go : (v : Bool) → byte_symbolic p ns b (if v then part_of h (b - r.start) else f b) ≡ (if v then byte_in (b - r.start) (held_symbolic ns h) else byte_symbolic p ns b (f b))
    go true = part_symbolic p ns h b (b - r.start)
    go false = refl

module _ (r : ByteRange) (h : Held) (cs ds : Changes) (e : symbolic_nodes_of ds ≡ changed r h (symbolic_nodes_of cs)) where
  pub store_shown : (p : NumberedProgram) (ns : NodeList) → symbolics_of p ns ds ≡ stored r (held_symbolic ns h) (symbolics_of p ns cs)
  store_shown p ns =
      let g : (ℕ → SymbolicByte) → ℕ → Symbolic = λ f b. byte_symbolic p ns b (f b) in
      ap g e ∙ fun_ext (λ b. changed_symbolic p ns r h (symbolic_nodes_of cs) b)

  symbolic_node_kept : (n b : ℕ) → AreSymbolicNodes n cs → IsHeld n h → IsSymbolicNode n (changed r h (symbolic_nodes_of cs) b)
  symbolic_node_kept n b s i = go (is_within r b)
    where
      part : (g : Held) (k : ℕ) → IsHeld n g → IsSymbolicNode n (part_of g k)
      part (held.Known v) k j = j
      part (held.Unknown x) k j = tt

      go : (v : Bool) → IsSymbolicNode n (if v then part_of h (b - r.start) else symbolic_nodes_of cs b)
      go true = part h (b - r.start) i
      go false = s.names b

  pub names_kept : (n : ℕ) → AreSymbolicNodes n cs → IsHeld n h → AreSymbolicNodes n ds
  names_kept n s i = record { names = λ b. rw e (symbolic_node_kept n b s i) }

module _ (r : ByteRange) (x : Decision) (cs ds : Changes) (e : symbolic_nodes_of ds ≡ changed r (held.Unknown x) (symbolic_nodes_of cs)) where
  unknown_symbolic : (p : NumberedProgram) (ns : NodeList) (b : ℕ) → stored r (held_symbolic ns (held.Unknown x)) (symbolics_of p ns cs) b ≡ spoiled r x (symbolics_of p ns cs) b
  unknown_symbolic p ns b = refl

  pub spoil_shown : (p : NumberedProgram) (ns : NodeList) → symbolics_of p ns ds ≡ spoiled r x (symbolics_of p ns cs)
  spoil_shown p ns = store_shown r (held.Unknown x) cs ds e p ns ∙ fun_ext (λ b. unknown_symbolic p ns b)

pub bounded_stored : (r : ByteRange) (f : OnInput) (x : Decision) (bytes : ℕ → Symbolic) → stored r (Bounded f x) bytes ≡ stored r (Unknown x) bytes
bounded_stored r f x bytes = fun_ext (λ b. same b)
  where
    same : (b : ℕ) → stored r (Bounded f x) bytes b ≡ stored r (Unknown x) bytes b
    same b = refl
