-- The forms of operations that one node computes; pointers that are moved along indices.
use Rattle.std.specs.Prelude.{ℕ, List, [], ◌∷◌, map, Option, Some, None, slice_get, ℤ}
use Rattle.pg_num.specs.Numbers.{product_of, sign_extended, truncated}
use Rattle.pg_num.specs.Pointers.{moved_by}
use Rattle.pg_num.specs.declared.width.Width.TheVariants.{W64}
use Rattle.pg_ir.specs.declared.value.Index.{Index}
use Rattle.pg_ir.specs.declared.value.Scale.{Scale}
use Rattle.pg_ir.specs.declared.value.Scale.TheVariants.{Times, Field}
use Rattle.pg_ir.specs.declared.instr.Op.{Op}
use Rattle.pg_ir.specs.declared.instr.Op.TheVariants as op
use Rattle.pg_precondition.specs.declared.node.CastKind.TheVariants.{Trunc, Zext, Sext}
use Rattle.pg_precondition.specs.declared.node.Node.{Node}
use Rattle.pg_precondition.specs.declared.node.Node.TheVariants as node
use Rattle.pg_precondition.specs.declared.node.Operation.TheVariants as operation
use Rattle.pg_precondition.specs.Nodes.{NodeList, FitsCast}
use Rattle.pg_precondition.specs.Values.{cast_by, chosen, number_of, operated, with_both, with_one}
use Rattle.pg_run_thread.specs.Compute.{index_bytes}
use Rattle.pg_slice_values.specs.declared.form.Form.{Form}
use Rattle.pg_slice_values.specs.declared.form.Form.TheVariants as form
use Rattle.pg_slice_values.specs.declared.symbolic_node.SymbolicNode.{SymbolicNode}
use Rattle.pg_slice_values.specs.declared.symbolic_node.SymbolicNode.TheVariants as symbolic_node
use Rattle.pg_slice_values.specs.SymbolicNodes.{number_by}

-- ---- operations that one node computes

-- the form of an operation; none where one node doesn't compute it
abbrev pub form_of : Op → Option Form
form_of (op.Add w a b) = Some (form.Binary operation.Add w)
form_of (op.Sub w a b) = Some (form.Binary operation.Sub w)
form_of (op.Mul w a b) = Some (form.Binary operation.Mul w)
form_of (op.Divide d w a b) = Some (form.Binary (operation.Divide d) w)
form_of (op.Shift s w a b) = Some (form.Binary (operation.Shift s) w)
form_of (op.Bits o w a b) = Some (form.Binary (operation.Bits o) w)
form_of (op.Compare c w a b) = Some (form.Binary (operation.Compare c) w)
form_of (op.Trunc from to v) = Some (form.Cast Trunc from to)
form_of (op.Zext from to v) = Some (form.Cast Zext from to)
form_of (op.Sext from to v) = Some (form.Cast Sext from to)
form_of (op.PtrToInt from to v) = Some (form.Cast Trunc from to)
form_of (op.IntToPtr from to v) = Some (form.Cast Zext from to)
form_of (op.Select c a b) = Some form.Select
form_of _ = None

-- how many operands a form takes
abbrev pub operand_count : Form → ℕ
operand_count (form.Binary o w) = 2
operand_count (form.Cast c from to) = 1
operand_count form.Select = 3

-- the number by those of the operands
abbrev pub number_in : Form → List (Option ℕ) → Option ℕ
number_in (form.Binary o w) ns = with_both (number_of ns 0) (number_of ns 1) (λ m n. operated o w (truncated w m) (truncated w n))
number_in (form.Cast c from to) ns = with_one (number_of ns 0) (λ n. Some (cast_by c from to (truncated from n)))
number_in form.Select ns = with_one (number_of ns 0) (λ n. chosen n (number_of ns 1) (number_of ns 2))

-- a cast narrows or widens as its kind says
abbrev pub FitsForm : Form → Type 0
FitsForm (form.Cast c from to) = FitsCast c from to
FitsForm _ = Unit {0}

-- the same of an operation
abbrev pub CastFits : Op → Type 0
CastFits (op.Trunc from to v) = FitsCast Trunc from to
CastFits (op.Zext from to v) = FitsCast Zext from to
CastFits (op.Sext from to v) = FitsCast Sext from to
CastFits (op.PtrToInt from to v) = FitsCast Trunc from to
CastFits (op.IntToPtr from to v) = FitsCast Zext from to
CastFits _ = Unit {0}

-- ---- the nodes of operands

abbrev pub node_of : SymbolicNode → ℕ
node_of (symbolic_node.Known k j) = k
node_of (symbolic_node.Bounded k x) = k
node_of (symbolic_node.Unknown x) = 0

abbrev pub node_in : Option SymbolicNode → ℕ
node_in None = 0
node_in (Some s) = node_of s

-- the node of operand i, 0 where it has none
abbrev pub node_at : List SymbolicNode → ℕ → ℕ
node_at ss i = node_in (slice_get ss i)

-- the numbers of the operands' nodes on an input
abbrev pub numbers_from : NodeList → List SymbolicNode → List ℤ → List (Option ℕ)
numbers_from ns ss input = map (λ (s : SymbolicNode). number_by ns (node_of s) input) ss

-- the node that computes a form
abbrev pub node_by : Form → List SymbolicNode → Node
node_by (form.Binary o w) ss = node.Op o w (node_at ss 0) (node_at ss 1)
node_by (form.Cast c from to) ss = node.Cast c from to (node_at ss 0)
node_by form.Select ss = node.Select (node_at ss 0) (node_at ss 1) (node_at ss 2)

-- ---- pointers

-- a word moved by an index; none where one of both has no number
abbrev pub moved_if : Index → Option ℕ → Option ℕ → Option ℕ
moved_if i word n = with_both word n (λ w m. Some (moved_by w (index_bytes i i.scale (truncated i.width m))))

-- a word moved along indices
abbrev pub moved_each : Option ℕ → List Index → List (Option ℕ) → Option ℕ
moved_each word [] ns = word
moved_each word (i ∷ is) [] = None
moved_each word (i ∷ is) (n ∷ ns) = moved_each (moved_if i word n) is ns

-- by how many bytes an index moves a pointer, as a number of 64 bits
abbrev pub distance_of : Index → Scale → ℕ → ℕ
distance_of i (Times bytes) m = product_of W64 (truncated W64 (sign_extended i.width W64 (truncated i.width m))) (truncated W64 bytes)
distance_of i (Field bytes) m = bytes
