-- The numbers of nodes on an input, and whether checks hold.
use Rattle.std.specs.Prelude.{ℕ, zero, suc, ◌+◌, ◌*◌, ◌/◌, ◌%◌, ◌^◌, ◌==◌, ◌&&◌, not, ℤ, List, [], ◌∷◌, ◌++◌, length, Bool, true, false, Option}
use Rattle.std.specs.Prelude.{Some, None, Result, Ok, Err, slice_index_or, if◌then◌else◌}
use Rattle.std.specs.List.{list_all}
use Rattle.pg_num.specs.Numbers.{signed, sum_of, difference_of, product_of, divided, shifted, bits_of, compared, truncated, sign_extended}
use Rattle.pg_num.specs.Pointers.{pointer_of, moved_by}
use Rattle.pg_num.specs.declared.operations.DivideFault.{DivideFault}
use Rattle.pg_num.specs.declared.width.Width.{Width}
use Rattle.pg_num.specs.declared.width.Width.TheVariants.{W64}
use Rattle.pg_precondition.specs.declared.node.Operation.{Operation}
use Rattle.pg_precondition.specs.declared.node.Operation.TheVariants as operation
use Rattle.pg_precondition.specs.declared.node.CastKind.{CastKind}
use Rattle.pg_precondition.specs.declared.node.CastKind.TheVariants.{Trunc, Zext, Sext}
use Rattle.pg_precondition.specs.declared.node.Node.{Node}
use Rattle.pg_precondition.specs.declared.node.Node.TheVariants as node
use Rattle.pg_precondition.specs.declared.check.Check.{Check}
use Rattle.pg_precondition.specs.declared.check.Test.{Test}
use Rattle.pg_precondition.specs.declared.check.Test.TheVariants as test
use Rattle.pg_precondition.specs.Nodes.{Conditions}
use Rattle.pg_num.specs.Inputs.{input_at}

-- ---- the operations

abbrev pub if_divided : Result ℕ DivideFault → Option ℕ
if_divided (Ok n) = Some n
if_divided (Err fault) = None

abbrev pub bit_of : Bool → ℕ
bit_of true = 1
bit_of false = 0

-- a division by zero, and a signed one of the least number by -1, has no number
abbrev pub operated : Operation → Width → ℕ → ℕ → Option ℕ
operated operation.Add w a b = Some (sum_of w a b)
operated operation.Sub w a b = Some (difference_of w a b)
operated operation.Mul w a b = Some (product_of w a b)
operated (operation.Divide d) w a b = if_divided (divided d w a b)
operated (operation.Shift s) w a b = Some (shifted s w a b)
operated (operation.Bits o) w a b = Some (bits_of o a b)
operated (operation.Compare c) w a b = Some (bit_of (compared c w a b))

abbrev pub cast_by : CastKind → Width → Width → ℕ → ℕ
cast_by Trunc from to n = truncated to n
cast_by Zext from to n = n
cast_by Sext from to n = sign_extended from to n

abbrev pub chosen : ℕ → Option ℕ → Option ℕ → Option ℕ
chosen c first second = if c % 2 == 0 then second else first

-- ---- the numbers of nodes

-- the number of an earlier node, if it has one
abbrev pub number_of : List (Option ℕ) → ℕ → Option ℕ
number_of known i = slice_index_or known i None

abbrev pub with_one : Option ℕ → (ℕ → Option ℕ) → Option ℕ
with_one None f = None
with_one (Some n) f = f n

abbrev pub with_both : Option ℕ → Option ℕ → (ℕ → ℕ → Option ℕ) → Option ℕ
with_both None b f = None
with_both (Some m) None f = None
with_both (Some m) (Some n) f = f m n

-- the number whose bytes are those of n nodes, the lowest first
unfoldable pub joined : List (Option ℕ) → List ℕ → ℕ → Option ℕ
joined known parts zero = Some 0
joined known [] (suc n) = Some 0
joined known (p ∷ parts) (suc n) = with_both (number_of known p) (joined known parts n) (λ byte rest. Some (rest * 2 ^ 8 + byte % 2 ^ 8))

-- the number of a node by those of the nodes before it
abbrev pub node_number : List ℤ → List (Option ℕ) → Node → Option ℕ
node_number input known (node.Const n) = Some n
node_number input known (node.In a) = with_one (number_of known a) (λ i. Some (input_at input (signed W64 i)))
node_number input known node.InLen = Some (length input)
node_number input known (node.Op op w a b) = with_both (number_of known a) (number_of known b) (λ m n. operated op w (truncated w m) (truncated w n))
node_number input known (node.Cast cast from to a) = with_one (number_of known a) (λ n. Some (cast_by cast from to (truncated from n)))
node_number input known (node.Select c a b) = with_one (number_of known c) (λ n. chosen n (number_of known a) (number_of known b))
node_number input known (node.Gep base delta) = with_both (number_of known base) (number_of known delta) (λ word n. Some (moved_by word (signed W64 n)))
node_number input known (node.Byte a at) = with_one (number_of known a) (λ n. Some (n / 2 ^ (8 * at) % 2 ^ 8))
node_number input known (node.Join parts count) = joined known parts count

-- the numbers of nodes, behind those of the nodes before them
unfoldable pub numbers_behind : List ℤ → List (Option ℕ) → List Node → List (Option ℕ)
numbers_behind input known [] = known
numbers_behind input known (n ∷ nodes) = numbers_behind input (known ++ node_number input known n ∷ []) nodes

-- the numbers of a list of nodes
abbrev pub numbers_of : List ℤ → List Node → List (Option ℕ)
numbers_of input nodes = numbers_behind input [] nodes

-- ---- checks

abbrev pub meets : Test → ℕ → Bool
meets (test.Eq m) n = n == m
meets (test.Ne m) n = not (n == m)
meets (test.Bounds start length) n = (pointer_of n).start == start && (pointer_of n).length == length

abbrev pub is_met : Test → Option ℕ → Bool
is_met t None = false
is_met t (Some n) = meets t n

abbrev pub holds : List (Option ℕ) → Check → Bool
holds known c = is_met c.test (number_of known c.node)

-- an input on which each check holds
abbrev pub is_admitted : List ℤ → Conditions → Bool
is_admitted input c = list_all (holds (numbers_of input c.nodes)) c.checks
