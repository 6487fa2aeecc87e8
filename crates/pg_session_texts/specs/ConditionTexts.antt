-- What `conditions` writes of a line of input that is recorded, as bytes.
use Rattle.std.specs.Prelude.{ℕ, ◌+◌, ◌≤◌, List, [], ◌∷◌, ◌++◌, codes, take}
use Rattle.std.specs.Fmt.{decimal}
use Rattle.pg_precondition.specs.pg_num.Numbers.{width_bits}
use Rattle.pg_precondition.specs.pg_num.declared.operations.Division.{Division}
use Rattle.pg_precondition.specs.pg_num.declared.operations.Division.TheVariants.{Udiv, Sdiv, Urem, Srem}
use Rattle.pg_precondition.specs.pg_num.declared.operations.Shift.{Shift}
use Rattle.pg_precondition.specs.pg_num.declared.operations.Shift.TheVariants.{Shl, Lshr, Ashr}
use Rattle.pg_precondition.specs.pg_num.declared.operations.Bits.{Bits}
use Rattle.pg_precondition.specs.pg_num.declared.operations.Bits.TheVariants.{And, Or, Xor}
use Rattle.pg_precondition.specs.pg_num.declared.operations.Compare.{Compare}
use Rattle.pg_precondition.specs.pg_num.declared.operations.Compare.TheVariants as compare
use Rattle.pg_precondition.specs.declared.check.Check.{Check}
use Rattle.pg_precondition.specs.declared.check.Test.{Test}
use Rattle.pg_precondition.specs.declared.check.Test.TheVariants as test
use Rattle.pg_precondition.specs.declared.node.CastKind.{CastKind}
use Rattle.pg_precondition.specs.declared.node.CastKind.TheVariants.{Trunc, Zext, Sext}
use Rattle.pg_precondition.specs.declared.node.Node.{Node}
use Rattle.pg_precondition.specs.declared.node.Node.TheVariants as node
use Rattle.pg_precondition.specs.declared.node.Operation.{Operation}
use Rattle.pg_precondition.specs.declared.node.Operation.TheVariants as operation
use Rattle.pg_precondition.specs.Nodes.{Conditions}
use Rattle.pg_session_texts.specs.declared.reply.ReplyKind.TheVariants.{Recorded}
use Rattle.pg_session_texts.specs.Replies.{reply_line}

-- ---- the words of operations (LLVM Language Reference)

abbrev pub division_text : Division → List ℕ
division_text Udiv = codes "udiv"
division_text Sdiv = codes "sdiv"
division_text Urem = codes "urem"
division_text Srem = codes "srem"

abbrev pub shift_text : Shift → List ℕ
shift_text Shl = codes "shl"
shift_text Lshr = codes "lshr"
shift_text Ashr = codes "ashr"

abbrev pub bits_text : Bits → List ℕ
bits_text And = codes "and"
bits_text Or = codes "or"
bits_text Xor = codes "xor"

abbrev pub compare_text : Compare → List ℕ
compare_text compare.Eq = codes "icmp eq"
compare_text compare.Ne = codes "icmp ne"
compare_text compare.Ugt = codes "icmp ugt"
compare_text compare.Uge = codes "icmp uge"
compare_text compare.Ult = codes "icmp ult"
compare_text compare.Ule = codes "icmp ule"
compare_text compare.Sgt = codes "icmp sgt"
compare_text compare.Sge = codes "icmp sge"
compare_text compare.Slt = codes "icmp slt"
compare_text compare.Sle = codes "icmp sle"

abbrev pub operation_text : Operation → List ℕ
operation_text operation.Add = codes "add"
operation_text operation.Sub = codes "sub"
operation_text operation.Mul = codes "mul"
operation_text (operation.Divide d) = division_text d
operation_text (operation.Shift s) = shift_text s
operation_text (operation.Bits b) = bits_text b
operation_text (operation.Compare c) = compare_text c

abbrev pub cast_text : CastKind → List ℕ
cast_text Trunc = codes "trunc"
cast_text Zext = codes "zext"
cast_text Sext = codes "sext"

-- ---- nodes

-- nodes by their numbers, each behind a blank
abbrev pub numbers_text : List ℕ → List ℕ
numbers_text [] = []
numbers_text (i ∷ is) = codes " " ++ (decimal i ++ numbers_text is)

-- how a node's number is computed
abbrev pub node_text : Node → List ℕ
node_text (node.Const n) = codes "const " ++ decimal n
node_text (node.In a) = codes "input " ++ decimal a
node_text node.InLen = codes "length"
node_text (node.Op op w a b) = operation_text op ++ (codes " i" ++ (decimal (width_bits w) ++ (codes " " ++ (decimal a ++ (codes " " ++ decimal b)))))
node_text (node.Cast cast from to a) =
    cast_text cast ++ (codes " i" ++ (decimal (width_bits from) ++ (codes " " ++ (decimal a ++ (codes " to i" ++ decimal (width_bits to))))))
node_text (node.Select c a b) = codes "select " ++ (decimal c ++ (codes " " ++ (decimal a ++ (codes " " ++ decimal b))))
node_text (node.Gep base delta) = codes "move " ++ (decimal base ++ (codes " " ++ decimal delta))
node_text (node.Byte a at) = codes "byte " ++ (decimal at ++ (codes " " ++ decimal a))
node_text (node.Join parts count) = codes "join" ++ numbers_text (take count parts)

-- a join counts at most eight parts
abbrev pub HasFewParts : Node → Type 0
HasFewParts (node.Join parts count) = count ≤ 8
HasFewParts n = Unit {0}

-- the node that has this number
abbrev pub value_line : ℕ → Node → List ℕ
value_line place n = codes "value " ++ (decimal place ++ (codes " = " ++ (node_text n ++ codes "\n")))

-- nodes whose numbers begin here
abbrev pub value_lines : ℕ → List Node → List ℕ
value_lines place [] = []
value_lines place (n ∷ ns) = value_line place n ++ value_lines (place + 1) ns

-- ---- checks

-- what a number must be, to the end of the line
abbrev pub test_text : Test → List ℕ
test_text (test.Eq n) = codes " is " ++ (decimal n ++ codes "\n")
test_text (test.Ne n) = codes " isn't " ++ (decimal n ++ codes "\n")
test_text (test.Bounds start length) = codes " has " ++ (decimal start ++ (codes " " ++ (decimal length ++ codes "\n")))

abbrev pub check_line : Check → List ℕ
check_line c = codes "check " ++ (decimal c.node ++ test_text c.test)

abbrev pub check_lines : List Check → List ℕ
check_lines [] = []
check_lines (c ∷ cs) = check_line c ++ check_lines cs

-- the line of the recording, the values, and the checks
abbrev pub conditions_text : Conditions → List ℕ
conditions_text c = reply_line (Recorded 0) ++ (value_lines 0 c.nodes ++ check_lines c.checks)
