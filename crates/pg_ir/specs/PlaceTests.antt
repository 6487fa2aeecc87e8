-- Tests that compute: whether the numbers of a program's parts are those of parts of it, and whether
-- its blocks, edges and phis fit each other.
use Rattle.std.specs.Prelude.{ℕ, ◌+◌, ◌-◌, ◌==◌, nat_lt, nat_le, length, Bool, true, false, not, ◌&&◌, ◌||◌, if◌then◌else◌, List, [], ◌∷◌, Option, Some}
use Rattle.std.specs.Prelude.{None, slice_get, take, drop}
use Rattle.std.specs.List.{list_all, list_any, enumerate_from}
use Rattle.pg_num.specs.declared.limits.TheConstants.{FUNCTION_LIMIT, GLOBAL_LIMIT, INSTRUCTION_LIMIT, FUNCTION_REGISTER_LIMIT, SIZE_LIMIT}
use Rattle.pg_num.specs.declared.layout.TheConstants.{GLOBALS_END}
use Rattle.pg_num.specs.declared.width.Width.TheVariants.{W32}
use Rattle.pg_ir.specs.declared.edge.Case.{Case}
use Rattle.pg_ir.specs.declared.edge.Incoming.{Incoming}
use Rattle.pg_ir.specs.declared.function.Block.{Block}
use Rattle.pg_ir.specs.declared.function.Function.{Function}
use Rattle.pg_ir.specs.declared.function.GlobalInfo.{GlobalInfo}
use Rattle.pg_ir.specs.declared.instr.Instr.{Instr}
use Rattle.pg_ir.specs.declared.instr.Op.{Op}
use Rattle.pg_ir.specs.declared.instr.Op.TheVariants.{Br, CondBr, Switch}
use Rattle.pg_ir.specs.declared.value.Scalar.{Scalar}
use Rattle.pg_ir.specs.declared.value.Scalar.TheVariants.{Int}
use Rattle.pg_ir.specs.Program.{NumberedProgram, types_of, result_of, function_of, first_of, end_of, first_block_of}
use Rattle.pg_ir.specs.Edges.{is_phi, is_terminator, incoming_of, phis_of}
use Rattle.pg_ir.specs.TypeTests.{same_type, op_fits}
use Rattle.pg_ir.specs.WellFormed.{granules_for, type_at}

-- ---- edges

-- whether a phi lists block b
abbrev pub lists_block : ℕ → Instr → Bool
lists_block b x = list_any (λ (i : Incoming). i.block.0 == b) (incoming_of x.op)

-- whether each phi of block t lists block b
unfoldable pub phis_list : NumberedProgram → ℕ → ℕ → Bool
phis_list p b t = list_all (lists_block b) (phis_of p t)

abbrev pub in_function : ℕ → Option Block → Bool
in_function f None = false
in_function f (Some b) = b.function == f

-- whether block b of function f may go on to block t: one of its function, whose phis list b
unfoldable pub target_fits : NumberedProgram → ℕ → ℕ → ℕ → Bool
target_fits p f b t = in_function f (slice_get p.blocks t) && phis_list p b t

abbrev pub case_targets_fit : NumberedProgram → ℕ → ℕ → List Case → Bool
case_targets_fit p f b cases = list_all (λ (c : Case). target_fits p f b c.to.0) cases

abbrev pub targets_fit : NumberedProgram → ℕ → ℕ → Op → Bool
targets_fit p f b (Br to) = target_fits p f b to.0
targets_fit p f b (CondBr c yes_block no_block) = target_fits p f b yes_block.0 && target_fits p f b no_block.0
targets_fit p f b (Switch w on other cases) = target_fits p f b other.0 && case_targets_fit p f b cases
targets_fit p f b _ = true

abbrev pub has_case_to : ℕ → List Case → Bool
has_case_to t cases = list_any (λ (c : Case). c.to.0 == t) cases

abbrev pub has_target : ℕ → Op → Bool
has_target t (Br to) = to.0 == t
has_target t (CondBr c yes_block no_block) = (yes_block.0 == t) || (no_block.0 == t)
has_target t (Switch w on other cases) = (other.0 == t) || has_case_to t cases
has_target t _ = false

abbrev pub leads_to : ℕ → Option Instr → Bool
leads_to t None = false
leads_to t (Some x) = has_target t x.op

-- whether block b goes on to block t
unfoldable pub goes_to : NumberedProgram → ℕ → ℕ → Bool
goes_to p b t = leads_to t (slice_get p.instrs (end_of p b - 1))

-- ---- instructions

abbrev pub phi_at : Option Instr → Bool
phi_at None = false
phi_at (Some x) = is_phi x.op

-- whether a phi is its block's first instruction or stands behind a phi
abbrev pub follows_phi : NumberedProgram → ℕ → Instr → Bool
follows_phi p i x = (i == first_of p x.block.0) || phi_at (slice_get p.instrs (i - 1))

abbrev pub each_goes_to : NumberedProgram → List Incoming → ℕ → Bool
each_goes_to p from b = list_all (λ (j : Incoming). goes_to p j.block.0 b) from

abbrev pub sources_fit : NumberedProgram → Instr → Bool
sources_fit p x = each_goes_to p (incoming_of x.op) x.block.0

abbrev pub is_entered : NumberedProgram → ℕ → Bool
is_entered p b = not (b == first_block_of p (function_of p b))

unfoldable pub phi_fits : NumberedProgram → ℕ → Instr → Bool
phi_fits p i x = follows_phi p i x && (is_entered p x.block.0 && sources_fit p x)

abbrev pub phi_fits_if_one : NumberedProgram → ℕ → Instr → Bool
phi_fits_if_one p i x = not (is_phi x.op) || phi_fits p i x

-- whether the instruction ends its block exactly where it is a terminator
abbrev pub end_fits : NumberedProgram → ℕ → Instr → Bool
end_fits p i x = if is_terminator x.op then (i + 1 == end_of p x.block.0) else not (i + 1 == end_of p x.block.0)

-- whether the instruction stands in its block
unfoldable pub place_fits : NumberedProgram → ℕ → Instr → Bool
place_fits p i x = nat_lt x.block.0 (length p.blocks) && (nat_le (first_of p x.block.0) i && (nat_lt i (end_of p x.block.0) && end_fits p i x))

abbrev pub result_fits : List Scalar → Option ℕ → Bool
result_fits types None = true
result_fits types (Some r) = nat_lt r (length types)

unfoldable pub instr_op_fits : NumberedProgram → ℕ → Instr → Bool
instr_op_fits p f x = result_fits (types_of p f) x.result && op_fits p (types_of p f) (result_of p f) (type_at (types_of p f) x.result) x.op

unfoldable pub instr_fits : NumberedProgram → ℕ → Instr → Bool
instr_fits p i x =
    place_fits p i x && (instr_op_fits p (function_of p x.block.0) x && (targets_fit p (function_of p x.block.0) x.block.0 x.op && phi_fits_if_one p i x))

-- ---- blocks and functions

abbrev pub holds_instrs : NumberedProgram → ℕ → Block → Bool
holds_instrs p b x = list_all (λ (y : Instr). y.block.0 == b) (take x.count (drop x.first.0 p.instrs))

unfoldable pub block_fits : NumberedProgram → ℕ → Block → Bool
block_fits p b x =
    (nat_lt x.function (length p.functions) && nat_lt 0 x.count) && ((nat_le (x.first.0 + x.count) (length p.instrs) && holds_instrs p b x) && nat_le (length (phis_of p b)) FUNCTION_REGISTER_LIMIT)

abbrev pub holds_blocks : NumberedProgram → ℕ → Function → Bool
holds_blocks p f x = list_all (λ (y : Block). y.function == f) (take x.blocks (drop x.first_block.0 p.blocks))

unfoldable pub function_fits : NumberedProgram → ℕ → Function → Bool
function_fits p f x =
    (nat_lt 0 x.blocks && (nat_le x.params (length x.registers) && nat_le (length x.registers) FUNCTION_REGISTER_LIMIT))
    && (nat_le (x.first_block.0 + x.blocks) (length p.blocks) && holds_blocks p f x)

-- ---- globals

abbrev pub global_fits : ℕ → GlobalInfo → Bool
global_fits at g = (g.start == at) && (nat_le g.size SIZE_LIMIT && nat_le (length g.bytes) g.size)

abbrev pub lie_from : ℕ → List GlobalInfo → Bool
lie_from at [] = nat_le at GLOBALS_END
lie_from at (g ∷ gs) = global_fits at g && lie_from (at + granules_for g.size) gs

-- ---- the program

abbrev pub main_fits : Option Function → Bool
main_fits None = false
main_fits (Some f) = (f.params == 0) && same_type f.result (Some (Int W32))

abbrev pub counts_fit : NumberedProgram → Bool
counts_fit p = nat_le (length p.functions) FUNCTION_LIMIT && (nat_le (length p.instrs) INSTRUCTION_LIMIT && nat_le (length p.globals) GLOBAL_LIMIT)

unfoldable pub functions_fit : NumberedProgram → Bool
functions_fit p = list_all (λ e. function_fits p e.0 e.1) (enumerate_from 0 p.functions)

unfoldable pub blocks_fit : NumberedProgram → Bool
blocks_fit p = list_all (λ e. block_fits p e.0 e.1) (enumerate_from 0 p.blocks)

unfoldable pub instrs_fit : NumberedProgram → Bool
instrs_fit p = list_all (λ e. instr_fits p e.0 e.1) (enumerate_from 0 p.instrs)

-- decides what holds of each program
unfoldable pub program_fits : NumberedProgram → Bool
program_fits p =
    (main_fits (slice_get p.functions p.main) && (counts_fit p && lie_from 1 p.globals)) && ((functions_fit p && blocks_fit p) && instrs_fit p)
