-- The tests of the places of a program's parts decide the facts.
use Rattle.std.proofs.Common.{◌≡◌, ℕ, ◌+◌, ◌<◌, ◌≤◌, List, length, true, ◌&&◌, ◌↔◌, IsTrue}
use Rattle.std.specs.Prelude.{slice_get, ◌==◌, ◌≢◌, nat_lt, nat_le, Option, Some, None, IfSome}
use Rattle.std.specs.List.{AllByRecursion}
use Rattle.std.specs.Bool.{Decides}
use Rattle.std.proofs.lemmas.Bool.Decides.{Decides-and, Decides-like, Decides-eqb, Decides-not}
use Rattle.pg_num.specs.declared.limits.TheConstants.{FUNCTION_LIMIT, GLOBAL_LIMIT, INSTRUCTION_LIMIT, FUNCTION_REGISTER_LIMIT}
use Rattle.pg_num.specs.declared.width.Width.TheVariants.{W32}
use Rattle.pg_ir.specs.declared.value.Scalar.{Scalar}
use Rattle.pg_ir.specs.declared.value.Scalar.TheVariants.{Int}
use Rattle.pg_ir.specs.declared.edge.Case.{Case}
use Rattle.pg_ir.specs.declared.function.Function.{Function}
use Rattle.pg_ir.specs.declared.function.Block.{Block}
use Rattle.pg_ir.specs.declared.instr.Op.{Op}
use Rattle.pg_ir.specs.declared.instr.Op.TheVariants as op
use Rattle.pg_ir.specs.declared.instr.Instr.{Instr}
use Rattle.pg_ir.specs.Program.{NumberedProgram, types_of, result_of, function_of, first_of, end_of, first_block_of}
use Rattle.pg_ir.specs.Edges.{is_phi, is_terminator, targets_of, phis_of}
use Rattle.pg_ir.specs.TypeTests.{same_type, op_fits}
use Rattle.pg_ir.specs.PlaceTests.{phis_list, in_function, target_fits, case_targets_fit, targets_fit, follows_phi, sources_fit, is_entered, phi_fits, phi_fits_if_one, end_fits, place_fits}
use Rattle.pg_ir.specs.PlaceTests.{result_fits, instr_op_fits, instr_fits, holds_instrs, block_fits, holds_blocks, function_fits, main_fits, counts_fit}
use Rattle.pg_ir.specs.WellFormed.{FitsOp, FitsBlock, FitsFunction, IsInBlock, IsInFunction, IsMain, type_at}
use Rattle.pg_ir.proofs.DecidedFacts.{decides_le, decides_lt, decides_no, decides_sure, decides_three, decides_four, decides_mapped, decides_then, decides_when, decides_alike, decides_range}
use Rattle.pg_ir.proofs.TypesDecide.{decides_op, decides_type}

-- ---- targets

-- block b of function f may go on to block t
abbrev pub TargetFits : NumberedProgram → ℕ → ℕ → ℕ → Type 0
TargetFits p f b t = IsInFunction f (slice_get p.blocks t) × (phis_list p b t ≡ true)

decides_in_function : (f : ℕ) (o : Option Block) → Decides (in_function f o) (IsInFunction f o)
decides_in_function f None = decides_no (λ h. h)
decides_in_function f (Some b) = Decides-eqb b.function f

decides_target : (p : NumberedProgram) (f b t : ℕ) → Decides (target_fits p f b t) (TargetFits p f b t)
unfolding target_fits
decides_target p f b t =
    Decides-and (in_function f (slice_get p.blocks t)) (phis_list p b t) (decides_in_function f (slice_get p.blocks t)) (λ e. e, λ e. e)

pub decides_targets : (p : NumberedProgram) (f b : ℕ) (o : Op) → Decides (targets_fit p f b o) (AllByRecursion (TargetFits p f b) (targets_of o))
decides_targets p f b (op.Br to) = Decides-like (target_fits p f b to.0) (λ h. (h, tt)) (λ h. h.0) (decides_target p f b to.0)
decides_targets p f b (op.CondBr c yes_block no_block) =
    Decides-like (target_fits p f b yes_block.0 && target_fits p f b no_block.0) (λ h. (h.0, (h.1, tt))) (λ h. (h.0, h.1.0))
    (Decides-and (target_fits p f b yes_block.0) (target_fits p f b no_block.0) (decides_target p f b yes_block.0) (decides_target p f b no_block.0))
decides_targets p f b (op.Switch w on other cases) =
    Decides-and (target_fits p f b other.0) (case_targets_fit p f b cases) (decides_target p f b other.0)
    (decides_mapped (λ (c : Case). c.to.0) (target_fits p f b) (TargetFits p f b) (decides_target p f b) cases)
decides_targets p f b _ = decides_sure tt

-- ---- an instruction in its place

abbrev pub PlaceFits : NumberedProgram → ℕ → Instr → Type 0
PlaceFits p i x =
    (x.block.0 < length p.blocks) × (first_of p x.block.0 ≤ i) × (i < end_of p x.block.0) × (IsTrue (is_terminator x.op) ↔ (i + 1 ≡ end_of p x.block.0))

decides_place : (p : NumberedProgram) (i : ℕ) (x : Instr) → Decides (place_fits p i x) (PlaceFits p i x)
unfolding place_fits
decides_place p i x =
    decides_four (nat_lt x.block.0 (length p.blocks)) (nat_le (first_of p x.block.0) i) (nat_lt i (end_of p x.block.0)) (end_fits p i x)
    (decides_lt x.block.0 (length p.blocks)) (decides_le (first_of p x.block.0) i) (decides_lt i (end_of p x.block.0))
    (decides_alike (is_terminator x.op) (i + 1 == end_of p x.block.0) (Decides-eqb (i + 1) (end_of p x.block.0)))

decides_register : (types : List Scalar) (o : Option ℕ) → Decides (result_fits types o) (IfSome o (λ r. r < length types))
decides_register types None = decides_sure tt
decides_register types (Some r) = decides_lt r (length types)

abbrev pub OperationFits : NumberedProgram → ℕ → Instr → Type 0
OperationFits p f x = IfSome x.result (λ r. r < length (types_of p f)) × FitsOp p (types_of p f) (result_of p f) (type_at (types_of p f) x.result) x.op

decides_operation : (p : NumberedProgram) (f : ℕ) (x : Instr) → Decides (instr_op_fits p f x) (OperationFits p f x)
unfolding instr_op_fits
decides_operation p f x =
    Decides-and (result_fits (types_of p f) x.result) (op_fits p (types_of p f) (result_of p f) (type_at (types_of p f) x.result) x.op)
    (decides_register (types_of p f) x.result) (decides_op p (types_of p f) (result_of p f) (type_at (types_of p f) x.result) x.op)

-- of a phi: it follows a phi or comes first, its block is entered, its blocks go on to its own
abbrev pub PhiFits : NumberedProgram → ℕ → Instr → Type 0
PhiFits p i x = (follows_phi p i x ≡ true) × (x.block.0 ≢ first_block_of p (function_of p x.block.0)) × (sources_fit p x ≡ true)

decides_phi : (p : NumberedProgram) (i : ℕ) (x : Instr) → Decides (phi_fits p i x) (PhiFits p i x)
unfolding phi_fits
decides_phi p i x =
    decides_three (follows_phi p i x) (is_entered p x.block.0) (sources_fit p x) (λ e. e, λ e. e)
    (Decides-not (x.block.0 == first_block_of p (function_of p x.block.0)) (Decides-eqb x.block.0 (first_block_of p (function_of p x.block.0)))) (λ e. e, λ e. e)

-- what is tested of an instruction alone
pub record InstrFits (p : NumberedProgram) (i : ℕ) (x : Instr) : Type 0 where
  pub place : PlaceFits p i x
  pub operation : OperationFits p (function_of p x.block.0) x
  pub targets : AllByRecursion (TargetFits p (function_of p x.block.0) x.block.0) (targets_of x.op)
  pub phi : IsTrue (is_phi x.op) → PhiFits p i x

pub decides_instr : (p : NumberedProgram) (i : ℕ) (x : Instr) → Decides (instr_fits p i x) (InstrFits p i x)
unfolding instr_fits
decides_instr p i x =
    let f = function_of p x.block.0 in
    Decides-like (place_fits p i x && (instr_op_fits p f x && (targets_fit p f x.block.0 x.op && phi_fits_if_one p i x)))
    (λ h. record { place = h.0; operation = h.1; targets = h.2; phi = h.3 }) (λ r. (r.place, r.operation, r.targets, r.phi))
    (decides_four (place_fits p i x) (instr_op_fits p f x) (targets_fit p f x.block.0 x.op) (phi_fits_if_one p i x)
    (decides_place p i x) (decides_operation p f x) (decides_targets p f x.block.0 x.op) (decides_when (is_phi x.op) (phi_fits p i x) (decides_phi p i x)))

-- ---- blocks and functions

decides_in_block : (b : ℕ) (x : Instr) → Decides (x.block.0 == b) (IsInBlock b (Some x))
decides_in_block b x = Decides-eqb x.block.0 b

pub decides_block : (p : NumberedProgram) (b : ℕ) (x : Block) → Decides (block_fits p b x) (FitsBlock p b x)
unfolding block_fits
decides_block p b x =
    let within = nat_le (x.first.0 + x.count) (length p.instrs) in
    let few = nat_le (length (phis_of p b)) FUNCTION_REGISTER_LIMIT in
    Decides-like ((nat_lt x.function (length p.functions) && nat_lt 0 x.count) && ((within && holds_instrs p b x) && few))
    (λ h. record { function = h.0.0; some = h.0.1; within = h.1.0.0; holds = h.1.0.1; few_phis = h.1.1 })
    (λ r. ((r.function, r.some), ((r.within, r.holds), r.few_phis)))
    (Decides-and (nat_lt x.function (length p.functions) && nat_lt 0 x.count) ((within && holds_instrs p b x) && few)
    (Decides-and (nat_lt x.function (length p.functions)) (nat_lt 0 x.count) (decides_lt x.function (length p.functions)) (decides_lt 0 x.count))
    (Decides-and (within && holds_instrs p b x) few
    (decides_then within (holds_instrs p b x) (decides_le (x.first.0 + x.count) (length p.instrs))
    (decides_range (λ (y : Instr). y.block.0 == b) (IsInBlock b) (decides_in_block b) p.instrs x.first.0 x.count))
    (decides_le (length (phis_of p b)) FUNCTION_REGISTER_LIMIT)))

decides_of_function : (f : ℕ) (x : Block) → Decides (x.function == f) (IsInFunction f (Some x))
decides_of_function f x = Decides-eqb x.function f

pub decides_function : (p : NumberedProgram) (f : ℕ) (x : Function) → Decides (function_fits p f x) (FitsFunction p f x)
unfolding function_fits
decides_function p f x =
    let within = nat_le (x.first_block.0 + x.blocks) (length p.blocks) in
    let params = nat_le x.params (length x.registers) in
    let few = nat_le (length x.registers) FUNCTION_REGISTER_LIMIT in
    Decides-like ((nat_lt 0 x.blocks && (params && few)) && (within && holds_blocks p f x))
    (λ h. record { some = h.0.0; params = h.0.1; few = h.0.2; within = h.1.0; holds = h.1.1 })
    (λ r. ((r.some, r.params, r.few), (r.within, r.holds)))
    (Decides-and (nat_lt 0 x.blocks && (params && few)) (within && holds_blocks p f x)
    (decides_three (nat_lt 0 x.blocks) params few (decides_lt 0 x.blocks) (decides_le x.params (length x.registers)) (decides_le (length x.registers) FUNCTION_REGISTER_LIMIT))
    (decides_then within (holds_blocks p f x) (decides_le (x.first_block.0 + x.blocks) (length p.blocks))
    (decides_range (λ (y : Block). y.function == f) (IsInFunction f) (decides_of_function f) p.blocks x.first_block.0 x.blocks)))

pub decides_main : (o : Option Function) → Decides (main_fits o) (IsMain o)
decides_main None = decides_no (λ h. h)
decides_main (Some f) =
    Decides-and (f.params == 0) (same_type f.result (Some (Int W32))) (Decides-eqb f.params 0) (decides_type f.result (Some (Int W32)))

pub decides_counts : (p : NumberedProgram) → Decides (counts_fit p) ((length p.functions ≤ FUNCTION_LIMIT) × (length p.instrs ≤ INSTRUCTION_LIMIT) × (length p.globals ≤ GLOBAL_LIMIT))
decides_counts p =
    decides_three (nat_le (length p.functions) FUNCTION_LIMIT) (nat_le (length p.instrs) INSTRUCTION_LIMIT) (nat_le (length p.globals) GLOBAL_LIMIT)
    (decides_le (length p.functions) FUNCTION_LIMIT) (decides_le (length p.instrs) INSTRUCTION_LIMIT) (decides_le (length p.globals) GLOBAL_LIMIT)
