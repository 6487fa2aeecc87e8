-- The values along an edge are those of the phis of the block that is entered.
use Rattle.std.proofs.Common.{◌≡◌, ℕ, ◌+◌, ◌-◌, ◌≤◌, List, [], ◌∷◌, length, map, Bool, true, false, Option, Some, IsTrue, refl, sym, ap, ◌∙◌, arith}
use Rattle.std.specs.Prelude.{slice_get, ◌==◌, ◌&&◌, if◌then◌else◌}
use Rattle.std.specs.List.{AllByRecursion}
use Rattle.pg_ir.specs.pg_num.declared.limits.TheConstants.{FUNCTION_REGISTER_LIMIT}
use Rattle.pg_ir.specs.declared.ids.BlockNo.{BlockNo}
use Rattle.pg_ir.specs.pg_num.declared.width.Width.{Width}
use Rattle.pg_ir.specs.declared.value.Value.{Value}
use Rattle.pg_ir.specs.declared.edge.Case.{Case}
use Rattle.pg_ir.specs.declared.edge.Incoming.{Incoming}
use Rattle.pg_ir.specs.declared.instr.Op.TheVariants as op
use Rattle.pg_ir.specs.declared.instr.Instr.{Instr}
use Rattle.pg_ir.specs.Program.{NumberedProgram, end_of}
use Rattle.pg_ir.specs.Edges.{is_terminator, successors, targets_of, targets_in, incoming_of, incoming_from, values_along, phis_of}
use Rattle.pg_ir.specs.Tables.{block_cases, cases_of, cases_in}
use Rattle.pg_ir.specs.Operands.{CanRead, CanReadReturned, CanTakePhi, CanEnter}
use Rattle.pg_ir.specs.WellFormed.{FitsInstr}
use Rattle.pg_ir.proofs.GrowingTables.{values_count}
use Rattle.pg_run_thread.specs.Operands.{optional_operand}
use Rattle.pg_run_thread.specs.EdgeStep.{phi_value, phi_values, have_values, is_set}
use Rattle.pg_run_thread.specs.Needs.{EndsBlock, are_given}

-- ---- the values

taken_each : (p : NumberedProgram) (rs : List (Option ℕ)) (from : ℕ) (xs : List Instr)
    → map (optional_operand p rs) (map (λ (x : Instr). incoming_from (incoming_of x.op) from) xs) ≡ phi_values p rs from xs
taken_each p rs from [] = refl
taken_each p rs from (x ∷ xs) = ap (λ (vs : List (Option ℕ)). phi_value p rs from x ∷ vs) (taken_each p rs from xs)

pub along_values : (p : NumberedProgram) (rs : List (Option ℕ)) (from to : ℕ) → map (optional_operand p rs) (values_along p from to) ≡ phi_values p rs from (phis_of p to)
unfolding values_along
along_values p rs from to = taken_each p rs from (phis_of p to)

given_each : (p : NumberedProgram) (rs : List (Option ℕ)) (from : ℕ) (xs : List Instr) → are_given (phi_values p rs from xs) ≡ have_values p rs from xs
given_each p rs from [] = refl
given_each p rs from (x ∷ xs) = ap (λ (t : Bool). is_set (phi_value p rs from x) && t) (given_each p rs from xs)

pub along_set : (p : NumberedProgram) (rs : List (Option ℕ)) (from to : ℕ) → are_given (map (optional_operand p rs) (values_along p from to)) ≡ have_values p rs from (phis_of p to)
along_set p rs from to = ap are_given (along_values p rs from to) ∙ given_each p rs from (phis_of p to)

-- ---- they can be read

incoming_reads : (p : NumberedProgram) (n from : ℕ) (is : List Incoming) → AllByRecursion (λ (i : Incoming). CanRead p n i.value) is → CanReadReturned p n (incoming_from is from)
incoming_reads p n from [] h = tt
incoming_reads p n from (i ∷ is) h = go (i.block.0 == from) (incoming_reads p n from is h.1)
  where
    go : (t : Bool) → CanReadReturned p n (incoming_from is from) → CanReadReturned p n (if t then Some i.value else incoming_from is from)
    go true more = h.0
    go false more = more

row_reads : (p : NumberedProgram) (n from : ℕ) (xs : List Instr) → AllByRecursion (CanTakePhi p n) xs
    → AllByRecursion (CanReadReturned p n) (map (λ (x : Instr). incoming_from (incoming_of x.op) from) xs)
row_reads p n from [] h = tt
row_reads p n from (x ∷ xs) h = (incoming_reads p n from (incoming_of x.op) h.0.values, row_reads p n from xs h.1)

pub along_reads : (p : NumberedProgram) (n from to : ℕ) → CanEnter p n to → AllByRecursion (CanReadReturned p n) (values_along p from to)
unfolding values_along
along_reads p n from to h = row_reads p n from (phis_of p to) h.phis

pub along_few : (p : NumberedProgram) (n from to : ℕ) → CanEnter p n to → length (values_along p from to) ≤ FUNCTION_REGISTER_LIMIT
along_few p n from to h = omega (arith, values_count p from to, h.few)

-- ---- the targets of a block's last instruction

ends_targets : (p : NumberedProgram) (i : ℕ) (x : Instr) → slice_get p.instrs i ≡ Some x → i + 1 ≡ end_of p x.block.0 → successors p x.block.0 ≡ targets_of x.op
unfolding successors
ends_targets p i x e last = let at : end_of p x.block.0 - 1 ≡ i = omega arith in ap (λ (n : ℕ). targets_in (slice_get p.instrs n)) at ∙ ap targets_in e

ends_cases : (p : NumberedProgram) (i : ℕ) (x : Instr) → slice_get p.instrs i ≡ Some x → i + 1 ≡ end_of p x.block.0 → block_cases p x.block.0 ≡ cases_of x.op
unfolding block_cases
ends_cases p i x e last = let at : end_of p x.block.0 - 1 ≡ i = omega arith in ap (λ (n : ℕ). cases_in (slice_get p.instrs n)) at ∙ ap cases_in e

is_true : (t : Bool) → t ≡ true → IsTrue t
is_true true e = refl
is_true false e = absurd cc

pub ends_block : (p : NumberedProgram) (i : ℕ) (x : Instr) → FitsInstr p i x → slice_get p.instrs i ≡ Some x → EndsBlock p x
ends_block p i x fits e = record {
  block = fits.block;
  targets = λ t. ends_targets p i x e (fits.ends.0 (is_true (is_terminator x.op) t));
  cases = λ t. ends_cases p i x e (fits.ends.0 (is_true (is_terminator x.op) t));
}

pub br_target : (p : NumberedProgram) (x : Instr) (to : BlockNo) → EndsBlock p x → x.op ≡ op.Br to → slice_get (successors p x.block.0) 0 ≡ Some to.0
br_target p x to h e = ap (λ (ts : List ℕ). slice_get ts 0) (h.targets (ap is_terminator e) ∙ ap targets_of e)

pub cond_target : (p : NumberedProgram) (x : Instr) (c : Value) (y n : BlockNo) (t to : ℕ) → EndsBlock p x → x.op ≡ op.CondBr c y n → slice_get (y.0 ∷ n.0 ∷ []) t ≡ Some to
    → slice_get (successors p x.block.0) t ≡ Some to
cond_target p x c y n t to h e g = ap (λ (ts : List ℕ). slice_get ts t) (h.targets (ap is_terminator e) ∙ ap targets_of e) ∙ g

pub switch_target : (p : NumberedProgram) (x : Instr) (w : Width) (on : Value) (other : BlockNo) (cases : List Case) (t to : ℕ) → EndsBlock p x → x.op ≡ op.Switch w on other cases
    → slice_get (other.0 ∷ map (λ (c : Case). c.to.0) cases) t ≡ Some to → slice_get (successors p x.block.0) t ≡ Some to
switch_target p x w on other cases t to h e g = ap (λ (ts : List ℕ). slice_get ts t) (h.targets (ap is_terminator e) ∙ ap targets_of e) ∙ g

pub switch_cases : (p : NumberedProgram) (x : Instr) (w : Width) (on : Value) (other : BlockNo) (cases : List Case) → EndsBlock p x → x.op ≡ op.Switch w on other cases
    → cases ≡ block_cases p x.block.0
switch_cases p x w on other cases h e = sym (h.cases (ap is_terminator e) ∙ ap cases_of e)
