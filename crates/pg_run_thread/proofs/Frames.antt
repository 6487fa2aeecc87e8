-- The frames after a step are again frames of the program.
use Rattle.std.proofs.Common.{◌≡◌, ℕ, zero, suc, ◌+◌, ◌-◌, ◌<◌, List, [], ◌∷◌, ◌++◌, length, take, map, replicate, Bool, true, false, Option, Some, None}
use Rattle.std.proofs.Common.{IfSome, arith, refl, sym, subst}
use Rattle.std.specs.Prelude.{slice_get, IsSomeAnd, ◌==◌, if◌then◌else◌}
use Rattle.std.specs.List.{AllByRecursion}
use Rattle.pg_ir.specs.pg_num.Numbers.{modulus}
use Rattle.pg_ir.specs.declared.edge.Incoming.{Incoming}
use Rattle.pg_ir.specs.declared.function.Block.{Block}
use Rattle.pg_ir.specs.declared.function.Function.{Function}
use Rattle.pg_ir.specs.declared.value.Scalar.{Scalar}
use Rattle.pg_ir.specs.declared.value.Value.{Value}
use Rattle.pg_ir.specs.declared.instr.Op.{Op}
use Rattle.pg_ir.specs.declared.instr.Op.TheVariants as op
use Rattle.pg_ir.specs.declared.instr.Instr.{Instr}
use Rattle.pg_ir.specs.Program.{NumberedProgram, types_of, function_of, result_of, entry_of, parameter_count}
use Rattle.pg_ir.specs.Edges.{is_terminator, is_phi, phis_of, body_of, incoming_of}
use Rattle.pg_ir.specs.WellFormed.{IsProgram, FitsOp, FitsIncoming, HaveTypes, IsInFunction, StandsIn, parameter_types, type_at, width_of}
use Rattle.pg_ir.proofs.BlockParts.{IsNoPhi, IsPhiOf, phis_are, body_stands, body_no_phi, entry_no_phi, goes_on_no_phi}
use Rattle.pg_ir.proofs.FunctionPlaces.{entry_stands, goes_on, first_in_function, within_blocks}
use Rattle.pg_run_thread.specs.LocalState.{Frame}
use Rattle.pg_run_thread.specs.Operands.{operand, optional_operand}
use Rattle.pg_run_thread.specs.EdgeStep.{incoming_from, phi_value, phi_values, set_register, set_each, over_edge}
use Rattle.pg_run_thread.specs.Step.{stepped, moved, entered}
use Rattle.pg_run_thread.specs.States.{IsValueOf, AreValuesOf, StandsAt, IsFrameOf}
use Rattle.pg_run_thread.proofs.Typed.{set_value, typed_operand}

-- ---- places

stands_at : (p : NumberedProgram) (f : ℕ) (o : Option Instr) → StandsIn p f o → IsNoPhi o → StandsAt p f o
stands_at p f None s n = s
stands_at p f (Some x) s n = (s, n)

pub after_stands : (p : NumberedProgram) (f i : ℕ) (x : Instr) → IsProgram p → slice_get p.instrs i ≡ Some x → function_of p x.block.0 ≡ f → is_phi x.op ≡ false
    → is_terminator x.op ≡ false → StandsAt p f (slice_get p.instrs (i + 1))
after_stands p f i x program e s n t = stands_at p f (slice_get p.instrs (i + 1)) (subst (λ (g : ℕ). StandsIn p g (slice_get p.instrs (i + 1))) s (goes_on p i x program e t))
    (goes_on_no_phi p i x program e t n)

in_function : (p : NumberedProgram) (f b : ℕ) (o : Option Block) → slice_get p.blocks b ≡ o → IsInFunction f o → (b < length p.blocks) × (function_of p b ≡ f)
in_function p f b o e h = (within_blocks p f b o e h, first_in_function p f b o e h)

pub body_at : (p : NumberedProgram) (f b : ℕ) → IsProgram p → IsInFunction f (slice_get p.blocks b) → StandsAt p f (slice_get p.instrs (body_of p b))
body_at p f b program h =
    let k = in_function p f b (slice_get p.blocks b) refl h in
    stands_at p f (slice_get p.instrs (body_of p b)) (subst (λ (g : ℕ). StandsIn p g (slice_get p.instrs (body_of p b))) k.1 (body_stands p b program k.0)) (body_no_phi p b program k.0)

there_is : (fs : List Function) (f : ℕ) → f < length fs → (x : Function) × (slice_get fs f ≡ Some x)
there_is [] f h = absurd (omega arith)
there_is (x ∷ fs) zero h = (x, refl)
there_is (x ∷ fs) (suc f) h = there_is fs f (omega arith)

pub entry_at : (p : NumberedProgram) (f : ℕ) → IsProgram p → f < length p.functions → StandsAt p f (slice_get p.instrs (entry_of p f))
entry_at p f program h =
    let x = there_is p.functions f h in
    stands_at p f (slice_get p.instrs (entry_of p f)) (entry_stands p f x.0 program x.1) (entry_no_phi p f x.0 program x.1)

-- ---- registers

type_there : (ss : List Scalar) (r : ℕ) → r < length ss → (s : Scalar) × (slice_get ss r ≡ Some s)
type_there [] r h = absurd (omega arith)
type_there (s ∷ ss) zero h = (s, refl)
type_there (s ∷ ss) (suc r) h = type_there ss r (omega arith)

pub set_typed : (types : List Scalar) (rs : List (Option ℕ)) (target : Option ℕ) (v : Option ℕ) → AreValuesOf types rs → IfSome target (λ r. r < length types)
    → ((s : Scalar) → type_at types target ≡ Some s → IsValueOf s v) → AreValuesOf types (set_register rs target v)
set_typed types rs None v h t k = h
set_typed types rs (Some r) v h t k = let s = type_there types r t in set_value types rs r s.0 v h s.1 (k s.0 s.1)

unset_typed : (types : List Scalar) → AreValuesOf types (replicate (length types) None)
unset_typed [] = tt
unset_typed (s ∷ types) = (tt, unset_typed types)

pub fresh_typed : (types : List Scalar) → AreValuesOf types (replicate (length types) None)
fresh_typed types = unset_typed types

-- ---- the phis of a block take values of their types

incoming_typed : (p : NumberedProgram) (types : List Scalar) (rs : List (Option ℕ)) (s : Scalar) (from : List Incoming) (b : ℕ) → IsProgram p → AreValuesOf types rs
    → AllByRecursion (FitsIncoming p types s) from → IsValueOf s (optional_operand p rs (incoming_from from b))
incoming_typed p types rs s [] b program h t = tt
incoming_typed p types rs s (i ∷ is) b program h t = go (i.block.0 == b) (incoming_typed p types rs s is b program h t.1)
  where
    go : (c : Bool) → IsValueOf s (optional_operand p rs (incoming_from is b)) → IsValueOf s (optional_operand p rs (if c then Some i.value else incoming_from is b))
    go true more = typed_operand p types rs s i.value program h t.0.1
    go false more = more

listed_types : (p : NumberedProgram) (types : List Scalar) (result : Option Scalar) (s : Scalar) (from : List Incoming) → IsSomeAnd result (λ q. AllByRecursion (FitsIncoming p types q) from)
    → result ≡ Some s → AllByRecursion (FitsIncoming p types s) from
listed_types p types None s from t e = absurd t
listed_types p types (Some q) s from t e = let same : q ≡ s = cc in subst (λ (u : Scalar). AllByRecursion (FitsIncoming p types u) from) same t

phi_types : (p : NumberedProgram) (types : List Scalar) (returns result : Option Scalar) (s : Scalar) (o : Op) → is_phi o ≡ true → FitsOp p types returns result o → result ≡ Some s
    → AllByRecursion (FitsIncoming p types s) (incoming_of o)
phi_types p types returns result s (op.Phi from) i t e = listed_types p types result s from t e
phi_types p types returns result s o i t e = absurd cc

phi_typed : (p : NumberedProgram) (b from : ℕ) (rs : List (Option ℕ)) (x : Instr) (s : Scalar) → IsProgram p → IsPhiOf p b x → AreValuesOf (types_of p (function_of p b)) rs
    → type_at (types_of p (function_of p b)) x.result ≡ Some s → IsValueOf s (phi_value p rs from x)
phi_typed p b from rs x s program i h e =
    let types = types_of p (function_of p b) in
    let fits : FitsOp p types (result_of p (function_of p b)) (type_at types x.result) x.op =
    subst (λ (c : ℕ). FitsOp p (types_of p (function_of p c)) (result_of p (function_of p c)) (type_at (types_of p (function_of p c)) x.result) x.op) i.block i.fits.op in
    incoming_typed p types rs s (incoming_of x.op) from program h (phi_types p types (result_of p (function_of p b)) (type_at types x.result) s x.op i.phi fits e)

each_typed : (p : NumberedProgram) (b from : ℕ) (rs ns : List (Option ℕ)) (xs : List Instr) → IsProgram p → AreValuesOf (types_of p (function_of p b)) rs
    → AreValuesOf (types_of p (function_of p b)) ns → AllByRecursion (IsPhiOf p b) xs → AreValuesOf (types_of p (function_of p b)) (set_each ns xs (phi_values p rs from xs))
each_typed p b from rs ns [] program h k i = k
each_typed p b from rs ns (x ∷ xs) program h k i =
    let types = types_of p (function_of p b) in
    let target : IfSome x.result (λ r. r < length types) = subst (λ (c : ℕ). IfSome x.result (λ r. r < length (types_of p (function_of p c)))) i.0.block i.0.fits.target in
    each_typed p b from rs (set_register ns x.result (phi_value p rs from x)) xs program h
    (set_typed types ns x.result (phi_value p rs from x) k target (λ s e. phi_typed p b from rs x s program i.0 h e)) i.1

pub edge_typed : (p : NumberedProgram) (f from to : ℕ) (rs : List (Option ℕ)) → IsProgram p → IsInFunction f (slice_get p.blocks to) → AreValuesOf (types_of p f) rs
    → AreValuesOf (types_of p f) (over_edge p rs from to)
unfolding over_edge
edge_typed p f from to rs program i h =
    let same = (in_function p f to (slice_get p.blocks to) refl i).1 in
    subst (λ (g : ℕ). AreValuesOf (types_of p g) (set_each rs (phis_of p to) (phi_values p rs from (phis_of p to)))) same
    (each_typed p to from rs rs (phis_of p to) program (subst (λ (g : ℕ). AreValuesOf (types_of p g) rs) (sym same) h) (subst (λ (g : ℕ). AreValuesOf (types_of p g) rs) (sym same) h)
    (phis_are p to program))

-- ---- the arguments of a call have the types of the parameters

arguments_typed : (p : NumberedProgram) (types : List Scalar) (rs : List (Option ℕ)) (ts : List Scalar) (n : ℕ) (args : List Value) → IsProgram p → AreValuesOf types rs
    → HaveTypes p types (take n ts) args → AreValuesOf ts (map (operand p rs) args ++ replicate (length ts - length (map (operand p rs) args)) None)
arguments_typed p types rs ts zero [] program h t = let z : length ts - 0 ≡ length ts = omega arith in rw z (unset_typed ts)
arguments_typed p types rs ts zero (v ∷ vs) program h t = absurd t
arguments_typed p types rs [] (suc n) [] program h t = tt
arguments_typed p types rs [] (suc n) (v ∷ vs) program h t = absurd t
arguments_typed p types rs (s ∷ ss) (suc n) [] program h t = absurd t
arguments_typed p types rs (s ∷ ss) (suc n) (v ∷ vs) program h t =
    let z : suc (length ss) - suc (length (map (operand p rs) vs)) ≡ length ss - length (map (operand p rs) vs) = omega arith in
    rw z (typed_operand p types rs s v program h t.0, arguments_typed p types rs ss n vs program h t.1)

pub entered_frame : (p : NumberedProgram) (types : List Scalar) (rs : List (Option ℕ)) (g height : ℕ) (args : List Value) → IsProgram p → g < length p.functions → AreValuesOf types rs
    → HaveTypes p types (parameter_types p g) args → IsFrameOf p (entered p g height (map (operand p rs) args))
unfolding entered
entered_frame p types rs g height args program within h t = record {
  place = entry_at p g program within;
  registers = arguments_typed p types rs (types_of p g) (parameter_count p g) args program h t;
}

-- ---- a frame that goes on

pub stepped_frame : (p : NumberedProgram) (f : Frame) (x : Instr) (n : ℕ) → IsProgram p → IsFrameOf p f → slice_get p.instrs f.place ≡ Some x → function_of p x.block.0 ≡ f.function
    → is_phi x.op ≡ false → is_terminator x.op ≡ false → ((s : Scalar) → type_at (types_of p f.function) x.result ≡ Some s → n < modulus (width_of s))
    → IsFrameOf p (stepped f x.result n)
stepped_frame p f x n program h e s i t k = record {
  place = after_stands p f.function f.place x program e s i t;
  registers = set_typed (types_of p f.function) f.registers x.result (Some n) h.registers
      (subst (λ (g : ℕ). IfSome x.result (λ r. r < length (types_of p g))) s (program.instrs f.place x e).target) k;
}

pub moved_frame : (p : NumberedProgram) (f : Frame) (from to : ℕ) → IsProgram p → IsFrameOf p f → IsInFunction f.function (slice_get p.blocks to) → IsFrameOf p (moved p f from to)
moved_frame p f from to program h i = record {
  place = body_at p f.function to program i;
  registers = edge_typed p f.function from to f.registers program i h.registers;
}
