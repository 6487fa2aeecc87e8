-- What holds of a thread at its present instruction.
use Rattle.std.proofs.Common.{◌≡◌, ℕ, ◌<◌, ◌≤◌, List, [], ◌∷◌, length, Option, Some, None, IfSome, arith, refl, sym, subst}
use Rattle.std.specs.Prelude.{slice_get}
use Rattle.std.proofs.lemmas.Option.{slice_get_within}
use Rattle.pg_ir.specs.declared.instr.Instr.{Instr}
use Rattle.pg_ir.specs.Program.{NumberedProgram, types_of, function_of, result_of, parameter_count}
use Rattle.pg_ir.specs.WellFormed.{IsProgram, StandsIn, type_at}
use Rattle.pg_ir.specs.Operands.{CanReadAll, CanGoOn}
use Rattle.pg_ir.proofs.BlockParts.{can_go_on}
use Rattle.pg_ir.proofs.ReadableOperands.{instr_reads}
use Rattle.pg_ir.proofs.FunctionPlaces.{stands_within, few_parameters}
use Rattle.pg_run_thread.specs.LocalState.{Frame, LocalState}
use Rattle.pg_run_thread.specs.Step.{top_registers, top_function}
use Rattle.pg_run_thread.specs.Told.{id_of, place_in}
use Rattle.pg_run_thread.specs.States.{IsOf, AreFramesOf, AreValuesOf, StandsAt}
use Rattle.pg_run_thread.specs.Needs.{IsPresent}
use Rattle.pg_run_thread.proofs.EdgeValues.{ends_block}
use Rattle.pg_run_thread.proofs.Typed.{length_values, operands_fit}

stands_below : (p : NumberedProgram) (f i : ℕ) (o : Option Instr) → slice_get p.instrs i ≡ o → StandsAt p f o → i < length p.instrs
stands_below p f i None e h = absurd h
stands_below p f i (Some x) e h = slice_get_within p.instrs i x e

frames_below : (p : NumberedProgram) (fs : List Frame) → AreFramesOf p fs → 0 < length fs → place_in fs < length p.instrs
frames_below p [] h g = absurd (omega arith)
frames_below p (f ∷ fs) h g = stands_below p f.function f.place (slice_get p.instrs f.place) refl h.0.place

pub place_below : (p : NumberedProgram) (l : LocalState) → IsOf p l → 0 < length l.frames → id_of l < length p.instrs
unfolding IsOf id_of
place_below p l h g = frames_below p l.frames h.frames g

pub same_function : (p : NumberedProgram) (f : ℕ) (x : Instr) (o : Option Instr) → o ≡ Some x → StandsAt p f o → function_of p x.block.0 ≡ f
same_function p f x None e h = absurd h
same_function p f x (Some y) e h = let same : y ≡ x = cc in subst (λ (z : Instr). function_of p z.block.0 ≡ f) same h.0

pub typed_registers : (p : NumberedProgram) (fs : List Frame) (x : Instr) → AreFramesOf p fs → 0 < length fs → slice_get p.instrs (place_in fs) ≡ Some x
    → AreValuesOf (types_of p (function_of p x.block.0)) (top_registers fs)
typed_registers p [] x h g e = absurd (omega arith)
typed_registers p (f ∷ fs) x h g e = subst (λ (n : ℕ). AreValuesOf (types_of p n) f.registers) (sym (same_function p f.function x (slice_get p.instrs f.place) e h.0.place)) h.0.registers

pub is_present : (p : NumberedProgram) (l : LocalState) (x : Instr) → IsProgram p → IsOf p l → 0 < length l.frames → slice_get p.instrs (id_of l) ≡ Some x → IsPresent p l x
unfolding IsOf id_of
is_present p l x program h g e =
    let types = types_of p (function_of p x.block.0) in
    let fits = program.instrs (place_in l.frames) x e in
    let values : AreValuesOf types (top_registers l.frames) = typed_registers p l.frames x h.frames g e in
    let count : length types ≡ length (top_registers l.frames) = sym (length_values types (top_registers l.frames) values) in
    let below : place_in l.frames < length p.instrs = frames_below p l.frames h.frames g in
    record {
      going = g;
      place = omega (arith, below, program.few_instrs);
      target = subst (λ (n : ℕ). IfSome x.result (λ r. r < n)) count fits.target;
      operands = subst (λ (n : ℕ). CanReadAll p n x.op) count (instr_reads p (place_in l.frames) x fits);
      edges = subst (λ (n : ℕ). CanGoOn p n x.op) count (can_go_on p (place_in l.frames) x program fits);
      widths = operands_fit p types (top_registers l.frames) (result_of p (function_of p x.block.0)) (type_at types x.result) x.op program values fits.op;
      thread = h.thread;
      memory = h.memory;
      ends = ends_block p (place_in l.frames) x fits e;
    }

frames_function : (p : NumberedProgram) (fs : List Frame) → IsProgram p → AreFramesOf p fs → 0 < length fs → top_function fs < length p.functions
frames_function p [] program h g = absurd (omega arith)
frames_function p (f ∷ fs) program h g = stands_within p f.function f.place (slice_get p.instrs f.place) program refl (stands_in p f.function (slice_get p.instrs f.place) h.0.place)
  where
    stands_in : (q : NumberedProgram) (n : ℕ) (o : Option Instr) → StandsAt q n o → StandsIn q n o
    stands_in q n None s = s
    stands_in q n (Some x) s = s.0

pub function_below : (p : NumberedProgram) (l : LocalState) → IsProgram p → IsOf p l → 0 < length l.frames → top_function l.frames < length p.functions
unfolding IsOf
function_below p l program h g = frames_function p l.frames program h.frames g

frames_parameters : (p : NumberedProgram) (fs : List Frame) → IsProgram p → AreFramesOf p fs → 0 < length fs → parameter_count p (top_function fs) ≤ length (top_registers fs)
frames_parameters p [] program h g = absurd (omega arith)
frames_parameters p (f ∷ fs) program h g = let k = few_parameters p f.function program in omega (arith, k, length_values (types_of p f.function) f.registers h.0.registers)

pub parameters_fit : (p : NumberedProgram) (l : LocalState) → IsProgram p → IsOf p l → 0 < length l.frames → parameter_count p (top_function l.frames) ≤ length (top_registers l.frames)
unfolding IsOf
parameters_fit p l program h g = frames_parameters p l.frames program h.frames g
