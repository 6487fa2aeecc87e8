-- A frame of an instance behind an instruction that sets its register.
use Rattle.std.proofs.Common.{◌≡◌, ℕ, suc, ◌+◌, ◌<◌, Bool, true, false, cond, List, [], ◌∷◌, Option, Some, refl, sym, ◌∙◌, subst, arith}
use Rattle.std.specs.Prelude.{slice_get}
use Rattle.std.proofs.lemmas.Bool.{true≢false}
use Rattle.pg_ir.specs.declared.value.Scalar.{Scalar}
use Rattle.pg_ir.specs.declared.instr.Instr.{Instr}
use Rattle.pg_ir.specs.Program.{types_of, function_of, end_of}
use Rattle.pg_ir.specs.Edges.{instrs_of, is_terminator}
use Rattle.pg_ir.specs.WellFormed.{IsProgram}
use Rattle.pg_ir.proofs.FunctionPlaces.{not_last}
use Rattle.pg_region_paths.specs.declared.path.Path.{Path}
use Rattle.pg_region_paths.specs.Registers.{is_register, register_path, path_by, has_pointer}
use Rattle.pg_region_accesses.specs.Accesses.{sets}
use Rattle.pg_run_thread.specs.LocalState.{Frame}
use Rattle.pg_run_thread.specs.EdgeStep.{set_register}
use Rattle.pg_run_thread.specs.Step.{stepped}
use Rattle.pg_law_instances.specs.Leads.{HasPath}
use Rattle.pg_law_instances.specs.Inside.{Instance, QuietSet, StandsIn, passed, registers_by}
use Rattle.pg_law_instances.proofs.FramePlaces.{at_block, passed_more, sets_here, other_register, own_register}

-- the paths of registers at a frame
abbrev pub table : (I : Instance) (a : QuietSet) (f : Frame) → StandsIn I a f → ℕ → Option Path
table I a f s = register_path (sets I.program a.blocks) (types_of I.program (function_of I.program s.block)) (passed [] (instrs_of I.program s.block) s.behind)

abbrev pub types_at : (I : Instance) (a : QuietSet) (f : Frame) → StandsIn I a f → List Scalar
types_at I a f s = types_of I.program (function_of I.program s.block)

pub stepped_stands : (I : Instance) (a : QuietSet) (f : Frame) (x : Instr) (n : ℕ) → IsProgram I.program → (s : StandsIn I a f) → slice_get I.program.instrs f.place ≡ Some x
    → is_terminator x.op ≡ false →
    ((q : Path) → path_by (table I a f s) (has_pointer (types_at I a f s) x.result) x.op ≡ Some q → HasPath I.program a.registers I.memory I.recorded q n) → StandsIn I a (stepped f x.result n)
stepped_stands I a f x n program s e t h = record {
  block = s.block;
  behind = suc s.behind;
  among = s.among;
  function = s.function;
  place = omega (arith, s.place);
  within = below;
  kept = λ r u. other_register f.registers x.result (Some n) r (unset r u (is_register x.result r) refl) ∙ s.kept r u;
  paths = λ r q w u v. pick r q w (is_register x.result r) refl (subst (λ (l : List Instr). register_path (sets I.program a.blocks) (types_at I a f s) l r ≡ Some q) more u) v;
}
  where
    at : (x.block.0 ≡ s.block) × (slice_get (instrs_of I.program s.block) s.behind ≡ Some x)
    at = at_block I a f x program s e

    more : passed [] (instrs_of I.program s.block) (suc s.behind) ≡ x ∷ passed [] (instrs_of I.program s.block) s.behind
    more = passed_more [] (instrs_of I.program s.block) s.behind x at.1

    below : f.place + 1 < end_of I.program s.block
    below =
        let fits = program.instrs f.place x e in
        let l = not_last (is_terminator x.op) f.place (end_of I.program x.block.0) t fits.ends fits.before in
        subst (λ (b : ℕ). f.place + 1 < end_of I.program b) at.0 l

    unset : (r : ℕ) → sets I.program a.blocks r ≡ false → (b : Bool) → is_register x.result r ≡ b → is_register x.result r ≡ false
    unset r u true q = absurd (true≢false (sym (sets_here I.program a.blocks s.block s.behind r x s.among at.1 q) ∙ u))
    unset r u false q = q

    pick : (r : ℕ) (q : Path) (w : ℕ) (b : Bool) → is_register x.result r ≡ b
        → cond (is_register x.result r) (path_by (table I a f s) (has_pointer (types_at I a f s) x.result) x.op) (table I a f s r) ≡ Some q →
        registers_by (set_register f.registers x.result (Some n)) r ≡ Some w → HasPath I.program a.registers I.memory I.recorded q w
    pick r q w true b u v =
        let k : Some n ≡ Some w = own_register f.registers x.result (Some n) r w b v in
        let m : n ≡ w = cc in
        subst (λ (z : ℕ). HasPath I.program a.registers I.memory I.recorded q z) m (h q (rw b at u))
    pick r q w false b u v = s.paths r q w (rw b at u) (sym (other_register f.registers x.result (Some n) r b) ∙ v)
