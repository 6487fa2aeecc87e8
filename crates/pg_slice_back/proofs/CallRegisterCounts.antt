-- How many registers the calls of a thread have after a step.
use Rattle.std.proofs.Common.{◌≡◌, ℕ, suc, ◌+◌, ◌-◌, Bool, true, false, List, [], ◌∷◌, length, map, replicate, Option, Some, None, refl, ap, ◌∙◌, length-append}
use Rattle.std.proofs.lemmas.List.{length-map, length-replicate}
use Rattle.std.specs.Prelude.{if◌then◌else◌, ◌==◌}
use Rattle.pg_ir.specs.declared.library_call.LibraryCall.{LibraryCall}
use Rattle.pg_ir.specs.declared.library_call.LibraryCall.TheVariants as known
use Rattle.pg_ir.specs.declared.instr.Instr.{Instr}
use Rattle.pg_ir.specs.declared.instr.Op.{Op}
use Rattle.pg_ir.specs.declared.instr.Op.TheVariants as op
use Rattle.pg_ir.specs.Program.{NumberedProgram, types_of}
use Rattle.pg_ir.specs.Edges.{phis_of}
use Rattle.pg_run_trace.specs.declared.turn.TurnKind.{TurnKind}
use Rattle.pg_run_trace.specs.declared.turn.TurnKind.TheVariants as turns
use Rattle.pg_run_trace.specs.declared.step.Access.{Access}
use Rattle.pg_run_trace.specs.declared.step.Event.{Event}
use Rattle.pg_run_trace.specs.declared.step.StepKind.{StepKind}
use Rattle.pg_run_trace.specs.declared.step.StepKind.TheVariants as kinds
use Rattle.pg_slice_rules.specs.declared.decision.Decision.{Decision}
use Rattle.pg_slice_rules.specs.Moments.{Moment}
use Rattle.pg_slice_rules.specs.Freeable.{FreeRegion}
use Rattle.pg_slice_rules.specs.SymbolicValues.{Symbolic, symbolic_of, unset}
use Rattle.pg_slice_rules.specs.Extents.{edge_in}
use Rattle.pg_slice_rules.specs.Known.{SymbolicState, Taken, after_access, after_branch, after_event, after_known, after_op, along_edge, caller_target, entered, forgotten_from, result_in, set_phis}
use Rattle.pg_slice_rules.specs.Known.{set_symbolic, started, top_of, under_top, with_top}
use Rattle.pg_law_least.proofs.LiveSteps.{calls_by}
use Rattle.pg_law_demands.proofs.ValuesBefore.{length_set}
use Rattle.pg_slice_back.specs.Lens.{lens_by_event, lens_by_kind, lens_by_op, lens_of, rest_of}

top_lens : (f : List Symbolic → List Symbolic) → ((rs : List Symbolic) → length (f rs) ≡ length rs) → (cs : List (List Symbolic)) → lens_of (with_top f cs) ≡ lens_of cs
top_lens f h [] = refl
top_lens f h (rs ∷ cs) = ap (λ (l : ℕ). l ∷ lens_of cs) (h rs)

phis_long : (xs : List Instr) (ss rs : List Symbolic) → length (set_phis rs xs ss) ≡ length rs
phis_long [] ss rs = refl
phis_long (x ∷ xs) [] rs = refl
phis_long (x ∷ xs) (s ∷ ss) rs = phis_long xs ss (set_symbolic x.result s rs) ∙ length_set rs x.result s

edge_long : (p : NumberedProgram) (from : ℕ) (edge : Option ℕ) (rs : List Symbolic) → length (along_edge p from edge rs) ≡ length rs
edge_long p from None rs = refl
edge_long p from (Some to) rs = phis_long (phis_of p to) _ rs

forgotten_long : (r : ℕ) (sets : ℕ → Bool) (x : Decision) (ss : List Symbolic) → length (forgotten_from r sets x ss) ≡ length ss
forgotten_long r sets x [] = refl
forgotten_long r sets x (s ∷ ss) = ap suc (forgotten_long (suc r) sets x ss)

branch_long : (p : NumberedProgram) (pinned : Bool) (n : ℕ) (x : Instr) (edge : Option ℕ) (region : Option FreeRegion) (rs : List Symbolic)
    → length (after_branch p pinned n x edge region rs) ≡ length rs
branch_long p false n x edge (Some r) rs = forgotten_long 0 r.sets _ rs
branch_long p false n x edge None rs = edge_long p x.block.0 edge rs
branch_long p true n x edge region rs = edge_long p x.block.0 edge rs

known_long : (k : LibraryCall) (target : Option ℕ) (result : ℕ) (s : Symbolic) (rs : List Symbolic) → length (after_known k target result s rs) ≡ length rs
known_long known.PgIn target result s rs = length_set rs target _
known_long known.PgInLen target result s rs = length_set rs target _
known_long known.Malloc target result s rs = length_set rs target _
known_long k target result s rs = refl

entered_long : (p : NumberedProgram) (g : ℕ) (ss : List Symbolic) → length (entered p g ss) ≡ length ss + (length (types_of p g) - length ss)
entered_long p g ss = length-append ss (replicate (length (types_of p g) - length ss) unset) ∙ ap (λ (l : ℕ). length ss + l) (length-replicate (length (types_of p g) - length ss) unset)

under_lens : (cs : List (List Symbolic)) → lens_of (under_top cs) ≡ rest_of (lens_of cs)
under_lens [] = refl
under_lens (rs ∷ cs) = refl

module _ (p : NumberedProgram) (d : Taken) (n : ℕ) (m : Moment) (region : Option FreeRegion) (s : SymbolicState) where
  op_lens : (pinned : Bool) (result : ℕ) (x : Instr) (o : Op) (cs : List (List Symbolic)) → lens_of (after_op p pinned n m region result x o cs) ≡ lens_by_op p o (lens_of cs)
  op_lens pinned result x (op.Br to) cs = top_lens _ (λ rs. edge_long p x.block.0 (Some to.0) rs) cs
  op_lens pinned result x (op.CondBr c a b) cs = top_lens _ (λ rs. branch_long p pinned n x (edge_in p m (Some x)) region rs) cs
  op_lens pinned result x (op.Switch w on other cases) cs = top_lens _ (λ rs. branch_long p pinned n x (edge_in p m (Some x)) region rs) cs
  op_lens pinned result x (op.Call g args) cs = ap (λ (l : ℕ). l ∷ lens_of cs) (entered_long p g (map (symbolic_of p (top_of cs)) args)
      ∙ ap (λ (l : ℕ). l + (length (types_of p g) - l)) (length-map args (symbolic_of p (top_of cs))))
  op_lens pinned result x (op.Ret v) cs = top_lens _ (λ rs. length_set rs (caller_target p m.calls) _) (under_top cs) ∙ under_lens cs
  op_lens pinned result x (op.Alloca bytes) cs = top_lens _ (λ rs. length_set rs x.result _) cs
  op_lens pinned result x (op.CallLibrary k args) cs = top_lens _ (λ rs. known_long k x.result result _ rs) cs
  op_lens pinned result x (op.Gep base indices) cs = top_lens _ (λ rs. length_set rs x.result _) cs
  op_lens pinned result x o cs = top_lens _ (λ rs. length_set rs x.result _) cs

  started_long : (parameters : ℕ) (a : Symbolic) (rs : List Symbolic) → length (started parameters a rs) ≡ length rs
  started_long parameters a rs = go (parameters == 0)
    where
      go : (b : Bool) → length (if b then rs else set_symbolic (Some 0) a rs) ≡ length rs
      go true = refl
      go false = length_set rs (Some 0) a

  event_lens : (v : Event) (kind : TurnKind) (a : Symbolic) (x : Instr) (cs : List (List Symbolic)) → lens_of (after_event p m v kind a x cs) ≡ lens_by_event kind (lens_of cs)
  event_lens v turns.Start a x cs = top_lens _ (λ rs. started_long _ a rs) cs
  event_lens v turns.Exit a x cs = refl
  event_lens v turns.Wait a x cs = refl
  event_lens v turns.Arrive a x cs = refl
  event_lens v turns.Putchar a x cs = top_lens _ (λ rs. length_set rs x.result _) cs
  event_lens v _ a x cs = top_lens _ (λ rs. length_set rs x.result _) cs

  access_long : (exact : Bool) (a : Access) (bytes : ℕ → Symbolic) (x : Instr) (o : Op) (rs : List Symbolic) → length (after_access p exact n a bytes x o rs) ≡ length rs
  access_long exact a bytes x (op.Load w from) rs = length_set rs x.result _
  access_long exact a bytes x o rs = refl

  pub kind_lens : (x : Instr) (kind : StepKind) (cs : List (List Symbolic)) → lens_of (calls_by p d n m region x kind s cs) ≡ lens_by_kind p x.op kind (lens_of cs)
  kind_lens x (kinds.Access a) cs = top_lens _ (λ rs. access_long (d.exact n) a s.bytes x x.op rs) cs
  kind_lens x (kinds.Event v) cs = event_lens v v.kind _ x cs
  kind_lens x kind cs = op_lens (d.pinned n) (result_in kind) x x.op cs
