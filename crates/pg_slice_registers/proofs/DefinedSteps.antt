-- The definition's steps by what they give.
use Rattle.std.proofs.Common.{◌≡◌, ℕ, zero, suc, List, [], ◌∷◌, map, Bool, true, false, Option, Some, None, slice_get, slice_index_or, refl, ap, sym, ◌∙◌}
use mathlib.Core.Path.{fun_ext}
use Rattle.std.specs.Prelude.{◌&&◌, not, if◌then◌else◌, IfSome, is_some}
use Rattle.pg_num.specs.declared.width.Width.{Width}
use Rattle.pg_ir.specs.declared.edge.Case.{Case}
use Rattle.pg_ir.specs.declared.ids.BlockNo.{BlockNo}
use Rattle.pg_ir.specs.declared.library_call.LibraryCall.{LibraryCall}
use Rattle.pg_ir.specs.declared.library_call.LibraryCall.TheVariants as known
use Rattle.pg_ir.specs.declared.value.Value.{Value}
use Rattle.pg_ir.specs.declared.instr.Instr.{Instr}
use Rattle.pg_ir.specs.declared.instr.Op.{Op}
use Rattle.pg_ir.specs.declared.instr.Op.TheVariants as op
use Rattle.pg_ir.specs.Program.{NumberedProgram}
use Rattle.pg_slice_rules.specs.Moments.{Moment}
use Rattle.pg_slice_rules.specs.Freeable.{FreeRegion}
use Rattle.pg_slice_rules.specs.SymbolicValues.{Symbolic, symbolic_of, unset}
use Rattle.pg_slice_rules.specs.declared.decision.Decision.{Decision}
use Rattle.pg_slice_rules.specs.declared.decision.Decision.TheVariants.{Pinned}
use Rattle.pg_slice_rules.specs.Extents.{edge_by, edge_in}
use Rattle.pg_slice_rules.specs.Known.{after_branch, after_known, after_op, along_edge, entered, forgotten_from, optional_symbolic, set_symbolic, top_of, under_top, with_top}
use Rattle.pg_slice_registers.specs.declared.step.OpStep.{OpStep}
use Rattle.pg_slice_registers.specs.Events.{IsAsked, IsLibraryCall}
use Rattle.pg_slice_registers.specs.SymbolicRegisterNodes.{marked}
use Rattle.pg_slice_registers.specs.Steps.{IsStepAt, branched, known_symbolic, set_given}

-- each operand of a call of a function that the program doesn't define may be asked for
pub call_asked : (o : Op) (k : ℕ) → IsLibraryCall o → IsAsked o k
call_asked (op.CallLibrary f args) k h = tt
call_asked o k h = absurd h

known_same : (k : LibraryCall) (target : Option ℕ) (word : ℕ) (f : List Symbolic → Symbolic) (calls : List (List Symbolic)) →
    with_top (λ rs. after_known k target word (f rs) rs) calls ≡ with_top (λ rs. set_given target (known_symbolic k word (f rs)) rs) calls
known_same known.PgIn target word f calls = refl
known_same known.PgInLen target word f calls = refl
known_same known.Malloc target word f calls = refl
known_same k target word f calls = refl

pub at_top : (target : Option ℕ) (g : List Symbolic → Option Symbolic) (calls : List (List Symbolic)) →
    with_top (set_given target (g (top_of calls))) calls ≡ with_top (λ rs. set_given target (g rs) rs) calls
at_top target g [] = refl
at_top target g (rs ∷ calls) = refl

pub argument_is : (p : NumberedProgram) (rs : List Symbolic) (args : List Value) (k : ℕ) → optional_symbolic p rs (slice_get args k) ≡ slice_index_or (map (symbolic_of p rs) args) k unset
argument_is p rs [] k = refl
argument_is p rs (v ∷ args) zero = refl
argument_is p rs (v ∷ args) (suc k) = argument_is p rs args k

pub nothing_given : (target : Option ℕ) (calls : List (List Symbolic)) → with_top (set_given target None) calls ≡ calls
nothing_given target [] = refl
nothing_given target (rs ∷ calls) = refl

-- ---- branches

same_forgotten : (i : ℕ) (f g : ℕ → Bool) (x : Decision) (rs : List Symbolic) → ((k : ℕ) → f k ≡ g k) → forgotten_from i f x rs ≡ forgotten_from i g x rs
same_forgotten i f g x rs h = ap (λ (s : ℕ → Bool). forgotten_from i s x rs) (fun_ext h)

-- the registers that a region may set are those that the table marks
pub branch_is : (p : NumberedProgram) (x : Instr) (s : OpStep) (sets : List Bool) (m : Moment) (region : Option FreeRegion) (rs : List Symbolic) → IsStepAt p x s sets m region →
    branched p s sets x.block.0 rs ≡ after_branch p s.pinned s.number x (edge_in p m (Some x)) region rs
branch_is p x s sets m region rs h = go s.freed s.pinned region h.freed h.marks
  where
    e : along_edge p x.block.0 s.edge rs ≡ along_edge p x.block.0 (edge_in p m (Some x)) rs
    e = ap (λ (o : Option ℕ). along_edge p x.block.0 o rs) (sym h.edge)

    go : (f b : Bool) (r : Option FreeRegion) → is_some r ≡ f → IfSome r (λ q. (k : ℕ) → q.sets k ≡ marked sets k) →
        (if f && not b then forgotten_from 0 (marked sets) (Pinned s.number) rs else along_edge p x.block.0 s.edge rs) ≡ after_branch p b s.number x (edge_in p m (Some x)) r rs
    go false b None k l = (elim b as
        (λ z. (if false && not z then forgotten_from 0 (marked sets) (Pinned s.number) rs else along_edge p x.block.0 s.edge rs) ≡ after_branch p z s.number x (edge_in p m (Some x)) None rs)
        [ true ↦ e | false ↦ e ])
    go true b None k l = absurd cc
    go false b (Some q) k l = absurd cc
    go true true (Some q) k l = e
    go true false (Some q) k l = sym (same_forgotten 0 q.sets (marked sets) (Pinned s.number) rs l)

pub with_top_same : (f g : List Symbolic → List Symbolic) (calls : List (List Symbolic)) → ((rs : List Symbolic) → f rs ≡ g rs) → with_top f calls ≡ with_top g calls
with_top_same f g [] h = refl
with_top_same f g (rs ∷ calls) h = ap (λ (x : List Symbolic). x ∷ calls) (h rs)

pub edge_is : (p : NumberedProgram) (s : OpStep) (sets : List Bool) (from : ℕ) (calls : List (List Symbolic)) → (s.freed && not s.pinned) ≡ false →
    with_top (along_edge p from s.edge) calls ≡ with_top (branched p s sets from) calls
edge_is p s sets from calls e = with_top_same _ _ calls (λ rs. ap (λ (b : Bool). if b then forgotten_from 0 (marked sets) (Pinned s.number) rs else along_edge p from s.edge rs) (sym e))

-- ---- each kind of step

module _ (p : NumberedProgram) (x : Instr) (s : OpStep) (sets : List Bool) (m : Moment) (region : Option FreeRegion) (h : IsStepAt p x s sets m region) (calls : List (List Symbolic)) where
  pub br_is : (to : BlockNo) → x.op ≡ op.Br to → with_top (along_edge p x.block.0 s.edge) calls ≡ after_op p s.pinned s.number m region s.word x x.op calls
  br_is to e =
      ap (λ (o : Option ℕ). with_top (along_edge p x.block.0 o) calls) (sym h.edge ∙ ap (edge_by p m) e)
      ∙ ap (λ (o : Op). after_op p s.pinned s.number m region s.word x o calls) (sym e)

  pub cond_is : (c : Value) (a b : BlockNo) → x.op ≡ op.CondBr c a b → with_top (branched p s sets x.block.0) calls ≡ after_op p s.pinned s.number m region s.word x x.op calls
  cond_is c a b e =
      with_top_same _ (after_branch p s.pinned s.number x (edge_in p m (Some x)) region) calls (λ rs. branch_is p x s sets m region rs h)
      ∙ ap (λ (o : Op). after_op p s.pinned s.number m region s.word x o calls) (sym e)

  pub switch_is : (w : Width) (on : Value) (other : BlockNo) (cases : List Case) → x.op ≡ op.Switch w on other cases →
      with_top (branched p s sets x.block.0) calls ≡ after_op p s.pinned s.number m region s.word x x.op calls
  switch_is w on other cases e =
      with_top_same _ (after_branch p s.pinned s.number x (edge_in p m (Some x)) region) calls (λ rs. branch_is p x s sets m region rs h)
      ∙ ap (λ (o : Op). after_op p s.pinned s.number m region s.word x o calls) (sym e)

  pub call_is : (g : ℕ) (args : List Value) → x.op ≡ op.Call g args →
      entered p g (map (symbolic_of p (top_of calls)) args) ∷ calls ≡ after_op p s.pinned s.number m region s.word x x.op calls
  call_is g args e = ap (λ (o : Op). after_op p s.pinned s.number m region s.word x o calls) (sym e)

  pub ret_is : (v : Option Value) → x.op ≡ op.Ret v →
      with_top (set_symbolic s.target (optional_symbolic p (top_of calls) v)) (under_top calls) ≡ after_op p s.pinned s.number m region s.word x x.op calls
  ret_is v e =
      ap (λ (t : Option ℕ). with_top (set_symbolic t (optional_symbolic p (top_of calls) v)) (under_top calls)) (sym h.target)
      ∙ ap (λ (o : Op). after_op p s.pinned s.number m region s.word x o calls) (sym e)
