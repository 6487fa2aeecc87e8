-- How many calls are known of a thread: where it stands still those up to the branch's frame, else all.
use Rattle.std.proofs.Common.{◌≡◌, ℕ, ◌-◌, Bool, true, false, List, [], ◌∷◌, length, Option, Some, None, refl, sym, ◌∙◌, subst, arith}
use Rattle.std.specs.Prelude.{if◌then◌else◌}
use Rattle.std.proofs.lemmas.Bool.{true≢false}
use Rattle.pg_ir.specs.declared.instr.Instr.{Instr}
use Rattle.pg_ir.specs.declared.instr.Op.{Op}
use Rattle.pg_ir.specs.declared.instr.Op.TheVariants as op
use Rattle.pg_ir.specs.Program.{NumberedProgram}
use Rattle.pg_run_trace.specs.declared.turn.TurnKind.{TurnKind}
use Rattle.pg_run_trace.specs.declared.turn.TurnKind.TheVariants as turns
use Rattle.pg_run_trace.specs.declared.step.StepKind.{StepKind}
use Rattle.pg_run_trace.specs.declared.step.StepKind.TheVariants as kinds
use Rattle.pg_run_trace.specs.declared.step.Event.{Event}
use Rattle.pg_slice_rules.specs.Moments.{Moment, instr_in}
use Rattle.pg_slice_rules.specs.Freeable.{FreeRegion, Regions, region_at}
use Rattle.pg_slice_rules.specs.SymbolicValues.{Symbolic}
use Rattle.pg_slice_rules.specs.Extents.{Extent, begun, edge_by, edge_in, ends, open_after}
use Rattle.pg_slice_rules.specs.Known.{SymbolicState, Taken, after_event, after_op, edge_of, is_branch, region_of, result_in, under_top, with_top}
use Rattle.pg_law_least.specs.Keeps.{AreStacked, is_branching}
use Rattle.pg_law_least.specs.Along.{calls_behind, calls_by_event, calls_by_kind, calls_by_op}
use Rattle.pg_law_least.proofs.LiveSteps.{calls_by}
use Rattle.pg_law_least.proofs.ThreadsAfterSteps.{calls_after}
use Rattle.pg_law_least.proofs.OldestFreeExtent.{begun_free, begun_pinned, begun_some, ends_at, height_by, own_extent, stand, stays, stays_ended, stays_none, stays_on}

-- ---- how many calls there are after a live step

top_length : (f : List Symbolic → List Symbolic) (cs : List (List Symbolic)) → length (with_top f cs) ≡ length cs
top_length f [] = refl
top_length f (rs ∷ cs) = refl

under_length : (cs : List (List Symbolic)) → length (under_top cs) ≡ length cs - 1
under_length [] = omega arith
under_length (rs ∷ cs) = omega arith

module _ (p : NumberedProgram) (d : Taken) (n : ℕ) (m : Moment) (region : Option FreeRegion) (s : SymbolicState) where
  op_length : (pinned : Bool) (result : ℕ) (x : Instr) (o : Op) (cs : List (List Symbolic)) → length (after_op p pinned n m region result x o cs) ≡ calls_by_op o (length cs)
  op_length pinned result x (op.Br to) cs = top_length _ cs
  op_length pinned result x (op.CondBr c a b) cs = top_length _ cs
  op_length pinned result x (op.Switch w on other cases) cs = top_length _ cs
  op_length pinned result x (op.Call g args) cs = refl
  op_length pinned result x (op.Ret v) cs = top_length _ (under_top cs) ∙ under_length cs
  op_length pinned result x (op.Alloca bytes) cs = top_length _ cs
  op_length pinned result x (op.CallLibrary f args) cs = top_length _ cs
  op_length pinned result x (op.Gep base indices) cs = top_length _ cs
  op_length pinned result x _ cs = top_length _ cs

  event_length : (v : Event) (kind : TurnKind) (a : Symbolic) (x : Instr) (cs : List (List Symbolic)) → length (after_event p m v kind a x cs) ≡ calls_by_event kind (length cs)
  event_length v turns.Start a x cs = top_length _ cs
  event_length v turns.Exit a x cs = refl
  event_length v turns.Wait a x cs = refl
  event_length v turns.Arrive a x cs = refl
  event_length v turns.Putchar a x cs = top_length _ cs
  event_length v _ a x cs = top_length _ cs

  kind_length : (x : Instr) (kind : StepKind) (cs : List (List Symbolic)) → length (calls_by p d n m region x kind s cs) ≡ calls_by_kind x kind (length cs)
  kind_length x (kinds.Access a) cs = top_length _ cs
  kind_length x (kinds.Event v) cs = event_length v v.kind _ x cs
  kind_length x kind cs = op_length (d.pinned n) (result_in kind) x x.op cs

  pub calls_length : (i : Option Instr) (cs : List (List Symbolic)) → length (calls_after p d n m region i s cs) ≡ calls_behind i m.did.did.kind (length cs)
  calls_length None cs = refl
  calls_length (Some x) cs = kind_length x m.did.did.kind cs

-- ---- a step that takes an edge, and one at a branch, keep it

edge_op : (p : NumberedProgram) (m : Moment) (to k : ℕ) (o : Op) → edge_by p m o ≡ Some to → calls_by_op o k ≡ k
edge_op p m to k (op.Call g args) h = let z : None ≡ Some to = h in absurd (cc)
edge_op p m to k (op.Ret v) h = let z : None ≡ Some to = h in absurd (cc)
edge_op p m to k o h = refl

edge_kind : (p : NumberedProgram) (m : Moment) (to k : ℕ) (x : Instr) (kind : StepKind) → instr_in p m ≡ Some x → edge_of p m kind ≡ Some to → calls_by_kind x kind k ≡ k
edge_kind p m to k x (kinds.Access a) q h = refl
edge_kind p m to k x (kinds.Event v) q h = let z : None ≡ Some to = h in absurd (cc)
edge_kind p m to k x kind q h = edge_op p m to k x.op (subst (λ (i : Option Instr). edge_in p m i ≡ Some to) q h)

pub edge_height : (p : NumberedProgram) (m : Moment) (to k : ℕ) (i : Option Instr) (kind : StepKind) → instr_in p m ≡ i → edge_of p m kind ≡ Some to → calls_behind i kind k ≡ k
edge_height p m to k None kind q h = refl
edge_height p m to k (Some x) kind q h = edge_kind p m to k x kind q h

branch_op : (k : ℕ) (o : Op) → is_branching o ≡ true → calls_by_op o k ≡ k
branch_op k (op.Call g args) h = absurd (true≢false (sym h))
branch_op k (op.Ret v) h = absurd (true≢false (sym h))
branch_op k o h = refl

branch_kind : (k : ℕ) (x : Instr) (kind : StepKind) → is_branch kind ≡ true → is_branching x.op ≡ true → calls_by_kind x kind k ≡ k
branch_kind k x (kinds.Access a) q h = refl
branch_kind k x (kinds.Event v) q h = absurd (true≢false (sym q))
branch_kind k x kind q h = branch_op k x.op h

-- a step that has a region is a branch
pub region_branch : (p : NumberedProgram) (regions : Regions) (m : Moment) (x : Instr) (r : FreeRegion) → region_of p regions m (Some x) ≡ Some r → is_branch m.did.did.kind ≡ true
region_branch p regions m x r h = go (is_branch m.did.did.kind) refl
  where
    go : (b : Bool) → is_branch m.did.did.kind ≡ b → is_branch m.did.did.kind ≡ true
    go true q = q
    go false q =
        let z : (if false then region_at p m (regions x.block.0) else None) ≡ Some r = subst (λ (b : Bool). (if b then region_at p m (regions x.block.0) else None) ≡ Some r) q h in
        let y : None ≡ Some r = z in absurd (cc)

pub branch_height : (p : NumberedProgram) (regions : Regions) (m : Moment) (i : Option Instr) (r : FreeRegion) (k : ℕ) → region_of p regions m i ≡ Some r →
    ((x : Instr) → i ≡ Some x → is_branching x.op ≡ true) → calls_behind i m.did.did.kind k ≡ k
branch_height p regions m None r k h b = refl
branch_height p regions m (Some x) r k h b = branch_kind k x m.did.did.kind (region_branch p regions m x r h) (b x refl)

-- ---- what is known of a thread's calls stays so high

module _ (d : Taken) (n depth : ℕ) (region : Option FreeRegion) (edge : Option ℕ) (es : List Extent)
    (next : ℕ → ℕ) (full : ℕ) (whole : full ≡ depth) (stacked : AreStacked depth edge (begun n depth region es))
    (edges : (to : ℕ) → edge ≡ Some to → next full ≡ full) (branches : (r : FreeRegion) → region ≡ Some r → next full ≡ full) where
  -- where it was live
  pub live_height : stand d es ≡ None → next full ≡ height_by (stand d (open_after n depth region edge es)) (next full)
  live_height h = go region refl
    where
      on : (r : FreeRegion) → region ≡ Some r → (b : Bool) → d.pinned n ≡ b → next full ≡ height_by (stand d (stays d depth edge (begun n depth region es))) (next full)
      on r q true f = rw (stays_none d depth edge (begun n depth region es) (begun_pinned d n depth region es f h)) refl
      on r q false f = split (ends depth edge (own_extent d n depth r)) refl
        where
          own : stand d (begun n depth region es) ≡ Some (own_extent d n depth r)
          own = subst (λ (o : Option FreeRegion). stand d (begun n depth o es) ≡ Some (own_extent d n depth r)) (sym q) (begun_free d n depth r es f h)

          split : (c : Bool) → ends depth edge (own_extent d n depth r) ≡ c → next full ≡ height_by (stand d (stays d depth edge (begun n depth region es))) (next full)
          split true g = rw (stays_ended d depth edge (begun n depth region es) (own_extent d n depth r) stacked own g) refl
          split false g = rw (stays_on d depth edge (begun n depth region es) (own_extent d n depth r) own g) (branches r q ∙ whole)

      go : (o : Option FreeRegion) → region ≡ o → next full ≡ height_by (stand d (stays d depth edge (begun n depth region es))) (next full)
      go None q = rw (stays_none d depth edge (begun n depth region es) (subst (λ (o : Option FreeRegion). stand d (begun n depth o es) ≡ None) (sym q) h)) refl
      go (Some r) q = on r q (d.pinned n) refl

  -- where it stood still
  pub still_height : (x : Extent) → stand d es ≡ Some x → x.depth ≡ height_by (stand d (open_after n depth region edge es)) (next full)
  still_height x h = go (ends depth edge x) refl
    where
      all : stand d (begun n depth region es) ≡ Some x
      all = begun_some d n depth region es x h

      go : (b : Bool) → ends depth edge x ≡ b → x.depth ≡ height_by (stand d (stays d depth edge (begun n depth region es))) (next full)
      go true q = let a = ends_at depth edge x q in rw (stays_ended d depth edge (begun n depth region es) x stacked all q) (a.0 ∙ sym whole ∙ sym (edges a.1.0 a.1.1))
      go false q = rw (stays_on d depth edge (begun n depth region es) x all q) refl
