-- Extents that end together, and the edges that steps take.
use Rattle.std.specs.Prelude.{◌&&◌, Contains, filter, if◌then◌else◌, slice_get, slice_index_or}
use Rattle.std.proofs.Common.{◌++◌, ◌<◌, ◌==◌, ◌∙◌, ◌∷◌, ◌≡◌, ◌≤◌, Bool, List, None, Option, Some, [], ap, arith, cond, false, length, not, refl, subst}
use Rattle.std.proofs.Common.{suc, sym, true, zero, ℕ}
use Rattle.std.proofs.lemmas.Bool.{and_from, and_parts, eq-eqb, eqb-true, true≢false}
use Rattle.pg_cfg.specs.Graphs.{Walk}
use Rattle.pg_cfg.specs.Graphs.Walk.{first as once, then as onward}
use Rattle.pg_ir.specs.Edges.{body_of}
use Rattle.pg_ir.specs.Program.{NumberedProgram, first_of}
use Rattle.pg_ir.specs.WellFormed.{IsInBlock}
use Rattle.pg_ir.specs.declared.instr.Instr.{Instr}
use Rattle.pg_ir.specs.declared.instr.Op.{Op}
use Rattle.pg_ir.specs.declared.instr.Op.TheVariants as op
use Rattle.pg_run_thread.specs.LocalState.{Frame, LocalState}
use Rattle.pg_run_thread.specs.Step.{after, frames_after, instr_after, moved, op_after, top_registers}
use Rattle.pg_run_thread.specs.Told.{id_of, place_in}
use Rattle.pg_run_trace.specs.declared.step.StepKind.{StepKind}
use Rattle.pg_run_trace.specs.declared.step.StepKind.TheVariants as kinds
use Rattle.pg_region_paths.proofs.Elements.{here, there}
use Rattle.pg_region.specs.Regions.{flow_of}
use Rattle.pg_run.specs.State.{State, id_in, instr_of}
use Rattle.pg_slice_rules.specs.Extents.{Extent, begun, edge_by, edge_in, ends, is_live, open_after}
use Rattle.pg_slice_rules.specs.Freeable.{FreeRegion}
use Rattle.pg_slice_rules.specs.Known.{Reference, SymbolicState, Taken, SymbolicThread, after_step, edge_of, live_after, no_thread, region_of, thread_of, with_extents}
use Rattle.pg_slice_rules.specs.Moments.{Moment, instr_in, registers_in, thread_in}
use Rattle.pg_law_instances.specs.pg_law_least.Keeps.{AreStacked}
use Rattle.pg_law_instances.specs.Inside.{Instance, edge_at as edge_from, edge_taken}
use Rattle.pg_law_instances.specs.Stays.{TellsWithin}
use Rattle.pg_law_plan.proofs.FreeBranchEffects.{extents_in}
use Rattle.pg_law_plan.proofs.ThreadWords.{length_set}

-- ---- extents that end together

pub mid : {A : Type 0} (xs ys : List A) (x : A) → Contains (xs ++ x ∷ ys) x
mid [] ys x = here x ys
mid (z ∷ xs) ys x = there z (xs ++ x ∷ ys) x (mid xs ys x)

module _ (depth : ℕ) (edge : Option ℕ) where
  pub drop_one : (e : Extent) (xs : List Extent) → ends depth edge e ≡ true
      → filter (λ (e : Extent). not (ends depth edge e)) (e ∷ xs) ≡ filter (λ (e : Extent). not (ends depth edge e)) xs
  drop_one e xs h = ap (λ (b : Bool). cond (not b) (e ∷ filter (λ (e : Extent). not (ends depth edge e)) xs) (filter (λ (e : Extent). not (ends depth edge e)) xs)) h

  pub keep_one : (e : Extent) (xs : List Extent) → ends depth edge e ≡ false
      → filter (λ (e : Extent). not (ends depth edge e)) (e ∷ xs) ≡ e ∷ filter (λ (e : Extent). not (ends depth edge e)) xs
  keep_one e xs h = ap (λ (b : Bool). cond (not b) (e ∷ filter (λ (e : Extent). not (ends depth edge e)) xs) (filter (λ (e : Extent). not (ends depth edge e)) xs)) h

  pub all_end : (later earlier : List Extent) (e : Extent) → AreStacked depth edge (later ++ e ∷ earlier) → ends depth edge e ≡ true →
      filter (λ (e : Extent). not (ends depth edge e)) (later ++ e ∷ earlier) ≡ filter (λ (e : Extent). not (ends depth edge e)) earlier
  all_end [] earlier e s h = drop_one e earlier h
  all_end (x ∷ later) earlier e s h = drop_one x (later ++ e ∷ earlier) (s.0 e (mid later earlier e) h) ∙ all_end later earlier e s.1 h

  pub it_stays : (later earlier : List Extent) (e : Extent) → ends depth edge e ≡ false →
      filter (λ (e : Extent). not (ends depth edge e)) (later ++ e ∷ earlier) ≡ filter (λ (e : Extent). not (ends depth edge e)) later
      ++ e ∷ filter (λ (e : Extent). not (ends depth edge e)) earlier
  it_stays [] earlier e h = keep_one e earlier h
  it_stays (x ∷ later) earlier e h = go (not (ends depth edge x)) (it_stays later earlier e h)
    where
      go : (b : Bool) → filter (λ (e : Extent). not (ends depth edge e)) (later ++ e ∷ earlier) ≡ filter (λ (e : Extent). not (ends depth edge e)) later
          ++ e ∷ filter (λ (e : Extent). not (ends depth edge e)) earlier →
          cond b (x ∷ filter (λ (e : Extent). not (ends depth edge e)) (later ++ e ∷ earlier)) (filter (λ (e : Extent). not (ends depth edge e)) (later ++ e ∷ earlier))
          ≡ cond b (x ∷ filter (λ (e : Extent). not (ends depth edge e)) later) (filter (λ (e : Extent). not (ends depth edge e)) later)
          ++ e ∷ filter (λ (e : Extent). not (ends depth edge e)) earlier
      go true k = ap (λ (l : List Extent). x ∷ l) k
      go false k = k

pub left_live : (pinned : ℕ → Bool) (g : Extent → Bool) (xs : List Extent) → is_live pinned xs ≡ true → is_live pinned (filter g xs) ≡ true
left_live pinned g [] h = refl
left_live pinned g (x ∷ xs) h = let p = and_parts (pinned x.step) (is_live pinned xs) h in go (g x) p.0 (left_live pinned g xs p.1)
  where
    go : (b : Bool) → pinned x.step ≡ true → is_live pinned (filter g xs) ≡ true → is_live pinned (cond b (x ∷ filter g xs) (filter g xs)) ≡ true
    go true a k = and_from (pinned x.step) (is_live pinned (filter g xs)) a k
    go false a k = k

-- a list with one that isn't pinned isn't live
pub not_live : (pinned : ℕ → Bool) (later earlier : List Extent) (e : Extent) → pinned e.step ≡ false → is_live pinned (later ++ e ∷ earlier) ≡ false
not_live pinned [] earlier e h = ap (λ (b : Bool). b && is_live pinned earlier) h
not_live pinned (x ∷ later) earlier e h = ap (λ (b : Bool). pinned x.step && b) (not_live pinned later earlier e h) ∙ and_none (pinned x.step)
  where
    and_none : (b : Bool) → (b && false) ≡ false
    and_none true = refl
    and_none false = refl

pub begun_on : (n depth : ℕ) (region : Option FreeRegion) (later earlier : List Extent) (e : Extent)
    → (more : List Extent) × (begun n depth region (later ++ e ∷ earlier) ≡ more ++ e ∷ earlier)
begun_on n depth None later earlier e = (later, refl)
begun_on n depth (Some r) later earlier e = (record { step = n; join = r.join; depth = depth } ∷ later, refl)

pub own_open : (threads : List SymbolicThread) (t : ℕ) (es : List Extent) → t < length threads → extents_in (with_extents t es threads) t ≡ es
own_open [] t es h = absurd (omega (arith, h))
own_open (x ∷ xs) zero es h = refl
own_open (x ∷ xs) (suc t) es h = own_open xs t es (omega (arith, h))

module _ (R : Reference) (d : Taken) (n : ℕ) (m : Moment) (known : SymbolicState) where
  abbrev pub old_threads : List SymbolicThread
  old_threads = (if is_live d.pinned (thread_of known (thread_in m)).extents then live_after R.program d n m (region_of R.program R.regions m (instr_in R.program m))
      (instr_in R.program m) known else known).threads

  abbrev pub new_extents : List Extent
  new_extents = open_after n (length m.calls) (region_of R.program R.regions m (instr_in R.program m)) (edge_of R.program m m.did.did.kind) (thread_of known (thread_in m)).extents

  -- the extents of a step's thread behind it
  pub own_extents : thread_in m < length (after_step R d n m known).threads
      → (thread_of (after_step R d n m known) (thread_in m)).extents
      ≡ open_after n (length m.calls) (region_of R.program R.regions m (instr_in R.program m)) (edge_of R.program m m.did.did.kind) (thread_of known (thread_in m)).extents
  own_extents lt = own_open old_threads (thread_in m) new_extents
      (subst (λ (k : ℕ). thread_in m < k) (length_set old_threads (thread_in m) (record (slice_index_or old_threads (thread_in m) no_thread) { extents = new_extents })) lt)

-- ---- the edge of a step

pub edge_same : (p : NumberedProgram) (m : Moment) (o : Op) → edge_by p m o ≡ edge_taken p (registers_in m.calls) o
edge_same p m (op.Br to) = refl
edge_same p m (op.CondBr c a b) = refl
edge_same p m (op.Switch w on other cases) = refl
edge_same p m o = refl

pub edge_there : (p : NumberedProgram) (m : Moment) (o : Option Instr) → edge_in p m o ≡ edge_from p (registers_in m.calls) o
edge_there p m None = refl
edge_there p m (Some x) = edge_same p m x.op

pub top_same : (fs : List Frame) → registers_in fs ≡ top_registers fs
top_same [] = refl
top_same (f ∷ fs) = refl

pub quiet_edge : (I : Instance) (p : NumberedProgram) (m : Moment) (k : StepKind) → TellsWithin I k → edge_of p m k ≡ edge_in p m (instr_in p m)
quiet_edge I p m kinds.Other h = refl
quiet_edge I p m (kinds.Branch c) h = refl
quiet_edge I p m (kinds.Access a) h = refl
quiet_edge I p m (kinds.Event v) h = absurd h
quiet_edge I p m (kinds.Allocation a b) h = absurd h

pub place_told : (s : State) (t : ℕ) (l : LocalState) → slice_get s.locals t ≡ Some l → instr_of s t ≡ id_of l
unfolding instr_of
place_told s t l e = ap id_in e

-- ---- the calls behind an edge

pub one_some : (a b : ℕ) → Path (Option ℕ) (Some a) (Some b) → a ≡ b
one_some a b e = cc

pub edge_frames : (p : NumberedProgram) (l : LocalState) (x : Instr) (a : ℕ) (o : Op) (f : Frame) (fs : List Frame) (to : ℕ) → l.frames ≡ f ∷ fs
    → edge_taken p f.registers o ≡ Some to → op_after p l x a o ≡ moved p f x.block.0 to ∷ fs
edge_frames p l x a (op.Br b) f fs to e h = rw e (ap (λ (i : ℕ). moved p f x.block.0 i ∷ fs) (one_some b.0 to h))
edge_frames p l x a (op.CondBr c y z) f fs to e h = rw e (ap (λ (i : ℕ). moved p f x.block.0 i ∷ fs) (one_some _ to h))
edge_frames p l x a (op.Switch w on other cases) f fs to e h = rw e (ap (λ (i : ℕ). moved p f x.block.0 i ∷ fs) (one_some _ to h))
edge_frames p l x a o f fs to e h = absurd cc

pub not_met : (p : NumberedProgram) (j a x : ℕ) → Walk (flow_of p) j a x → x ≡ j → ⊥
not_met p j a x (once e h) = h
not_met p j a x (onward w e h) = h

pub block_there : (b : ℕ) (o : Option Instr) → IsInBlock b o → (x : Instr) × (o ≡ Some x) × (x.block.0 ≡ b)
block_there b None h = absurd h
block_there b (Some x) h = (x, refl, h)

pub ends_parts : (depth : ℕ) (edge : Option ℕ) (e : Extent) → ends depth edge e ≡ true → (edge ≡ Some e.join) × (e.depth ≡ depth)
ends_parts depth None e h = absurd (true≢false (sym h))
ends_parts depth (Some to) e h = let k = and_parts (e.depth == depth) (e.join == to) h in (ap (λ (n : ℕ). Some n) (sym (eqb-true e.join to k.1)), eqb-true e.depth depth k.0)

pub ends_there : (depth : ℕ) (edge : Option ℕ) (e : Extent) → edge ≡ Some e.join → e.depth ≡ depth → ends depth edge e ≡ true
ends_there depth edge e h k = subst (λ (o : Option ℕ). ends depth o e ≡ true) (sym h) (and_from (e.depth == depth) (e.join == e.join) (eq-eqb e.depth depth k) (eq-eqb e.join e.join refl))

pub at_edge : (p : NumberedProgram) (rs : List (Option ℕ)) (o : Option Instr) (to : ℕ) → edge_from p rs o ≡ Some to → (x : Instr) × (o ≡ Some x) × (edge_taken p rs x.op ≡ Some to)
at_edge p rs None to h = absurd cc
at_edge p rs (Some x) to h = (x, refl, h)

pub place_of_top : (l : LocalState) (f : Frame) (fs : List Frame) → l.frames ≡ f ∷ fs → id_of l ≡ f.place
unfolding id_of
place_of_top l f fs e = ap place_in e

pub after_frames : (p : NumberedProgram) (l : LocalState) (f : Frame) (fs : List Frame) (x : Instr) (a : ℕ) → l.begun ≡ true → l.frames ≡ f ∷ fs
    → slice_get p.instrs f.place ≡ Some x → (after p l a).frames ≡ op_after p l x a x.op
unfolding after
after_frames p l f fs x a b e i =
    ap (λ (k : Bool). (frames_after p l k l.frames a).frames) b
    ∙ ap (λ (k : List Frame). (frames_after p l true k a).frames) e
    ∙ ap (λ (o : Option Instr). (instr_after p l a o).frames) i

pub body_behind : (p : NumberedProgram) (b : ℕ) → first_of p b ≤ body_of p b
unfolding body_of
body_behind p b = omega arith
