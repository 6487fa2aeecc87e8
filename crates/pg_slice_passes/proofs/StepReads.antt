-- What a step of a run reads of what is kept, and what a live step asks.
use Rattle.std.proofs.Common.{◌≡◌, ℕ, zero, suc, ◌<◌, ◌≤◌, ℤ, Bool, true, false, cond, List, [], ◌∷◌, ◌++◌, length, map, Option, Some, None, IfSome, replicate}
use Rattle.std.proofs.Common.{refl, sym, ap, ◌∙◌, subst, arith, append_assoc}
use Rattle.std.specs.Prelude.{◌&&◌, not, if◌then◌else◌, is_some, slice_index_or}
use Rattle.std.proofs.lemmas.Bool.{false≢true}
use mathlib.Core.Path.{fun_ext}
use Rattle.pg_ir.specs.declared.instr.Instr.{Instr}
use Rattle.pg_ir.specs.Program.{NumberedProgram}
use Rattle.pg_precondition.specs.Nodes.{NodeList}
use Rattle.pg_precondition.specs.declared.check.Check.{Check}
use Rattle.pg_run_trace.specs.declared.turn.TurnKind.{TurnKind}
use Rattle.pg_run_trace.specs.declared.turn.TurnKind.TheVariants as turns
use Rattle.pg_run_trace.specs.declared.step.Access.{Access}
use Rattle.pg_run_trace.specs.declared.step.Event.{Event}
use Rattle.pg_run_trace.specs.declared.step.Step.{Step}
use Rattle.pg_run_trace.specs.declared.step.StepKind.{StepKind}
use Rattle.pg_run_trace.specs.declared.step.StepKind.TheVariants as kinds
use Rattle.pg_run_trace.specs.Steps.{access_by}
use Rattle.pg_slice_rules.specs.declared.decision.Decision.{Decision}
use Rattle.pg_slice_rules.specs.declared.decision.Decision.TheVariants.{Pinned}
use Rattle.pg_slice_rules.specs.Closed.{conditions_at}
use Rattle.pg_slice_rules.specs.Extents.{Extent, is_live}
use Rattle.pg_slice_rules.specs.Freeable.{FreeRegion}
use Rattle.pg_slice_rules.specs.Known.{Reference, Seen, Taken, SymbolicThread, is_branch, no_thread, operand_symbolics, region_of, registers_of, thread_of, top_of}
use Rattle.pg_slice_rules.specs.Moments.{instr_in, thread_in}
use Rattle.pg_slice_rules.specs.Rules as rules
use Rattle.pg_slice_rules.specs.Rules.{Condition, Need, all_of, asks_pins, has_region, kind_in, need_blames, need_conditions, region_needs_in, registers_before}
use Rattle.pg_slice_rules.specs.SymbolicValues.{Symbolic}
use Rattle.pg_slice_checks.specs.Asks.{Adds, AreNamed, all_hold, all_met}
use Rattle.pg_slice_checks.specs.declared.asked.Asked.{Asked}
use Rattle.pg_slice_checks.proofs.OneNeedMore.{adds_then}
use Rattle.pg_slice_checks.specs.Steps as steps
use Rattle.pg_slice_checks.specs.Steps.{at, bounds_by, step_needs}
use Rattle.pg_slice_replay.specs.declared.run.ReferenceRun.{ReferenceRun}
use Rattle.pg_slice_replay.specs.Kept.{landmark_at}
use Rattle.pg_slice_replay.specs.Landmarks.{Landmark}
use Rattle.pg_slice_checks.specs.pg_slice_memory.Changes as bytes
use Rattle.pg_slice_checks.proofs.of_pg_slice_memory.ByteNodes.{symbolics_kept}
use Rattle.pg_slice_registers.specs.SymbolicRegisterNodes.{AreCalls, AreSymbolicNodes, CallList, calls_by, registers_by, top_symbolic_nodes}
use Rattle.pg_slice_registers.specs.Threads.{AreThreads, threads_by}
use Rattle.pg_slice_registers.proofs.ThreadCalls.{top_are, top_by}
use Rattle.pg_slice_registers.proofs.KeptValues.{registers_kept}
use Rattle.pg_slice_values.specs.declared.symbolic_node.SymbolicNode.{SymbolicNode}
use Rattle.pg_slice_values.specs.SymbolicNodes.{Grew}
use Rattle.pg_slice_passes.specs.declared.state.SymbolicRun.{SymbolicRun}
use Rattle.pg_slice_passes.specs.Along.{needs_at, own_asks}
use Rattle.pg_slice_passes.specs.Passes.{IsAt, fixed_by}
use Rattle.pg_slice_passes.specs.State.{AreKept, Knows, extents_of, symbolic_nodes_in}

-- ---- the registers of a step's thread

top_known : (ns : NodeList) (ts : List CallList) (extents : List (List Extent)) (t : ℕ)
    → top_of (slice_index_or (threads_by ns ts extents) t no_thread).calls ≡ registers_by ns (top_symbolic_nodes (slice_index_or ts t []))
top_known ns [] extents t = refl
top_known ns (c ∷ ts) [] zero = sym (top_by ns c)
top_known ns (c ∷ ts) [] (suc t) = top_known ns ts [] t
top_known ns (c ∷ ts) (e ∷ extents) zero = sym (top_by ns c)
top_known ns (c ∷ ts) (e ∷ extents) (suc t) = top_known ns ts extents t

pub registers_at : (R : Reference) (d : Taken) (p : NumberedProgram) (ns : NodeList) (s : SymbolicRun) (r : ReferenceRun) (n : ℕ) (step : Step) (i : Instr) (x : Seen)
    → IsAt R d p ns s r n step i x →
    registers_before x ≡ registers_by ns (symbolic_nodes_in s step.thread.0)
registers_at R d p ns s r n step i x a =
    ap (λ ts. top_of (slice_index_or ts (thread_in x.moment) no_thread).calls) a.before.threads
    ∙ top_known ns s.threads.items (extents_of x.before) (thread_in x.moment)
    ∙ ap (λ (y : Step). registers_by ns (symbolic_nodes_in s y.thread.0)) a.did

pub bytes_at : (R : Reference) (d : Taken) (p : NumberedProgram) (ns : NodeList) (s : SymbolicRun) (r : ReferenceRun) (n : ℕ) (step : Step) (i : Instr) (x : Seen) → IsAt R d p ns s r n step i x →
    x.before.bytes ≡ bytes.symbolics_of p ns s.memory
bytes_at R d p ns s r n step i x a = fun_ext (λ b. a.before.bytes b)

calls_at : (n : ℕ) (ts : List CallList) (t : ℕ) → AreThreads n ts → AreCalls n (slice_index_or ts t [])
calls_at n [] t a = tt
calls_at n (c ∷ ts) zero a = a.0
calls_at n (c ∷ ts) (suc t) a = calls_at n ts t a.1

pub symbolic_nodes_at : (n : ℕ) (s : SymbolicRun) (t : ℕ) → AreKept n s → AreSymbolicNodes n (symbolic_nodes_in s t)
symbolic_nodes_at n s t k = top_are n (slice_index_or s.threads.items t []) (calls_at n s.threads.items t k.threads)

-- ---- what a live step asks

module _ (p : NumberedProgram) (d : Taken) (x : Seen) (i : Instr) where
  abbrev operands : List Symbolic
  operands = operand_symbolics p (registers_before x) i.op

  event_is : (e : Event) (kind : TurnKind) → rules.event_needs p x i e kind ≡ steps.event_needs operands i.op e kind
  event_is e turns.Start = refl
  event_is e kind = refl

  write_is : (a : Option Access) → rules.write_needs p x i a ≡ bounds_by (at operands (rules.write_index i.op)) a
  write_is None = refl
  write_is (Some a) = refl

  by_rules : (kind : StepKind) → rules.value_needs_by p d x i kind ++ rules.access_needs_by p x i kind ≡ step_needs (fixed_by d kind x.number) operands i.op kind
  by_rules (kinds.Branch c) = refl
  by_rules (kinds.Access a) = refl
  by_rules (kinds.Allocation size place) = refl
  by_rules (kinds.Event e) =
      ap (λ (ns : List Need). ns ++ rules.write_needs p x i (access_by e.write)) (event_is e e.kind)
      ∙ ap (λ (ns : List Need). steps.event_needs operands i.op e e.kind ++ ns) (write_is (access_by e.write))
  by_rules kinds.Other = refl

module _ (R : Reference) (d : Taken) (x : Seen) where
  abbrev behind : List Need
  behind = region_needs_in R.program x x.region

  pub live_needs : (i : Instr) → x.live ≡ true → instr_in R.program x.moment ≡ Some i →
      needs_at R d x ≡ step_needs (fixed_by d (kind_in x) x.number) (operand_symbolics R.program (registers_before x) i.op) i.op (kind_in x) ++ region_needs_in R.program x x.region
  live_needs i l e =
      ap (λ (o : Option Instr). rules.value_needs_in R.program d x o ++ (rules.access_needs_in R.program x o ++ (if x.live then behind else []))) e
      ∙ ap (λ (b : Bool). (if b then rules.value_needs_by R.program d x i (kind_in x) else [])
      ++ ((if b then rules.access_needs_by R.program x i (kind_in x) else []) ++ (if b then behind else []))) l
      ∙ sym (append_assoc (rules.value_needs_by R.program d x i (kind_in x)) (rules.access_needs_by R.program x i (kind_in x)) behind)
      ∙ ap (λ (ns : List Need). ns ++ behind) (by_rules R.program d x i (kind_in x))

  dead_needs : x.live ≡ false → needs_at R d x ≡ []
  dead_needs l = go (instr_in R.program x.moment)
    where
      go : (o : Option Instr) → rules.value_needs_in R.program d x o ++ (rules.access_needs_in R.program x o ++ (if x.live then behind else [])) ≡ []
      go None = ap (λ (b : Bool). if b then behind else []) l
      go (Some i) = ap (λ (b : Bool). (if b then rules.value_needs_by R.program d x i (kind_in x) else [])
          ++ ((if b then rules.access_needs_by R.program x i (kind_in x) else []) ++ (if b then behind else []))) l

  has_some : (q : Option FreeRegion) → has_region q ≡ is_some q
  has_some None = refl
  has_some (Some q) = refl

  pins_where : x.live ≡ true → asks_pins d x ≡ (if (is_branch (kind_in x) && not (is_some x.region)) && not (d.pinned x.number) then Pinned x.number ∷ [] else [])
  pins_where l =
      ap (λ (b : Bool). if (b && is_branch (kind_in x) && not (has_region x.region)) && not (d.pinned x.number) then Pinned x.number ∷ [] else []) l
      ∙ ap (λ (b : Bool). if (is_branch (kind_in x) && not b) && not (d.pinned x.number) then Pinned x.number ∷ [] else []) (has_some x.region)

  no_pins : x.live ≡ false → asks_pins d x ≡ []
  no_pins l = ap (λ (b : Bool). if (b && is_branch (kind_in x) && not (has_region x.region)) && not (d.pinned x.number) then Pinned x.number ∷ [] else []) l

  pub nothing_own : x.live ≡ false → own_asks R d x ≡ []
  nothing_own l = ap (λ (ys : List Decision). ys ++ all_of need_blames (needs_at R d x)) (no_pins l) ∙ ap (λ (ns : List Need). all_of need_blames ns) (dead_needs l)

  of_both : {A : Type 0} (f : Need → List A) (xs ys : List Need) → all_of f (xs ++ ys) ≡ all_of f xs ++ all_of f ys
  of_both f [] ys = refl
  of_both f (n ∷ xs) ys = ap (λ l. f n ++ l) (of_both f xs ys) ∙ sym (append_assoc (f n) (all_of f xs) (all_of f ys))

  pub conditions_are : conditions_at R d x ≡ all_of need_conditions (needs_at R d x)
  conditions_are = sym (of_both need_conditions (rules.value_needs R d x) (rules.bounds_needs R x))

  pub nothing_checked : x.live ≡ false → conditions_at R d x ≡ []
  nothing_checked l = conditions_are ∙ ap (λ (ns : List Need). all_of need_conditions ns) (dead_needs l)

  -- the pin, then what the needs blame
  pub own_live : (old between new : List Decision) (needs : List Need) (kind : StepKind) (n : ℕ) (region : Option FreeRegion) → x.live ≡ true → kind_in x ≡ kind → x.number ≡ n
      → x.region ≡ region →
      between ≡ old ++ (if (is_branch kind && not (is_some region)) && not (d.pinned n) then Pinned n ∷ [] else []) → new ≡ between ++ all_of need_blames needs
      → needs_at R d x ≡ needs → new ≡ old ++ own_asks R d x
  own_live old between new needs kind n region l k m q first second same =
      second
      ∙ ap (λ (ys : List Decision). ys ++ all_of need_blames needs) first
      ∙ append_assoc old (if (is_branch kind && not (is_some region)) && not (d.pinned n) then Pinned n ∷ [] else []) (all_of need_blames needs)
      ∙ ap (λ (ys : List Decision). old ++ (ys ++ all_of need_blames needs)) (sym pins)
      ∙ ap (λ (ns : List Need). old ++ (asks_pins d x ++ all_of need_blames ns)) (sym same)
    where
      pins : asks_pins d x ≡ (if (is_branch kind && not (is_some region)) && not (d.pinned n) then Pinned n ∷ [] else [])
      pins =
          pins_where l
          ∙ ap (λ (y : StepKind). if (is_branch y && not (is_some x.region)) && not (d.pinned x.number) then Pinned x.number ∷ [] else []) k
          ∙ ap (λ (y : Option FreeRegion). if (is_branch kind && not (is_some y)) && not (d.pinned x.number) then Pinned x.number ∷ [] else []) q
          ∙ ap (λ (y : ℕ). if (is_branch kind && not (is_some region)) && not (d.pinned y) then Pinned y ∷ [] else []) m

  -- the checks of these needs are what an input must give
  pub checks_at : (ns : NodeList) (old new : List Check) (input : List ℤ) → all_hold ns new input ≡ (all_hold ns old input && all_met (all_of need_conditions (needs_at R d x)) input) →
      all_hold ns new input ≡ (all_hold ns old input && all_met (conditions_at R d x) input)
  checks_at ns old new input h = h ∙ ap (λ (l : List Condition). all_hold ns old input && all_met l input) (sym conditions_are)

  and_true : (b : Bool) → b ≡ (b && true)
  and_true true = refl
  and_true false = refl

  pub checks_dead : (ns : NodeList) (old : List Check) (input : List ℤ) → x.live ≡ false → all_hold ns old input ≡ (all_hold ns old input && all_met (conditions_at R d x) input)
  checks_dead ns old input l = and_true (all_hold ns old input) ∙ ap (λ (cs : List Condition). all_hold ns old input && all_met cs input) (sym (nothing_checked l))

-- ---- a live step's needs by what is read

module _ (R : Reference) (d : Taken) (p : NumberedProgram) (old : NodeList) (s : SymbolicRun) (r : ReferenceRun) (n : ℕ) (step : Step) (i : Instr) (y : Seen) (a : IsAt R d p old s r n step i y) where
  pub live_is : (b : Bool) → b ≡ is_live d.pinned (thread_of y.before step.thread.0).extents → y.live ≡ b
  live_is b h = a.live ∙ ap (λ (x : Step). is_live d.pinned (thread_of y.before x.thread.0).extents) a.did ∙ sym h

  pub region_told : IfSome (landmark_at r n) (λ (l : Landmark). y.region ≡ l.region)
  region_told = subst (λ (o : Option Landmark). IfSome o (λ (l : Landmark). y.region ≡ l.region)) (sym a.landmark) a.region

  module _ (ns : NodeList) (grew : Grew old ns) (kept : AreKept (length old) s) (regs : List SymbolicNode) (read : regs ≡ symbolic_nodes_in s step.thread.0) where
    registers_now : registers_before y ≡ registers_by ns regs
    registers_now =
        registers_at R d p old s r n step i y a
        ∙ sym (registers_kept old ns (symbolic_nodes_in s step.thread.0) grew (symbolic_nodes_at (length old) s step.thread.0 kept))
        ∙ ap (λ (l : List SymbolicNode). registers_by ns l) (sym read)

    bytes_now : y.before.bytes ≡ bytes.symbolics_of p ns s.memory
    bytes_now = bytes_at R d p old s r n step i y a ∙ sym (symbolics_kept p old ns s.memory grew kept.bytes)

    steps_asked : (fixed : Bool) → fixed ≡ fixed_by d step.kind n → step_needs fixed (operand_symbolics p (registers_by ns regs) i.op) i.op step.kind
        ≡ step_needs (fixed_by d (kind_in y) y.number) (operand_symbolics R.program (registers_before y) i.op) i.op (kind_in y)
    steps_asked fixed h =
        ap (λ (b : Bool). step_needs b (operand_symbolics p (registers_by ns regs) i.op) i.op step.kind) h
        ∙ ap (λ (k : ℕ). step_needs (fixed_by d step.kind k) (operand_symbolics p (registers_by ns regs) i.op) i.op step.kind) (sym a.number)
        ∙ ap (λ (x : Step). step_needs (fixed_by d x.kind y.number) (operand_symbolics p (registers_by ns regs) i.op) i.op x.kind) (sym a.did)
        ∙ ap (λ (l : List Symbolic). step_needs (fixed_by d (kind_in y) y.number) (operand_symbolics p l i.op) i.op (kind_in y)) (sym registers_now)
        ∙ ap (λ (q : NumberedProgram). step_needs (fixed_by d (kind_in y) y.number) (operand_symbolics q (registers_before y) i.op) i.op (kind_in y)) (sym a.program)

    pub live_adds : (fixed : Bool) → fixed ≡ fixed_by d step.kind n → y.live ≡ true → (mid between new : Asked)
        → Adds ns (step_needs fixed (operand_symbolics p (registers_by ns regs) i.op) i.op step.kind) mid between →
        IfSome (landmark_at r n) (λ (l : Landmark). (x : Seen) → registers_before x ≡ registers_by ns regs → x.before.bytes ≡ bytes.symbolics_of p ns s.memory
        → Adds ns (region_needs_in p x l.region) between new) →
        Adds ns (needs_at R d y) mid new
    live_adds fixed h l mid between new first rest =
        subst (λ (needs : List Need). Adds ns needs mid new) (sym (live_needs R d y i l here))
        (adds_then ns (step_needs (fixed_by d (kind_in y) y.number) (operand_symbolics R.program (registers_before y) i.op) i.op (kind_in y)) (region_needs_in R.program y y.region) mid between new
        (subst (λ (needs : List Need). Adds ns needs mid between) (steps_asked fixed h) first) second)
      where
        here : instr_in R.program y.moment ≡ Some i
        here = ap (λ (q : NumberedProgram). instr_in q y.moment) a.program ∙ a.instr

        told : (x : Seen) → registers_before x ≡ registers_by ns regs → x.before.bytes ≡ bytes.symbolics_of p ns s.memory
            → Adds ns (region_needs_in p x (region_of p R.regions y.moment (instr_in p y.moment))) between new
        told = subst (λ (o : Option Landmark). IfSome o (λ (l : Landmark). (x : Seen) → registers_before x ≡ registers_by ns regs → x.before.bytes ≡ bytes.symbolics_of p ns s.memory
            → Adds ns (region_needs_in p x l.region) between new)) a.landmark rest

        second : Adds ns (region_needs_in R.program y y.region) between new
        second =
            subst (λ (q : NumberedProgram). Adds ns (region_needs_in q y y.region) between new) (sym a.program)
            (subst (λ (o : Option FreeRegion). Adds ns (region_needs_in p y o) between new) (sym a.region) (told y registers_now bytes_now))

-- ---- whatever is known, the checks name nodes that there are

at_end : (t : ℕ) (x : SymbolicThread) → slice_index_or (replicate t no_thread ++ x ∷ []) t no_thread ≡ x
at_end zero x = refl
at_end (suc t) x = at_end t x

abbrev seen_by : Step → List Symbolic → (ℕ → Symbolic) → Seen
seen_by step rs f = record {
  number = 0;
  moment = record { did = record { did = step; low = 0; high = 0 }; calls = []; bytes = λ b. 0 };
  region = None;
  live = true;
  before = record { threads = replicate step.thread.0 no_thread ++ record { calls = rs ∷ []; extents = [] } ∷ []; bytes = f; words = [] };
}

pub named_by : (p : NumberedProgram) (ns : NodeList) (step : Step) (rs : List Symbolic) (f : ℕ → Symbolic) (o : Option Landmark) (between new : Asked) → is_some o ≡ true →
    IfSome o (λ (l : Landmark). (x : Seen) → registers_before x ≡ rs → x.before.bytes ≡ f → Adds ns (region_needs_in p x l.region) between new)
    → AreNamed (length ns) between.checks.items → AreNamed (length ns) new.checks.items
named_by p ns step rs f None between new h a n = absurd (false≢true h)
named_by p ns step rs f (Some l) between new h a n =
    let e = at_end step.thread.0 (record { calls = rs ∷ []; extents = [] }) in
    let added = a (seen_by step rs f) (ap (λ (t : SymbolicThread). top_of t.calls) e) refl in
    added.named n

pub region_of_it : {A B : Type 0} (o : Option A) (a : A) (f : A → B) (P : B → Type 0) → o ≡ Some a → IfSome o (λ (x : A). P (f x)) → P (f a)
region_of_it o a f P e h = subst (λ z. IfSome z (λ x. P (f x))) e h

-- what a region asks, by what is read of it later
abbrev pub RegionAsks : NumberedProgram → NodeList → List SymbolicNode → bytes.Changes → Asked → Asked → Landmark → Type 0
RegionAsks p after regs memory between new l = (ns : NodeList) (x : Seen) → Grew after ns → registers_before x ≡ registers_by ns regs → x.before.bytes ≡ bytes.symbolics_of p ns memory
    → Adds ns (region_needs_in p x l.region) between new

abbrev pub RegionAdds : NumberedProgram → NodeList → List Symbolic → (ℕ → Symbolic) → Asked → Asked → Landmark → Type 0
RegionAdds p ns rs f between new l = (x : Seen) → registers_before x ≡ rs → x.before.bytes ≡ f → Adds ns (region_needs_in p x l.region) between new

pub told_at : (p : NumberedProgram) (after ns : NodeList) (regs : List SymbolicNode) (memory : bytes.Changes) (between new : Asked) (o : Option Landmark) → Grew after ns
    → IfSome o (RegionAsks p after regs memory between new) →
    IfSome o (RegionAdds p ns (registers_by ns regs) (bytes.symbolics_of p ns memory) between new)
told_at p after ns regs memory between new None g h = tt
told_at p after ns regs memory between new (Some l) g h = λ x e f. h ns x g e f
