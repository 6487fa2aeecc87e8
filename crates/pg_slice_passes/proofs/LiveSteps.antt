-- What is known after a live step, by the kind of the step.
use Rattle.std.proofs.Common.{◌≡◌, ◌⊎◌, inl, inr, ℕ, zero, suc, ◌||◌, ◌<◌, List, [], ◌∷◌, length, Bool, true, false, Option, Some, None, IsTrue, IfSome, is_some}
use Rattle.std.proofs.Common.{option_map, slice_get, slice_index_or, arith, refl, ap, sym, ◌∙◌, subst, if◌then◌else◌}
use Rattle.pg_num.specs.declared.width.Width.{Width}
use Rattle.pg_ir.specs.declared.instr.Instr.{Instr}
use Rattle.pg_ir.specs.declared.instr.Op.{Op}
use Rattle.pg_ir.specs.declared.instr.Op.TheVariants as op
use Rattle.pg_ir.specs.declared.value.Value.{Value}
use Rattle.pg_ir.specs.Program.{NumberedProgram}
use Rattle.pg_precondition.specs.Nodes.{NodeList}
use Rattle.pg_run_trace.specs.declared.step.Access.{Access}
use Rattle.pg_run_trace.specs.declared.step.Event.{Event}
use Rattle.pg_run_trace.specs.declared.step.StepKind.{StepKind}
use Rattle.pg_run_trace.specs.declared.step.StepKind.TheVariants as kinds
use Rattle.pg_run_trace.specs.declared.turn.TurnKind.{TurnKind}
use Rattle.pg_run_trace.specs.declared.turn.TurnKind.TheVariants as turns
use Rattle.pg_region_accesses.specs.Tables.{in_table}
use Rattle.pg_slice_rules.specs.Extents.{edge_in, is_live, open_after}
use Rattle.pg_slice_rules.specs.Freeable.{FreeRegion, Regions}
use Rattle.pg_slice_rules.specs.Known.{Reference, SymbolicState, Taken, SymbolicThread, after_access, after_event, after_op, after_step, bytes_by, bytes_freed, bytes_stored, edge_of, live_after}
use Rattle.pg_slice_rules.specs.Known.{live_by, no_thread, on_thread, region_of, registers_of, result_in, thread_of, threads_after, with_extents, with_top, words_after}
use Rattle.pg_slice_rules.specs.Moments.{Moment, instr_in, thread_in}
use Rattle.pg_slice_rules.specs.SymbolicValues.{Symbolic, unset}
use Rattle.pg_slice_decisions.specs.Open.{left_free}
use Rattle.pg_slice_replay.specs.declared.row.Row.{Row}
use Rattle.pg_slice_replay.specs.declared.run.ReferenceRun.{ReferenceRun}
use Rattle.pg_slice_replay.specs.Kept.{landmark_at, landmark_in, step_count}
use Rattle.pg_slice_replay.specs.Landmarks.{Landmark, landmark_of}
use Rattle.pg_slice_values.specs.SymbolicNodes.{Grew}
use Rattle.pg_slice_checks.specs.pg_slice_memory.Changes.{symbolics_of}
use Rattle.pg_slice_registers.specs.declared.step.OpStep.{OpStep}
use Rattle.pg_slice_registers.specs.Events.{HasOperands}
use Rattle.pg_slice_registers.specs.SymbolicRegisterNodes.{marked, registers_by}
use Rattle.pg_slice_registers.specs.Steps.{IsStepAt, is_plain}
use Rattle.pg_slice_passes.specs.declared.state.SymbolicRun.{SymbolicRun}
use Rattle.pg_slice_passes.specs.Given.{FitsBranch, FitsEvent, is_op}
use Rattle.pg_slice_passes.specs.State.{AreKept, EachOpen, Knows, KnowsThreads, extents_in, symbolic_nodes_in}
use Rattle.pg_slice_passes.proofs.ThreadLists.{extents_change, same_after, same_extents, set_length}
use Rattle.pg_slice_passes.proofs.KeptKnowledge.{bytes_in, knows_by, knows_more, registers_in, threads_in}

-- ---- what fits

pub has_operands : (e : Event) (o : Op) → FitsEvent e o → HasOperands e.kind o
has_operands e (op.CallLibrary k args) f = of_call e.kind
  where
    of_call : (kind : TurnKind) → HasOperands kind (op.CallLibrary k args)
    of_call turns.Putchar = tt
    of_call turns.Create = tt
    of_call turns.Exit = tt
    of_call kind = tt
has_operands e (op.Ret v) f = of_return e.kind f.0
  where
    of_return : (kind : TurnKind) → (kind ≡ turns.Start) ⊎ (kind ≡ turns.Exit) → HasOperands kind (op.Ret v)
    of_return kind (inl h) = rw h tt
    of_return kind (inr h) = rw h tt
has_operands e o f = rw f.0 tt

pub branch_plain : (o : Op) → FitsBranch o → IsTrue (is_plain o)
branch_plain (op.CondBr c a b) f = refl
branch_plain (op.Switch w on other cases) f = refl
branch_plain o f = absurd f

-- ---- an access

on_same : (f : List (List Symbolic) → List (List Symbolic)) (t : ℕ) (ks : List SymbolicThread) → ((calls : List (List Symbolic)) → f calls ≡ calls) → on_thread f t ks ≡ ks
on_same f t [] h = refl
on_same f zero (k ∷ ks) h = ap (λ (cs : List (List Symbolic)). let s : SymbolicThread = record { calls = cs; extents = k.extents } in s ∷ ks) (h k.calls)
on_same f (suc t) (k ∷ ks) h = ap (λ (xs : List SymbolicThread). k ∷ xs) (on_same f t ks h)

pub load_known : (p : NumberedProgram) (ns : NodeList) (s z : SymbolicRun) (d : Taken) (n : ℕ) (m : Moment) (region : Option FreeRegion) (x : Instr) (a : Access) (k : SymbolicState) (w : Width)
    (from : Value) → x.op ≡ op.Load w from →
    Knows p ns d.pinned s k → KnowsThreads ns d.pinned z.threads.items z.extents.items (on_thread (with_top (after_access p (d.exact n) n a k.bytes x x.op)) (thread_in m) k.threads) →
    z.memory ≡ s.memory → z.words.items ≡ s.words.items → Knows p ns d.pinned z (live_by p d n m region x (kinds.Access a) k)
load_known p ns s z d n m region x a k w from e h t memory words =
    knows_by p ns d.pinned z (live_by p d n m region x (kinds.Access a) k) t
    (λ b. ap (λ (o : Op). bytes_stored p (d.exact n || a.event) n a (registers_of k (thread_in m)) o k.bytes b) e ∙ h.bytes b ∙ ap (λ cs. symbolics_of p ns cs b) (sym memory))
    (h.words ∙ ap (registers_by ns) (sym words))

stored_same : (p : NumberedProgram) (exact : Bool) (n : ℕ) (a : Access) (bytes : ℕ → Symbolic) (x : Instr) (w : Width) (v at : Value) (o : Op) → o ≡ op.Store w v at
    → (calls : List (List Symbolic)) →
    with_top (after_access p exact n a bytes x o) calls ≡ calls
stored_same p exact n a bytes x w v at o e [] = refl
stored_same p exact n a bytes x w v at o e (rs ∷ calls) = ap (λ (y : Op). after_access p exact n a bytes x y rs ∷ calls) e

pub store_known : (p : NumberedProgram) (old new : NodeList) (s z : SymbolicRun) (d : Taken) (n : ℕ) (m : Moment) (region : Option FreeRegion) (x : Instr) (a : Access) (k : SymbolicState)
    (w : Width) (v at : Value) → x.op ≡ op.Store w v at →
    Grew old new → AreKept (length old) s → Knows p old d.pinned s k → z.threads.items ≡ s.threads.items → z.words.items ≡ s.words.items → z.extents.items ≡ s.extents.items →
    ((b : ℕ) → symbolics_of p new z.memory b ≡ bytes_stored p (d.exact n || a.event) n a (registers_by old (symbolic_nodes_in s (thread_in m))) (op.Store w v at) (symbolics_of p old s.memory) b) →
    Knows p new d.pinned z (live_by p d n m region x (kinds.Access a) k)
store_known p old new s z d n m region x a k w v at e g kept h threads words extents bytes =
    let more = knows_more p old new d.pinned s k g kept h in
    let known = d.exact n || a.event in
    let t = thread_in m in
    let same : on_thread (with_top (after_access p (d.exact n) n a k.bytes x x.op)) t k.threads ≡ k.threads =
    on_same (with_top (after_access p (d.exact n) n a k.bytes x x.op)) t k.threads (stored_same p (d.exact n) n a k.bytes x w v at x.op e) in
    let of_threads : KnowsThreads new d.pinned z.threads.items z.extents.items k.threads = rw (threads, extents) (threads_in p new d.pinned s k more) in
    knows_by p new d.pinned z (live_by p d n m region x (kinds.Access a) k)
    (subst (λ (ks : List SymbolicThread). KnowsThreads new d.pinned z.threads.items z.extents.items ks) (sym same) of_threads)
    (λ b.
    ap (λ (o : Op). bytes_stored p known n a (registers_of k t) o k.bytes b) e
    ∙ ap (λ (rs : List Symbolic). bytes_stored p known n a rs (op.Store w v at) k.bytes b) (sym (registers_in p old d.pinned s k t h))
    ∙ ap (λ (f : ℕ → Symbolic). bytes_stored p known n a (registers_by old (symbolic_nodes_in s t)) (op.Store w v at) f b) (bytes_in p old d.pinned s k h)
    ∙ sym (bytes b))
    (more.words ∙ ap (registers_by new) (sym words))

-- ---- an event

pub event_is : (p : NumberedProgram) (d : Taken) (n : ℕ) (m : Moment) (region : Option FreeRegion) (x : Instr) (e : Event) (k : SymbolicState) (t : ℕ) (argument : Symbolic) → thread_in m ≡ t
    → argument ≡ slice_index_or k.words t unset →
    (let s : SymbolicState = record {
      threads = threads_after p e e.kind (on_thread (after_event p m e e.kind argument x) t k.threads);
      bytes = bytes_by e e.write k.words k.bytes;
      words = words_after p t e.kind (registers_of k t) x.op k.words;
    } in s) ≡ live_by p d n m region x (kinds.Event e) k
event_is p d n m region x e k t argument h a =
    ap (λ (y : Symbolic). let s : SymbolicState = record {
      threads = threads_after p e e.kind (on_thread (after_event p m e e.kind y x) t k.threads);
      bytes = bytes_by e e.write k.words k.bytes;
      words = words_after p t e.kind (registers_of k t) x.op k.words;
    } in s) a
    ∙ ap (λ (u : ℕ). let s : SymbolicState = record {
      threads = threads_after p e e.kind (on_thread (after_event p m e e.kind (slice_index_or k.words u unset) x) u k.threads);
      bytes = bytes_by e e.write k.words k.bytes;
      words = words_after p u e.kind (registers_of k u) x.op k.words;
    } in s) (sym h)

-- ---- a step that is neither an access nor an event

edge_at : (p : NumberedProgram) (m : Moment) (kind : StepKind) → is_op kind ≡ true → edge_of p m kind ≡ edge_in p m (instr_in p m)
edge_at p m (kinds.Event e) h = absurd cc
edge_at p m kind h = refl

pub step_at : (p : NumberedProgram) (regions : Regions) (m : Moment) (x : Instr) (s : OpStep) (sets : List Bool) (kind : StepKind) → is_op kind ≡ true → m.did.did.kind ≡ kind
    → instr_in p m ≡ Some x →
    (s.freed ≡ is_some (landmark_of p regions m).region) × (s.edge ≡ (landmark_of p regions m).edge) × (s.target ≡ (landmark_of p regions m).target) →
    IfSome (landmark_of p regions m).region (λ (f : FreeRegion). (r : ℕ) → f.sets r ≡ in_table sets r) → IsStepAt p x s sets m (region_of p regions m (Some x))
step_at p regions m x s sets kind is k i same marks = record {
  edge = ap (edge_in p m) (sym i) ∙ sym (edge_at p m kind is) ∙ ap (edge_of p m) (sym k) ∙ sym same.1;
  target = sym same.2;
  freed = ap (λ (o : Option Instr). is_some (region_of p regions m o)) (sym i) ∙ sym same.0;
  marks = subst (λ (o : Option Instr). IfSome (region_of p regions m o) (λ (f : FreeRegion). (r : ℕ) → f.sets r ≡ marked sets r)) i marks;
}

-- from what the code has of the step
pub op_known : (p : NumberedProgram) (ns : NodeList) (z : SymbolicRun) (d : Taken) (n : ℕ) (m : Moment) (region : Option FreeRegion) (x : Instr) (kind : StepKind) (k : SymbolicState) (s : OpStep)
    (t : ℕ) → is_op kind ≡ true →
    s.number ≡ n → s.pinned ≡ d.pinned n → s.word ≡ result_in kind → thread_in m ≡ t →
    KnowsThreads ns d.pinned z.threads.items z.extents.items (on_thread (after_op p s.pinned s.number m region s.word x x.op) t k.threads) →
    ((b : ℕ) → bytes_freed s.pinned n region k.bytes b ≡ symbolics_of p ns z.memory b) → k.words ≡ registers_by ns z.words.items → Knows p ns d.pinned z (live_by p d n m region x kind k)
op_known p ns z d n m region x kind k s t i number pinned word u threads bytes words =
    let same : (pin : Bool) → s.pinned ≡ pin → (v : ℕ) → s.word ≡ v
    → on_thread (after_op p s.pinned s.number m region s.word x x.op) t k.threads ≡ on_thread (after_op p pin n m region v x x.op) (thread_in m) k.threads = λ pin e v f.
    ap (λ (y : Bool). on_thread (after_op p y s.number m region s.word x x.op) t k.threads) e
    ∙ ap (λ (y : ℕ). on_thread (after_op p pin y m region s.word x x.op) t k.threads) number
    ∙ ap (λ (y : ℕ). on_thread (after_op p pin n m region y x x.op) t k.threads) f
    ∙ ap (λ (y : ℕ). on_thread (after_op p pin n m region v x x.op) y k.threads) (sym u) in
    by_kind p ns z d n m region x kind k i
    (subst (λ (ks : List SymbolicThread). KnowsThreads ns d.pinned z.threads.items z.extents.items ks) (same (d.pinned n) pinned (result_in kind) word) threads)
    (λ b. ap (λ (y : Bool). bytes_freed y n region k.bytes b) (sym pinned) ∙ bytes b) words
  where
    by_kind : (p : NumberedProgram) (ns : NodeList) (z : SymbolicRun) (d : Taken) (n : ℕ) (m : Moment) (region : Option FreeRegion) (x : Instr) (kind : StepKind) (k : SymbolicState)
        → is_op kind ≡ true →
        KnowsThreads ns d.pinned z.threads.items z.extents.items (on_thread (after_op p (d.pinned n) n m region (result_in kind) x x.op) (thread_in m) k.threads) →
        ((b : ℕ) → bytes_freed (d.pinned n) n region k.bytes b ≡ symbolics_of p ns z.memory b) → k.words ≡ registers_by ns z.words.items
        → Knows p ns d.pinned z (live_by p d n m region x kind k)
    by_kind p ns z d n m region x (kinds.Access a) k i t b w = absurd cc
    by_kind p ns z d n m region x (kinds.Event e) k i t b w = absurd cc
    by_kind p ns z d n m region x kind k i t b w = knows_by p ns d.pinned z (live_by p d n m region x kind k) t b w

get_there : {A : Type 0} (xs : List A) (n : ℕ) → n < length xs → slice_get xs n ≡ None → ⊥
get_there [] n h e = absurd (omega arith)
get_there (x ∷ xs) zero h e = absurd cc
get_there (x ∷ xs) (suc n) h e = get_there xs n (omega arith) e

-- the edge of a step is a block
pub edge_stands : (r : ReferenceRun) (n count : ℕ) (s : OpStep) → n < step_count r →
    IfSome (landmark_at r n) (λ (l : Landmark). (s.freed ≡ is_some l.region) × (s.edge ≡ l.edge) × (s.target ≡ l.target))
    → IfSome (landmark_at r n) (λ (l : Landmark). IfSome l.edge (λ b. b < count)) →
    IfSome s.edge (λ b. b < count)
edge_stands r n count s h same block = of_row (slice_get r.rows.items n) (get_there r.rows.items n h) same block
  where
    of_row : (o : Option Row) → (o ≡ None → ⊥) → IfSome (option_map (landmark_in r.ats.items r.regions.items) o)
        (λ (l : Landmark). (s.freed ≡ is_some l.region) × (s.edge ≡ l.edge) × (s.target ≡ l.target)) →
        IfSome (option_map (landmark_in r.ats.items r.regions.items) o) (λ (l : Landmark). IfSome l.edge (λ b. b < count)) → IfSome s.edge (λ b. b < count)
    of_row None there same block = absurd (there refl)
    of_row (Some row) there same block = subst (λ (e : Option ℕ). IfSome e (λ b. b < count)) (sym same.1) block

-- ---- the step

pub live_is : (p : NumberedProgram) (d : Taken) (n : ℕ) (m : Moment) (region : Option FreeRegion) (x : Instr) (kind : StepKind) (k : SymbolicState) → instr_in p m ≡ Some x
    → m.did.did.kind ≡ kind →
    live_by p d n m region x kind k ≡ live_after p d n m region (instr_in p m) k
live_is p d n m region x kind k i e = ap (λ (y : StepKind). live_by p d n m region x y k) (sym e) ∙ ap (λ (o : Option Instr). live_after p d n m region o k) (sym i)

by_extents : (p : NumberedProgram) (d : Taken) (n : ℕ) (m : Moment) (region : Option FreeRegion) (x : Instr) (kind : StepKind) (k : SymbolicState) (t : ℕ)
    → (thread_of (live_by p d n m region x kind k) t).extents ≡ (thread_of k t).extents
by_extents p d n m region x (kinds.Access a) k t = same_extents (with_top (after_access p (d.exact n) n a k.bytes x x.op)) (thread_in m) k.threads t
by_extents p d n m region x (kinds.Event e) k t = same_after p e e.kind (on_thread (after_event p m e e.kind (slice_index_or k.words (thread_in m) unset) x) (thread_in m) k.threads) t
    ∙ same_extents (after_event p m e e.kind (slice_index_or k.words (thread_in m) unset) x) (thread_in m) k.threads t
by_extents p d n m region x kind k t = same_extents (after_op p (d.pinned n) n m region (result_in kind) x x.op) (thread_in m) k.threads t

live_extents : (p : NumberedProgram) (d : Taken) (n : ℕ) (m : Moment) (region : Option FreeRegion) (o : Option Instr) (k : SymbolicState) (t : ℕ)
    → (thread_of (live_after p d n m region o k) t).extents ≡ (thread_of k t).extents
live_extents p d n m region None k t = refl
live_extents p d n m region (Some x) k t = by_extents p d n m region x m.did.did.kind k t

-- what is known after a step as far as it is live
abbrev pub live_if : NumberedProgram → Regions → Taken → ℕ → Moment → SymbolicState → Bool → SymbolicState
live_if p regions d n m k b = if b then live_after p d n m (region_of p regions m (instr_in p m)) (instr_in p m) k else k

if_extents : (p : NumberedProgram) (regions : Regions) (d : Taken) (n : ℕ) (m : Moment) (k : SymbolicState) (b : Bool) (t : ℕ)
    → (thread_of (live_if p regions d n m k b) t).extents ≡ (thread_of k t).extents
if_extents p regions d n m k true t = live_extents p d n m (region_of p regions m (instr_in p m)) (instr_in p m) k t
if_extents p regions d n m k false t = refl

-- and after it
abbrev pub passed_from : ℕ → Moment → Option FreeRegion → Option ℕ → SymbolicState → SymbolicState
passed_from n m region edge z = record z { threads = with_extents (thread_in m) (open_after n (length m.calls) region edge (thread_of z (thread_in m)).extents) z.threads }

pub step_is : (R : Reference) (p : NumberedProgram) (d : Taken) (n : ℕ) (m : Moment) (k : SymbolicState) → R.program ≡ p →
    passed_from n m (landmark_of p R.regions m).region (landmark_of p R.regions m).edge (live_if p R.regions d n m k (is_live d.pinned (thread_of k (thread_in m)).extents)) ≡ after_step R d n m k
step_is R p d n m k e =
    let t = thread_in m in
    let region = region_of p R.regions m (instr_in p m) in
    let edge = edge_of p m m.did.did.kind in
    let z = live_if p R.regions d n m k (is_live d.pinned (thread_of k t).extents) in
    ap (λ es. let s : SymbolicState = record z { threads = with_extents t (open_after n (length m.calls) region edge es) z.threads } in s)
    (if_extents p R.regions d n m k (is_live d.pinned (thread_of k t).extents) t)
    ∙ sym (ap (λ (q : NumberedProgram). let S : Reference = record { program = q; regions = R.regions; moments = R.moments } in after_step S d n m k) e)

-- ---- extents that are left open

pub passed_known : (p : NumberedProgram) (ns : NodeList) (pinned : ℕ → Bool) (s z : SymbolicRun) (k : SymbolicState) (t n : ℕ) (l : Landmark) (depth : ℕ) (edge free : Option ℕ)
    → Knows p ns pinned s k →
    depth ≡ l.depth → edge ≡ l.edge → free ≡ left_free (pinned n) l.region → z.threads.items ≡ s.threads.items → z.memory ≡ s.memory → z.words.items ≡ s.words.items →
    ((pinned : ℕ → Bool) (n : ℕ) (region : Option FreeRegion) (ks : List SymbolicThread) → free ≡ left_free (pinned n) region → EachOpen pinned (extents_in ks) s.extents.items →
    EachOpen pinned (extents_in (with_extents t (open_after n depth region edge (slice_index_or ks t no_thread).extents) ks)) z.extents.items) →
    Knows p ns pinned z (record k { threads = with_extents t (open_after n l.depth l.region l.edge (thread_of k t).extents) k.threads })
passed_known p ns pinned s z k t n l depth edge free h d e f threads memory words opens =
    let es = open_after n l.depth l.region l.edge (thread_of k t).extents in
    let left : EachOpen pinned (extents_in (with_extents t es k.threads)) z.extents.items =
    subst (λ (x : ℕ). EachOpen pinned (extents_in (with_extents t (open_after n x l.region l.edge (thread_of k t).extents) k.threads)) z.extents.items) d
    (subst (λ (x : Option ℕ). EachOpen pinned (extents_in (with_extents t (open_after n depth l.region x (thread_of k t).extents) k.threads)) z.extents.items) e
    (opens pinned n l.region k.threads f h.extents)) in
    knows_by p ns pinned z (record k { threads = with_extents t es k.threads })
    (record {
      calls = rw threads (extents_change ns s.threads.items t es k.threads h.threads);
      as_many = rw threads (set_length k.threads t _ ∙ h.as_many);
      extents = left;
    })
    (λ b. h.bytes b ∙ ap (λ cs. symbolics_of p ns cs b) (sym memory))
    (h.words ∙ ap (registers_by ns) (sym words))
