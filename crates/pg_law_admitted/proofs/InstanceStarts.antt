-- Where a unit that is a branch step left free is alike, its thread begins an instance of the recorded region.
use Rattle.std.proofs.Common.{◌≡◌, ℕ, ℤ, zero, suc, ◌-◌, ◌⊎◌, Bool, true, false, List, [], ◌∷◌, ◌++◌, Option, Some, None, refl, sym, ap, ◌∙◌, subst, inl, inr}
use Rattle.std.specs.Prelude.{Contains, nat_lt, is_some, slice_get, slice_index, slice_index_or, if◌then◌else◌}
use Rattle.std.specs.List.{AllByRecursion as AllOf}
use Rattle.std.proofs.lemmas.Bool.{true≢false}
use Rattle.pg_num.specs.Places.{ByteRange}
use Rattle.pg_num.specs.declared.layout.TheConstants.{MEMORY_BYTES}
use Rattle.pg_ir.specs.declared.ids.InstrId.{InstrId}
use Rattle.pg_ir.specs.declared.instr.Instr.{Instr}
use Rattle.pg_ir.specs.declared.instr.Op.{Op}
use Rattle.pg_ir.specs.declared.instr.Op.TheVariants as op
use Rattle.pg_ir.specs.declared.library_call.LibraryCall.{LibraryCall}
use Rattle.pg_ir.specs.declared.library_call.LibraryCall.TheVariants as known
use Rattle.pg_ir.specs.Program.{NumberedProgram, function_of}
use Rattle.pg_ir.specs.WellFormed.{IsProgram}
use Rattle.pg_run_memory.specs.Bytes.{number_of}
use Rattle.pg_run_memory.specs.Memory.{byte_at, read}
use Rattle.pg_region_paths.specs.declared.path.Root.{Root}
use Rattle.pg_region_paths.specs.declared.path.Root.TheVariants as root
use Rattle.pg_region_paths.specs.FollowedPaths.{root_value}
use Rattle.pg_region_paths.specs.Paths.{offsets_of}
use Rattle.pg_region_accesses.specs.declared.rooted.Rooted.{Rooted}
use Rattle.pg_region_accesses.specs.Accesses.{RootedList}
use Rattle.pg_region_paths.proofs.Elements.{cases, none_in}
use Rattle.pg_region_summaries.specs.Summaries.{AreSummaries}
use Rattle.pg_run_thread.specs.declared.action.Action.{Action}
use Rattle.pg_run_thread.specs.declared.action.Action.TheVariants as actions
use Rattle.pg_run_thread.specs.LocalState.{LocalState}
use Rattle.pg_run_thread.specs.States.{StandsAt}
use Rattle.pg_run_trace.specs.declared.step.Step.{Step}
use Rattle.pg_run_trace.specs.declared.step.StepKind.{StepKind}
use Rattle.pg_run_trace.specs.declared.step.StepKind.TheVariants as kinds
use Rattle.pg_run_trace.specs.Races.{is_in}
use Rattle.pg_run_trace.specs.Steps.{happening_in}
use Rattle.pg_run.specs.MachineStep.{is_gated, kind_told, library_told, instr_told, number_in, op_told, operands_in, step_told}
use Rattle.pg_run.specs.State.{State, instr_of, next_of}
use Rattle.pg_law_effects.specs.Effect.{answer_to}
use Rattle.pg_law_effects.specs.Reached.{IsReached}
use Rattle.pg_law_effects.specs.Views.{cell_at, is_thread, local_at}
use Rattle.pg_slice_rules.specs.Freeable.{FreeAccess, FreeRegion, region_at}
use Rattle.pg_slice_rules.specs.Known.{Taken, is_branch, region_of, thread_of, top_of}
use Rattle.pg_slice_rules.specs.Moments.{instr_in, number_in as moment_number, registers_in, thread_in}
use Rattle.pg_slice_rules.specs.Rules.{all_of, bounds_needs, free_access_needs, kind_in, region_needs_in, registers_before, root_symbolic, access_needs_in, access_needs_by}
use Rattle.pg_slice_rules.specs.SymbolicValues.{Symbolic, always, unset}
use Rattle.pg_law_instances.specs.Free.{instance_of}
use Rattle.pg_law_instances.specs.Inside.{IsAtBranch, IsBranch, registers_by}
use Rattle.pg_law_instances.specs.Leads.{Leads}
use Rattle.pg_law_instances.proofs.FreeableSteps.{apart_at, at_branch, followed_at}
use Rattle.pg_law_instances.proofs.FreeRegions.{Freed, freed}
use Rattle.pg_law_instances.proofs.JoinLeadsOut.{frames_of}
use Rattle.pg_law_instances.proofs.PathsOfValues.{follows_root, root_follows}
use Rattle.pg_law_instances.specs.pg_slice_replay.OfRegions.{AreRegions}
use Rattle.pg_law_plan.specs.pg_law_runs.Deeds.{local_event}
use Rattle.pg_law_plan.proofs.of_pg_law_runs.DeedDependence.{event_seen, some_turn}
use Rattle.pg_law_plan.specs.Likes.{AreLike, IsCellLike, IsLike, StandLike}
use Rattle.pg_law_plan.proofs.LikeOperands.{valued_like}
use Rattle.pg_law_plan.specs.Units.{PlanUnit, ReferenceRun, cell_known, is_event_at, is_instance, reads_byte, reads_cell, reference_of, standing_of, word_read}
use Rattle.pg_law_plan.proofs.EachUnit.{IsUnit}
use Rattle.pg_law_plan.proofs.FreeBranchEffects.{IsFree, is_free}
use Rattle.pg_law_plan.proofs.StepChecks.{Holds, IsGood}
use Rattle.pg_law_plan.proofs.ThreadAtInstruction.{instr_here, running, told_is}
use Rattle.pg_law_plan.proofs.AlikeThreads.{Beginning, Both, opened}
use Rattle.pg_law_admitted.specs.Free.{BeginsInstance, accesses_of}
use Rattle.pg_law_admitted.proofs.RegionPaths.{follow, root_there}

-- ---- a step that tells a branch is one

known_no : (ns : List ℕ) (n c : ℕ) (k : LibraryCall) → library_told ns n k ≡ kinds.Branch c → ⊥
known_no ns n c known.Malloc e = absurd cc
known_no ns n c k e = absurd cc

branch_op : (ns : List ℕ) (n c : ℕ) (o : Op) → op_told ns n o ≡ kinds.Branch c → IsBranch o
branch_op ns n c (op.CondBr v a b) e = tt
branch_op ns n c (op.Switch w on other cs) e = tt
branch_op ns n c (op.Alloca b) e = absurd cc
branch_op ns n c (op.CallLibrary k args) e = absurd (known_no ns n c k e)
branch_op ns n c o e = absurd cc

pub branch_told : (gated : List InstrId) (p : NumberedProgram) (s : State) (t : ℕ) (ns : List ℕ) (a n c : ℕ) (x : Instr) (action : Action) → slice_get p.instrs (instr_of s t) ≡ Some x
    → kind_told gated p s t ns a n action ≡ kinds.Branch c → IsBranch x.op
branch_told gated p s t ns a n c x actions.Local i e = branch_op ns n c x.op (sym (ap (instr_told ns n) i) ∙ e)
branch_told gated p s t ns a n c x (actions.In k) i e = absurd cc
branch_told gated p s t ns a n c x actions.InLen i e = absurd cc
branch_told gated p s t ns a n c x (actions.Load q) i e = absurd cc
branch_told gated p s t ns a n c x (actions.Store q m) i e = absurd cc
branch_told gated p s t ns a n c x (actions.Event q) i e = absurd cc
branch_told gated p s t ns a n c x (actions.Trap name) i e = absurd cc
branch_told gated p s t ns a n c x actions.Ended i e = absurd cc

-- ---- the roots of paths

register_like : (input : List ℤ) (ss : List Symbolic) (vs : List (Option ℕ)) (k : ℕ) → AreLike input ss vs → IsLike input (slice_index_or ss k unset) (registers_by vs k)
register_like input [] [] k h = valued_like input (λ i. None) None refl
register_like input [] (v ∷ vs) k h = absurd h
register_like input (s ∷ ss) [] k h = absurd h
register_like input (s ∷ ss) (v ∷ vs) zero h = h.0
register_like input (s ∷ ss) (v ∷ vs) (suc k) h = register_like input ss vs k h.1

root_like : (input : List ℤ) (p : NumberedProgram) (ss : List Symbolic) (vs : List (Option ℕ)) (g : Root) → AreLike input ss vs
    → IsLike input (root_symbolic p ss g) (root_value p (registers_by vs) g)
root_like input p ss vs (root.Register k) h = register_like input ss vs k h
root_like input p ss vs (root.Global k) h = valued_like input (λ i. root_value p (λ j. None) (root.Global k)) (root_value p (registers_by vs) (root.Global k)) refl
root_like input p ss vs (root.Const k) h = valued_like input (λ i. root_value p (λ j. None) (root.Const k)) (root_value p (registers_by vs) (root.Const k)) refl
root_like input p ss vs (root.Param k) h = valued_like input (λ i. None) None refl

-- ---- what is asked of each access

split_all : {A : Type 0} (P : A → Type 0) (xs ys : List A) → AllOf P (xs ++ ys) → AllOf P xs × AllOf P ys
split_all P [] ys h = (tt, h)
split_all P (x ∷ xs) ys h = let k = split_all P xs ys h.1 in ((h.0, k.0), k.1)

asked_of : {A B : Type 0} (P : B → Type 0) (f : A → List B) (xs : List A) (x : A) → AllOf P (all_of f xs) → Contains xs x → AllOf P (f x)
asked_of P f [] x h c = absurd (none_in x c)
asked_of P f (y ∷ xs) x h c = go (split_all P (f y) (all_of f xs) h) (cases y xs x c) (λ k d. asked_of P f xs x k d)
  where
    go : AllOf P (f y) × AllOf P (all_of f xs) → (y ≡ x) ⊎ Contains xs x → (AllOf P (all_of f xs) → Contains xs x → AllOf P (f x)) → AllOf P (f x)
    go k (inl e) more = subst (λ z. AllOf P (f z)) e k.0
    go k (inr d) more = more k.1 d

read_is : (s : State) (c : ByteRange) → read s.memory c ≡ number_of (byte_at s.memory) c.start c.bytes
unfolding read
read_is s c = refl

pub in_function : (p : NumberedProgram) (f : ℕ) (o : Option Instr) (x : Instr) → o ≡ Some x → StandsAt p f o → function_of p x.block.0 ≡ f
in_function p f None x e h = absurd h
in_function p f (Some y) x e h = let q : y ≡ x = cc in subst (λ (z : Instr). function_of p z.block.0 ≡ f) q h.0

-- ---- a unit whose branch step is left free

module _ (r : ReferenceRun) (d : Taken) (input : List ℤ) (u : PlanUnit) (unit : IsUnit r d u) (free_here : is_instance d u.seen ≡ true)
    (st : State) (reached : IsReached r.program st) (stands : StandLike input (standing_of (local_at u.state (thread_in u.seen.moment)) (thread_of u.seen.before (thread_in u.seen.moment)).calls)
    (local_at st (thread_in u.seen.moment))) where
  abbrev p : NumberedProgram
  p = r.program

  abbrev t : ℕ
  t = thread_in u.seen.moment

  abbrev G : ℕ → Bool
  G i = is_gated r.gated i

  abbrev pub step_free : IsFree r.program d u.seen
  step_free = is_free (reference_of r) d u.seen unit.met.region free_here

  pub not_event : is_event_at u.seen ≡ false
  not_event = ap (λ (k : StepKind). is_some (happening_in k)) step_free.kind

  pub both : Both r.program input (thread_in u.seen.moment) u.state st (thread_of u.seen.before (thread_in u.seen.moment)).calls
  both = go (opened r.gated r.program r.input input u.state st u.seen.moment.did.did (thread_of u.seen.before (thread_in u.seen.moment)).calls unit.met.reached unit.met.takes reached stands)
    where
      none_of : (l : Option LocalState) → StandLike input (standing_of l (thread_of u.seen.before (thread_in u.seen.moment)).calls) None → l ≡ None
      none_of None k = refl
      none_of (Some l) k = absurd k

      event0 : is_event_at u.seen ≡ local_event r.gated r.program (local_at u.state (thread_in u.seen.moment))
      event0 = sym (some_turn u.seen.moment.did.did (happening_in u.seen.moment.did.did.kind)) ∙ event_seen r.gated r.program r.input u.state u.seen.moment.did.did unit.met.reached unit.met.takes

      go : Both r.program input (thread_in u.seen.moment) u.state st (thread_of u.seen.before (thread_in u.seen.moment)).calls ⊎ Beginning r.program (thread_in u.seen.moment) u.state st →
          Both r.program input (thread_in u.seen.moment) u.state st (thread_of u.seen.before (thread_in u.seen.moment)).calls
      go (inl b) = b
      go (inr b) =
          let none0 : local_at u.state (thread_in u.seen.moment) ≡ None =
          none_of (local_at u.state (thread_in u.seen.moment))
          (subst (StandLike input (standing_of (local_at u.state (thread_in u.seen.moment)) (thread_of u.seen.before (thread_in u.seen.moment)).calls)) b.none stands) in
          let event : is_event_at u.seen ≡ true = event0 ∙ ap (local_event r.gated r.program) none0 in
          absurd (true≢false (sym event ∙ not_event))

  pub told0 : u.seen.moment.did.did ≡ step_told r.gated r.program u.state (thread_in u.seen.moment)
      (answer_to r.input u.state (thread_in u.seen.moment) (next_of r.program u.state (thread_in u.seen.moment)))
  told0 = told_is r.gated r.program r.input u.state unit.met.takes.after (thread_in u.seen.moment) u.seen.moment.did.did unit.met.takes.is_step

  pub place0 : instr_of u.state (thread_in u.seen.moment) ≡ both.f0.place
  place0 = instr_here r.program u.state (thread_in u.seen.moment) both.h both.f0 both.fs0 both.n both.x both.here0

  pub instr_is : instr_in r.program u.seen.moment ≡ Some both.x
  instr_is = ap (λ (z : Step). slice_get r.program.instrs z.instr.0) told0 ∙ ap (slice_get r.program.instrs) place0 ∙ both.here0.instr

  pub is_branching : IsBranch both.x.op
  is_branching =
      let o = slice_get u.state.locals (thread_in u.seen.moment) in
      let a = answer_to r.input u.state (thread_in u.seen.moment) (next_of r.program u.state (thread_in u.seen.moment)) in
      branch_told r.gated r.program u.state (thread_in u.seen.moment) (operands_in r.program o) a (number_in r.program o a) step_free.number both.x
      (next_of r.program u.state (thread_in u.seen.moment))
      (ap (slice_get r.program.instrs) place0 ∙ both.here0.instr) (sym (ap (λ (z : Step). z.kind) told0) ∙ step_free.kind)

  module _ (program : IsProgram r.program) (sums : ℕ → Option RootedList) (are : AreRegions r.program (λ i. is_gated r.gated i) sums r.regions)
      (summaries : AreSummaries r.program (λ i. is_gated r.gated i) sums) (good : IsGood (reference_of r) d input u.seen)
      (paths : (a : FreeAccess) → Contains (accesses_of u.seen.region) a → (c : ByteRange) → Contains a.at.cells c → (b : ℕ) → is_in c b ≡ true → reads_cell d u.seen b ≡ true)
      (cells : (c : ℕ) → reads_cell d u.seen c ≡ true → IsCellLike input (cell_known u.seen.before c) (cell_at st c)) where
    region_is : region_at r.program u.seen.moment (r.regions both.x.block.0) ≡ Some step_free.free
    region_is =
        sym (ap (λ (k : StepKind). if is_branch k then region_at r.program u.seen.moment (r.regions both.x.block.0) else None) step_free.kind)
        ∙ sym (ap (region_of r.program r.regions u.seen.moment) instr_is) ∙ sym unit.met.region ∙ step_free.region

    pub freed_here : Freed r.program (λ i. is_gated r.gated i) sums are.found u.seen.moment both.x.block.0 step_free.free
    freed_here = freed r.program (λ i. is_gated r.gated i) sums r.regions are u.seen.moment both.x.block.0 step_free.free region_is

    needs_are : bounds_needs (reference_of r) u.seen ≡ all_of (free_access_needs r.program u.seen) step_free.free.accesses
    needs_are =
        ap (λ (i : Option Instr). access_needs_in r.program u.seen i ++ (if u.seen.live then region_needs_in r.program u.seen u.seen.region else [])) instr_is
        ∙ ap (λ (b : Bool). (if b then access_needs_by r.program u.seen both.x (kind_in u.seen) else []) ++ (if b then region_needs_in r.program u.seen u.seen.region else [])) unit.live
        ∙ ap (λ (k : StepKind). access_needs_by r.program u.seen both.x k ++ region_needs_in r.program u.seen u.seen.region) step_free.kind
        ∙ ap (region_needs_in r.program u.seen) step_free.region

    needs_of : (a : FreeAccess) → Contains step_free.free.accesses a → AllOf (Holds input) (free_access_needs r.program u.seen a)
    needs_of a c = asked_of (Holds input) (free_access_needs r.program u.seen) step_free.free.accesses a (subst (AllOf (Holds input)) needs_are good.bounds) c

    -- a byte that is read is alike
    byte_like : (b : ℕ) → reads_cell d u.seen b ≡ true → IsCellLike input (u.seen.before.bytes b) (byte_at st.memory b)
    byte_like b k = go (nat_lt b MEMORY_BYTES) refl
      where
        no_word : is_thread (word_read (thread_in u.seen.moment) (kind_in u.seen)) (b - MEMORY_BYTES) ≡ false
        no_word = ap (λ (z : StepKind). is_thread (word_read (thread_in u.seen.moment) z) (b - MEMORY_BYTES)) step_free.kind

        go : (x : Bool) → nat_lt b MEMORY_BYTES ≡ x → IsCellLike input (u.seen.before.bytes b) (byte_at st.memory b)
        go true e =
            subst (λ (n : ℕ). IsCellLike input (u.seen.before.bytes b) n) (ap (λ (x : Bool). if x then byte_at st.memory b else slice_index st.words (b - MEMORY_BYTES)) e)
            (subst (λ (s : Symbolic). IsCellLike input s (cell_at st b))
            (ap (λ (x : Bool). if x then u.seen.before.bytes b else slice_index_or u.seen.before.words (b - MEMORY_BYTES) (always 0)) e) (cells b k))
        go false e = absurd (true≢false (sym k ∙ ap (λ (x : Bool). if x then reads_byte d u.seen b else is_thread (word_read (thread_in u.seen.moment) (kind_in u.seen)) (b - MEMORY_BYTES)) e
            ∙ no_word))

    -- each access leads where it was recorded to lead
    leads : (a : Rooted) → Contains freed_here.region.accesses.items a → Leads r.program (registers_by both.f.registers) (read st.memory) step_free.free.accesses a
    leads a c =
        let m = u.seen.moment in
        let ks = offsets_of a.path.loads in
        let s = root_symbolic r.program (registers_before u.seen) a.path.root in
        let v = root_value r.program (registers_by both.f.registers) a.path.root in
        let g = followed_at r.program m freed_here.region.accesses.items step_free.free.accesses a freed_here.accesses c in
        let fa : FreeAccess = record { writes = a.writes; path = a.path; at = g.0 } in
        let rt = follows_root (moment_number m) ks (root_value r.program (registers_by (registers_in m.calls)) a.path.root) g.0 g.1 in
        let needs = needs_of fa g.2 in
        let like : IsLike input s v = subst (λ (ss : List Symbolic). IsLike input (root_symbolic r.program ss a.path.root) v) (sym (ap top_of both.calls))
        (root_like input r.program both.ks both.f.registers a.path.root both.top.registers) in
        let w = root_there input u.seen.before.bytes (byte_at st.memory) (moment_number m) (read st.memory) (read_is st) ks s v rt.0 g.0 rt.2 like needs in
        let k = follow input u.seen.before.bytes (byte_at st.memory) (moment_number m) (read st.memory) (read_is st) ks s rt.0 w.0 g.0 rt.2 (subst (IsLike input s) w.1 like) needs
        (λ e i b j. byte_like b (paths fa (subst (λ (o : Option FreeRegion). Contains (accesses_of o) fa) (sym step_free.region) g.2) e i b j)) in
        record {
          at = k.at;
          is = root_follows (read st.memory) ks v w.0 w.1 ∙ k.is;
          loads = λ x i. let q = k.pointers x i in record { access = fa; among = g.2; pointer = q.0; loads = q.1; same = sym q.2 };
          last = record { access = fa; among = g.2; kind = refl; same = sym k.last };
        }

    at_the_branch : IsAtBranch (instance_of r.program (λ i. is_gated r.gated i) sums freed_here.region step_free.free st
        (running (thread_in u.seen.moment) both.h both.f both.fs both.n) both.f both.fs)
    at_the_branch =
        let l = running (thread_in u.seen.moment) both.h both.f both.fs both.n in
        let of = frames_of r.program st (thread_in u.seen.moment) l reached both.here.local in
        at_branch r.program (λ i. is_gated r.gated i) sums freed_here.region step_free.free st l both.f both.fs both.x program summaries refl refl both.here.instr is_branching
        (in_function r.program both.f.function (slice_get r.program.instrs both.f.place) both.x both.here.instr of.0.place)
        (program.instrs both.f.place both.x both.here.instr).block freed_here.is_region.join leads (apart_at step_free.free.accesses freed_here.apart)

    pub begins : BeginsInstance r sums u st
    begins = record {
      region = freed_here.region;
      free = step_free.free;
      local = running (thread_in u.seen.moment) both.h both.f both.fs both.n;
      frame = both.f;
      lower = both.fs;
      is_region = step_free.region;
      is_local = both.here.local;
      frames = refl;
      join = freed_here.join;
      sets = freed_here.sets;
      can = record { branch = at_the_branch; gates = λ i. refl; is_local = both.here.local; within = inl refl; cells = record { kept = λ frame c a b e f. refl } };
    }
