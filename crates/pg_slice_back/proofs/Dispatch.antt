-- Back over a live step, by its kind and its operation.
use Rattle.std.proofs.Common.{◌≡◌, ℕ, suc, ◌-◌, ◌<◌, Bool, true, false, List, [], ◌∷◌, ◌++◌, length, Option, Some, None, refl, sym, ap, ◌∙◌, subst, inl, inr, ◌⊎◌}
use Rattle.std.specs.Prelude.{◌||◌, ◌&&◌, not, slice_get, option_map, IfSome, if◌then◌else◌}
use Rattle.std.specs.List.{AllByRecursion}
use Rattle.std.proofs.lemmas.Bool.{true≢false}
use Rattle.pg_num.specs.declared.width.Width.{Width}
use Rattle.pg_ir.specs.declared.value.Value.{Value}
use Rattle.pg_ir.specs.declared.instr.Instr.{Instr}
use Rattle.pg_ir.specs.declared.instr.Op.{Op}
use Rattle.pg_ir.specs.declared.instr.Op.TheVariants as op
use Rattle.pg_ir.specs.Program.{NumberedProgram}
use Rattle.pg_run_trace.specs.declared.step.Step.{Step}
use Rattle.pg_run_trace.specs.declared.step.StepKind.{StepKind}
use Rattle.pg_run_trace.specs.declared.step.StepKind.TheVariants as kinds
use Rattle.pg_run_trace.specs.declared.step.Access.{Access}
use Rattle.pg_run_trace.specs.declared.step.Event.{Event}
use Rattle.pg_run_trace.specs.Steps.{range_of}
use Rattle.pg_slice_rules.specs.declared.decision.Decision.{Decision}
use Rattle.pg_slice_rules.specs.declared.decision.Decision.TheVariants.{Pinned}
use Rattle.pg_slice_rules.specs.Closed.{AreWithin}
use Rattle.pg_slice_rules.specs.Moments.{Moment, instr_in}
use Rattle.pg_slice_rules.specs.Freeable.{FreeRegion, bounds_of}
use Rattle.pg_slice_rules.specs.SymbolicValues.{is_within}
use Rattle.pg_slice_rules.specs.Extents.{edge_in}
use Rattle.pg_slice_rules.specs.Known.{Reference, SymbolicState, Seen, Taken, caller_target, has, is_branch}
use Rattle.pg_slice_rules.specs.Rules.{has_region}
use Rattle.pg_law_least.specs.Keeps.{is_branching, may_write}
use Rattle.pg_law_least.proofs.LikeValues.{Likes}
use Rattle.pg_law_least.specs.Keeps.{every}
use Rattle.pg_slice_passes.specs.pg_slice_replay.declared.run.ReferenceRun.{ReferenceRun}
use Rattle.pg_slice_passes.specs.pg_slice_replay.Kept.{landmark_at}
use Rattle.pg_slice_passes.specs.pg_slice_replay.Landmarks.{Landmark, landmark_of}
use Rattle.pg_slice_passes.specs.Given.{is_op}
use Rattle.pg_law_demands.specs.Cells.{IsMet}
use Rattle.pg_law_demands.specs.Back.{back_branch, back_edge, back_freed, back_op, byte_demand, fixing, is_target, of_bytes, of_operand, of_optional, of_value, only, register_demand}
use Rattle.pg_law_demands.specs.Demands.{instr_demands, kind_demands, region_demands, step_pins}
use Rattle.pg_law_demands.proofs.StepBack.{live_before, seen_with}
use Rattle.pg_law_demands.proofs.OwnDemands.{pins_own, step_own}
use Rattle.pg_law_demands.proofs.DemandsBack.{Asks}
use Rattle.pg_law_demands.proofs.WalkBack.{Closes, closes}
use Rattle.pg_slice_demands.specs.declared.demanded.Demanded.{Demanded}
use Rattle.pg_slice_demands.specs.declared.call.Call.{Call}
use Rattle.pg_slice_back.specs.declared.registers.Counts.{Counts}
use Rattle.pg_slice_back.specs.Edges.{edge_sets, held_by, sets_result, takes_edge}
use Rattle.pg_slice_back.specs.Arguments.{is_putchar}
use Rattle.pg_slice_back.specs.Events.{event_depth, event_sets, event_writes}
use Rattle.pg_slice_back.specs.Leaves.{Leaves, Without, all, none}
use Rattle.pg_slice_back.specs.Made.{made_by}
use Rattle.pg_slice_back.specs.Met.{AreMet}
use Rattle.pg_slice_back.specs.Owed.{IsPinDue}
use Rattle.pg_slice_back.specs.Sets.{AsksRegion}
use Rattle.pg_slice_back.specs.Steps.{IsCallOf, IsLiveStep}
use Rattle.pg_slice_back.proofs.KnownBefore.{of_those, the_link}
use Rattle.pg_slice_back.proofs.KnownBackOverSteps as live
use Rattle.pg_slice_back.proofs.LiveAccesses.{access_leaves, load_leaves, load_moves, store_fixes, store_leaves, store_moves}
use Rattle.pg_slice_back.proofs.LiveEvents.{event_leaves, print_moves, thread_leaves}
use Rattle.pg_slice_back.proofs.LiveOperations.{bytes_same, call_leaves, call_moves, edge_is, edge_op_leaves, edge_op_moves, freed_back, result_leaves, result_moves, return_leaves, return_moves}
use Rattle.pg_slice_back.proofs.LiveOperations.{top_back}
use Rattle.pg_slice_back.proofs.NeedsBackOverSteps.{all_left, all_right, without_met}

some_is : {A : Type 0} (x y : A) → Some x ≡ Some y → x ≡ y
some_is x y q = cc

if_some : {A : Type 0} (P : A → Type 0) (o : Option A) (x : A) → o ≡ Some x → IfSome o P → P x
if_some {A = A} P o x q h = subst (λ (o : Option A). IfSome o P) q h

module _ (R : Reference) (e : Taken) (p : NumberedProgram) (r : ReferenceRun) (x : Instr) (step : Step) (counts : Counts) (n : ℕ) (m : Moment) (st : IsLiveStep R e p r x step counts n m) where
  open live.standing R e p r x step counts n m st use {s, after, t, k}

  abbrev region : Option FreeRegion
  region = live.region R e p r x step counts n m st

  pub landmark_is : landmark_at r n ≡ Some (landmark_of R.program R.regions m)
  landmark_is = st.landmarks n ∙ ap (option_map (landmark_of R.program R.regions)) st.stands

  kind_is : (c : StepKind) → step.kind ≡ c → m.did.did.kind ≡ c
  kind_is c q = ap (λ (z : Step). z.kind) st.did ∙ q

  pub call_is : (at : Call) → at.thread.0 ≡ step.thread.0 → IfSome (landmark_at r n) (λ (l : Landmark). at.depth ≡ l.depth) → IsCallOf m at
  call_is at q h = record {
    thread = q ∙ ap (λ (z : Step). z.thread.0) (sym st.did);
    depth = if_some (λ (l : Landmark). at.depth ≡ l.depth) (landmark_at r n) (landmark_of R.program R.regions m) landmark_is h;
  }

  -- ---- under closed decisions

  abbrev seen : Bool → Seen
  seen b = seen_with R n m b s

  closed : Closes R e (seen true)
  closed =
      let h = live.here R e p r x step counts n m st in
      subst (λ (b : Bool). Closes R e (seen b))
      (live_before R st.keeps e (length R.moments) (Likes every) (the_link e (length R.moments)) n m s (live.u R e p r x step counts n m st) h.like h.in_run st.live)
      (closes R e st.closed (of_those R e n m s) h.in_those)

  asked_met : (d : Taken) → AreWithin d e → AllByRecursion (IsMet s) (instr_demands d (seen true) (instr_in R.program m) ++ region_demands (seen true) region)
  asked_met d w = step_own R d e w n m region s (live.tall R e p r x step counts n m st) closed.values closed.bounds

  pub region_met : AllByRecursion (IsMet s) (region_demands (seen true) region)
  region_met = all_right (IsMet s) (instr_demands e (seen true) (instr_in R.program m)) (region_demands (seen true) region) (asked_met e (λ w h. h))

  pub own_met : (d : Taken) → AreWithin d e → AllByRecursion (IsMet s) (kind_demands d (seen true) x step.kind)
  own_met d w =
      let b : AllByRecursion (IsMet s) (instr_demands d (seen true) (instr_in R.program m)) =
      all_left (IsMet s) (instr_demands d (seen true) (instr_in R.program m)) (region_demands (seen true) region) (asked_met d w) in
      let c : AllByRecursion (IsMet s) (kind_demands d (seen true) x m.did.did.kind) = subst (λ (o : Option Instr). AllByRecursion (IsMet s) (instr_demands d (seen true) o)) st.instr b in
      subst (λ (z : Step). AllByRecursion (IsMet s) (kind_demands d (seen true) x z.kind)) st.did c

  -- a branch step that isn't freeable is pinned
  bound : is_branch step.kind ≡ true → region ≡ None → e.pinned n ≡ true
  bound b q =
      let a : AllByRecursion (λ (w : Decision). has e w ≡ true) (step_pins (seen true)) = pins_own R e e (λ w h. h) n m region s (live.tall R e p r x step counts n m st) closed.pins in
      go (is_branch m.did.did.kind) (ap (λ (z : Step). is_branch z.kind) st.did ∙ b) (has_region region) (ap has_region q) a
    where
      go : (a : Bool) → a ≡ true → (c : Bool) → c ≡ false → AllByRecursion (λ (w : Decision). has e w ≡ true) (if a && not c then Pinned n ∷ [] else []) → e.pinned n ≡ true
      go true f false g h = h.0
      go true f true g h = absurd (true≢false g)
      go false f c g h = absurd (true≢false (sym f))

  -- ---- by its call

  module _ (at : Call) (call : IsCallOf m at) where
    at_call : (P : ℕ → ℕ → Type 0) → P at.thread.0 at.depth → P t k
    at_call P h = subst (λ (k : ℕ). P t k) call.depth (subst (λ (t : ℕ). P t at.depth) call.thread h)

    of_call : (P : ℕ → ℕ → Type 0) → P t k → P at.thread.0 at.depth
    of_call P h = subst (λ (t : ℕ). P t at.depth) (sym call.thread) (subst (λ (k : ℕ). P t k) (sym call.depth) h)

    -- an access

    module _ (a : Access) (kind : step.kind ≡ kinds.Access a) (old new : Demanded) where
      is_access : m.did.did.kind ≡ kinds.Access a
      is_access = kind_is (kinds.Access a) kind

      pub load_back : (w : Width) (from : Value) → x.op ≡ op.Load w from → (target : Option ℕ) → target ≡ held_by x.result counts.present → (o : Option Decision) →
          ((e : Taken) (after before : SymbolicState) → Leaves at.thread.0 at.depth (is_target target) none after before →
          ((i : ℕ) (v : Bool) → target ≡ Some i → IsMet after (register_demand at.thread.0 at.depth i v)
          → AllByRecursion (IsMet before) (of_bytes (range_of a).start a.bytes) × (e.exact n ≡ true)) →
          AreMet after old → AreMet before new × IfSome o (λ (z : Decision). has e z ≡ true)) → AreMet after old → AreMet s new × IfSome o (λ (z : Decision). has e z ≡ true)
      load_back w from is target q o h =
          h e after s
          (of_call (λ t k. Leaves t k (is_target target) none after s)
          (subst (λ (o : Option ℕ). Leaves t k (is_target o) none after s) (sym q) (load_leaves R e p r x step counts n m st a is_access w from is)))
          (λ i v f g. load_moves R e p r x step counts n m st a is_access w from is i v (sym q ∙ f) (at_call (λ t k. IsMet after (register_demand t k i v)) g))

      pub store_back : (w : Width) (v to : Value) → x.op ≡ op.Store w v to → (o : Option Decision) →
          ((e : Taken) (after before : SymbolicState) → Leaves at.thread.0 at.depth none (is_within (range_of a)) after before →
          ((b : ℕ) → is_within (range_of a) b ≡ true → IsMet after (byte_demand b true) → AllByRecursion (IsMet before) (of_value at.thread.0 at.depth true v)) →
          ((b : ℕ) → (is_within (range_of a) b || is_within (bounds_of a.pointer) b) ≡ true → a.event ≡ false → IsMet after (byte_demand b true) → e.exact n ≡ true) →
          AreMet after old → AreMet before new × IfSome o (λ (z : Decision). has e z ≡ true)) → AreMet after old → AreMet s new × IfSome o (λ (z : Decision). has e z ≡ true)
      store_back w v to is o h =
          h e after s
          (of_call (λ t k. Leaves t k none (is_within (range_of a)) after s) (store_leaves R e p r x step counts n m st a is_access w v to is))
          (λ b f g. of_call (λ t k. AllByRecursion (IsMet s) (of_value t k true v)) (store_moves R e p r x step counts n m st a is_access w v to is b f g))
          (λ b f v' g. store_fixes R e p r x step counts n m st a is_access w v to is b f v' g)

      pub access_back : Without at.thread.0 at.depth (is_target x.result) (is_within (range_of a)) old new → AreMet after old → AreMet s new
      access_back w = without_met at.thread.0 at.depth (is_target x.result) (is_within (range_of a)) after s old new
          (of_call (λ t k. Leaves t k (is_target x.result) (is_within (range_of a)) after s) (access_leaves R e p r x step counts n m st a is_access)) w

    -- an event

    pub event_back : (v : Event) → step.kind ≡ kinds.Event v → (old new : Demanded) →
        Without at.thread.0 (event_depth at.depth v.kind) (event_sets x.result v.kind) (event_writes v.write) old new → AreMet after old → AreMet s new
    event_back v kind old new w = without_met at.thread.0 (event_depth at.depth v.kind) (event_sets x.result v.kind) (event_writes v.write) after s old new
        (of_call (λ t k. Leaves t (event_depth k v.kind) (event_sets x.result v.kind) (event_writes v.write) after s) (event_leaves R e p r x step counts n m st v (kind_is (kinds.Event v) kind))) w

    pub print_back : (v : Event) → step.kind ≡ kinds.Event v → is_putchar v.kind ≡ true → (i : ℕ) (w : Bool)
        → held_by x.result counts.present ≡ Some i → IsMet after (register_demand at.thread.0 at.depth i w) →
        AllByRecursion (IsMet s) (of_operand at.thread.0 at.depth true x.op 0)
    print_back v kind q i w f h = of_call (λ t k. AllByRecursion (IsMet s) (of_operand t k true x.op 0))
        (print_moves R e p r x step counts n m st v (kind_is (kinds.Event v) kind) q i w f (at_call (λ t k. IsMet after (register_demand t k i w)) h))

    -- neither

    module _ (kind : is_op step.kind ≡ true) (old new : Demanded) where
      is_that : is_op m.did.did.kind ≡ true
      is_that = ap (λ (z : Step). is_op z.kind) st.did ∙ kind

      edge_here : (edge : Option ℕ) → IfSome (landmark_at r n) (λ (l : Landmark). edge ≡ l.edge) → edge ≡ edge_in R.program m (Some x)
      edge_here edge h = if_some (λ (l : Landmark). edge ≡ l.edge) (landmark_at r n) (landmark_of R.program R.regions m) landmark_is h ∙ edge_is R e p r x step counts n m st is_that

      pub edge_back : takes_edge x.op ≡ true → (edge : Option ℕ) → IfSome (landmark_at r n) (λ (l : Landmark). edge ≡ l.edge) →
          ((after before : SymbolicState) → Leaves at.thread.0 at.depth (edge_sets p edge) none after before →
          ((i : ℕ) (v : Bool) → i < counts.present → IsMet after (register_demand at.thread.0 at.depth i v)
          → AllByRecursion (IsMet before) (back_edge p at.thread.0 at.depth x.block.0 edge i v)) →
          AreMet after old → AreMet before new) → AreMet after old → AreMet s new
      edge_back f edge h g =
          g after s
          (of_call (λ t k. Leaves t k (edge_sets p edge) none after s)
          (subst (λ (o : Option ℕ). Leaves t k (edge_sets p o) none after s) (sym (edge_here edge h))
          (subst (λ (q : NumberedProgram). Leaves t k (edge_sets q (edge_in R.program m (Some x))) none after s) st.program (edge_op_leaves R e p r x step counts n m st is_that f))))
          (λ i v l z. of_call (λ t k. AllByRecursion (IsMet s) (back_edge p t k x.block.0 edge i v))
          (subst (λ (o : Option ℕ). AllByRecursion (IsMet s) (back_edge p t k x.block.0 o i v)) (sym (edge_here edge h))
          (subst (λ (q : NumberedProgram). AllByRecursion (IsMet s) (back_edge q t k x.block.0 (edge_in R.program m (Some x)) i v)) st.program
          (edge_op_moves R e p r x step counts n m st is_that f i v l (at_call (λ t k. IsMet after (register_demand t k i v)) z)))))

      pub call_back : (g : ℕ) (args : List Value) → x.op ≡ op.Call g args →
          ((after before : SymbolicState) → Leaves at.thread.0 at.depth none none after before →
          ((i : ℕ) (z : Value) (b : Bool) → slice_get args i ≡ Some z → IsMet after (register_demand at.thread.0 (suc at.depth) i b)
          → AllByRecursion (IsMet before) (of_value at.thread.0 at.depth b z)) →
          AreMet after old → AreMet before new) → AreMet after old → AreMet s new
      call_back g args is h =
          h after s (of_call (λ t k. Leaves t k none none after s) (call_leaves R e p r x step counts n m st is_that g args is))
          (λ i z b q f. of_call (λ t k. AllByRecursion (IsMet s) (of_value t k b z))
          (call_moves R e p r x step counts n m st is_that g args is i z b q (at_call (λ t k. IsMet after (register_demand t (suc k) i b)) f)))

      target_is : (target : Option ℕ) → IfSome (landmark_at r n) (λ (l : Landmark). target ≡ l.target) → target ≡ caller_target R.program m.calls
      target_is target h = if_some (λ (l : Landmark). target ≡ l.target) (landmark_at r n) (landmark_of R.program R.regions m) landmark_is h

      pub return_back : (v : Option Value) → x.op ≡ op.Ret v → (found target : Option ℕ)
          → IfSome (landmark_at r n) (λ (l : Landmark). found ≡ l.target) → target ≡ held_by found counts.under →
          ((after before : SymbolicState) → Leaves at.thread.0 (at.depth - 1) (is_target target) none after before →
          ((i : ℕ) (w : Bool) → target ≡ Some i → IsMet after (register_demand at.thread.0 (at.depth - 1) i w) → 0 < at.depth
          → AllByRecursion (IsMet before) (of_optional at.thread.0 at.depth w v)) →
          AreMet after old → AreMet before new) → AreMet after old → AreMet s new
      return_back v is found target f g h =
          let q : target ≡ held_by (caller_target R.program m.calls) counts.under = g ∙ ap (λ (o : Option ℕ). held_by o counts.under) (target_is found f) in
          h after s
          (of_call (λ t k. Leaves t (k - 1) (is_target target) none after s)
          (subst (λ (o : Option ℕ). Leaves t (k - 1) (is_target o) none after s) (sym q) (return_leaves R e p r x step counts n m st is_that v is)))
          (λ i w z y l. of_call (λ t k. AllByRecursion (IsMet s) (of_optional t k w v))
          (return_moves R e p r x step counts n m st is_that v is i w (sym q ∙ z) (at_call (λ t k. IsMet after (register_demand t (k - 1) i w)) y) (at_call (λ t k. 0 < k) l)))

      pub result_back : sets_result x.op ≡ true → (target : Option ℕ) → target ≡ held_by x.result counts.present →
          ((after before : SymbolicState) → Leaves at.thread.0 at.depth (is_target target) none after before →
          ((i : ℕ) (v : Bool) → target ≡ Some i → IsMet after (register_demand at.thread.0 at.depth i v) → AllByRecursion (IsMet before) (made_by at.thread.0 at.depth x.op v)) →
          AreMet after old → AreMet before new) → AreMet after old → AreMet s new
      result_back f target q h =
          h after s
          (of_call (λ t k. Leaves t k (is_target target) none after s) (subst (λ (o : Option ℕ). Leaves t k (is_target o) none after s)
          (sym q) (result_leaves R e p r x step counts n m st is_that f)))
          (λ i v g y. of_call (λ t k. AllByRecursion (IsMet s) (made_by t k x.op v)) (result_moves R e p r x step counts n m st is_that f i v (sym q
          ∙ g) (at_call (λ t k. IsMet after (register_demand t k i v)) y)))

      -- what lies in calls of other threads
      pub thread_back : Without at.thread.0 0 all none old new → AreMet after old → AreMet s new
      thread_back w = without_met at.thread.0 0 all none after s old new
          (subst (λ (t : ℕ). Leaves t 0 all none after s) (sym call.thread) (thread_leaves R e p r x step counts n m st none (bytes_same R e p r x step counts n m st is_that) all (λ i. refl))) w

    -- a branch

    branch_is : (c : StepKind) → is_branch c ≡ true → is_op c ≡ true
    branch_is (kinds.Branch c) q = refl
    branch_is _ q = absurd (true≢false (sym q))

    pub branch_op : is_branch step.kind ≡ true → is_op step.kind ≡ true
    branch_op q = branch_is step.kind q

    module _ (branch : is_branch step.kind ≡ true) (old : Demanded) (met : AreMet after old) where
      this_op : is_op m.did.did.kind ≡ true
      this_op = ap (λ (z : Step). is_op z.kind) st.did ∙ branch_op branch

      pinned_from : (o : Option FreeRegion) (q : FreeRegion) → o ≡ Some q → (edge : Option ℕ) (i : ℕ) (v : Bool) → q.sets i ≡ true
          → Asks e s (back_branch R.program t k n x edge o i v) → e.pinned n ≡ true
      pinned_from None q is edge i v g h = absurd cc
      pinned_from (Some z) q is edge i v g h = go (z.sets i) (subst (λ (z : FreeRegion). z.sets i ≡ true) (sym (some_is z q is)) g) h
        where
          go : (b : Bool) → b ≡ true → Asks e s (if b then fixing (Pinned n) (back_edge R.program t k x.block.0 edge i v) else only (register_demand t k i v ∷ [])) → e.pinned n ≡ true
          go true f h = h.1.0
          go false f h = absurd (true≢false (sym f))

      set_pinned : (q : FreeRegion) → region ≡ Some q → (o : Op) → is_branching o ≡ true → (i : ℕ) (v : Bool) → q.sets i ≡ true
          → Asks e s (back_op R.program t k n m region x i v o) → e.pinned n ≡ true
      set_pinned q is (op.CondBr c a b) f i v g h = pinned_from region q is (edge_in R.program m (Some x)) i v g h
      set_pinned q is (op.Switch w on other cases) f i v g h = pinned_from region q is (edge_in R.program m (Some x)) i v g h
      set_pinned q is o f i v g h = absurd (true≢false (sym f))

      freed_pinned : (o : Option FreeRegion) (q : FreeRegion) → o ≡ Some q → (b : ℕ) → may_write q.accesses b ≡ true → Asks e s (back_freed n o b true) → e.pinned n ≡ true
      freed_pinned None q is b g h = absurd cc
      freed_pinned (Some z) q is b g h = go (may_write z.accesses b) (subst (λ (z : FreeRegion). may_write z.accesses b ≡ true) (sym (some_is z q is)) g) h
        where
          go : (c : Bool) → c ≡ true → Asks e s (if c then fixing (Pinned n) (byte_demand b true ∷ []) else only (byte_demand b true ∷ [])) → e.pinned n ≡ true
          go true f h = h.1.0
          go false f h = absurd (true≢false (sym f))

      region_pinned : (o : Option FreeRegion) → region ≡ o → AsksRegion o at.thread.0 at.depth counts.present old → e.pinned n ≡ true
      region_pinned None is h = absurd h
      region_pinned (Some q) is (inl h) =
          let f : IsMet after (register_demand t k h.0 h.1) = at_call (λ t k. IsMet after (register_demand t k h.0 h.1)) (met.registers at.thread.0 at.depth h.0 h.1 h.4) in
          set_pinned q is x.op (st.keeps.branches (live.y R e p r x step counts n m st) (live.here R e p r x step counts n m st).in_run q is x st.instr) h.0 h.1 h.3
          (top_back R e p r x step counts n m st this_op h.0 h.1 h.2 f)
      region_pinned (Some q) is (inr h) = freed_pinned region q is h.0 h.1 (freed_back R e p r x step counts n m st this_op h.0 (met.bytes h.0 h.2))

      pinned : (region ≡ None) ⊎ AsksRegion region at.thread.0 at.depth counts.present old → e.pinned n ≡ true
      pinned (inl q) = bound branch q
      pinned (inr h) = region_pinned region refl h

      pin_back : (o : Option Decision) → IfSome o (λ (z : Decision). IsPinDue region n at.thread.0 at.depth counts.present old z) → IfSome o (λ (z : Decision). has e z ≡ true)
      pin_back None h = tt
      pin_back (Some z) h = subst (λ (z : Decision). has e z ≡ true) (sym h.0) (pinned h.1)

      pub due_back : (o : Option Decision) → IfSome (landmark_at r n) (λ (l : Landmark). IfSome o (λ (z : Decision). IsPinDue l.region n at.thread.0 at.depth counts.present old z)) →
          IfSome o (λ (z : Decision). has e z ≡ true)
      due_back o h =
          pin_back o (if_some (λ (l : Landmark). IfSome o (λ (z : Decision). IsPinDue l.region n at.thread.0 at.depth counts.present old z))
          (landmark_at r n) (landmark_of R.program R.regions m) landmark_is h)
