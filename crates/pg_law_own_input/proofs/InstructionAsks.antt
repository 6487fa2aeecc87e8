-- What a step asks of values is given, whatever its instruction does: by the action of the thread, and what is told of it.
use Rattle.std.proofs.Common.{◌≡◌, ℕ, ℤ, zero, suc, Bool, true, false, List, [], ◌∷◌, map, Option, Some, None, refl, sym, ap, ◌∙◌, subst, arith}
use Rattle.std.specs.Prelude.{◌==◌, ◌||◌, nat_lt, slice_index, if◌then◌else◌}
use Rattle.std.specs.List.{AllByRecursion as AllOf}
use Rattle.std.proofs.lemmas.Bool.{eq-eqb, ltb-true, ne_eqb, not_from_false, or_parts, true≢false}
use Rattle.pg_num.specs.Numbers.{divided}
use Rattle.pg_num.specs.Places.{ByteRange}
use Rattle.pg_ir.specs.declared.edge.Case.{Case}
use Rattle.pg_ir.specs.declared.ids.InstrId.{InstrId}
use Rattle.pg_ir.specs.declared.instr.Instr.{Instr}
use Rattle.pg_ir.specs.declared.instr.Op.{Op}
use Rattle.pg_ir.specs.declared.instr.Op.TheVariants as op
use Rattle.pg_ir.specs.declared.library_call.LibraryCall.{LibraryCall}
use Rattle.pg_ir.specs.declared.library_call.LibraryCall.TheVariants as known
use Rattle.pg_ir.specs.declared.request.Request.{Request}
use Rattle.pg_ir.specs.declared.request.Request.TheVariants as requests
use Rattle.pg_ir.specs.declared.value.Value.{Value}
use Rattle.pg_ir.specs.Edges.{case_of}
use Rattle.pg_ir.specs.Program.{NumberedProgram}
use Rattle.pg_ir.specs.WellFormed.{granules_for}
use Rattle.pg_precondition.specs.declared.check.Test.{Test}
use Rattle.pg_precondition.specs.declared.check.Test.TheVariants as test
use Rattle.pg_precondition.specs.Values.{is_met}
use Rattle.pg_run_thread.specs.declared.action.Action.{Action}
use Rattle.pg_run_thread.specs.declared.action.Action.TheVariants as actions
use Rattle.pg_run_thread.specs.declared.thread_memory.ThreadMemory.{ThreadMemory}
use Rattle.pg_run_thread.specs.Compute.{chosen}
use Rattle.pg_run_thread.specs.Operands.{argument, first_four, given, operand, operands_of}
use Rattle.pg_run_thread.specs.States.{CanStep}
use Rattle.pg_run_thread.specs.Step.{barrier_request, bytes_of, exit_value, has_room, library_action, op_action, return_action, returning_action, wait_request}
use Rattle.pg_run_trace.specs.declared.step.Access.{Access}
use Rattle.pg_run_trace.specs.declared.step.Event.{Event}
use Rattle.pg_run_trace.specs.declared.step.StepKind.{StepKind}
use Rattle.pg_run_trace.specs.declared.step.StepKind.TheVariants as kinds
use Rattle.pg_run_trace.specs.declared.step.Write.{Write}
use Rattle.pg_run_trace.specs.declared.turn.TurnKind.{TurnKind}
use Rattle.pg_run_trace.specs.declared.turn.TurnKind.TheVariants as turns
use Rattle.pg_run_trace.specs.Kinds.{kind_of, object_of}
use Rattle.pg_run_trace.specs.Steps.{access_by}
use Rattle.pg_run.specs.MachineStep.{access_told, event_told, is_gated, op_told, write_told}
use Rattle.pg_run.specs.State.{State, instr_of}
use Rattle.pg_run.proofs.Actions.{barrier_init_is, call_is, create_is, divided_is, edge_is, init_is, join_is, number_is, object_is, on_all_is, on_place_is, on_value_is, room_is, wait_is}
use Rattle.pg_slice_rules.specs.Known.{Seen}
use Rattle.pg_slice_rules.specs.Rules.{Need, Value as ValueNeed, Bounds as BoundsNeed, access_needs_by, address_index, checked, edge_tests, equal_to, event_needs, is_case, operand_of}
use Rattle.pg_slice_rules.specs.Rules.{registers_before, same_bounds, value_needs_by, write_needs}
use Rattle.pg_law_instances.specs.pg_law_least.Keeps.{every}
use Rattle.pg_law_plan.specs.Likes.{AreLike, IsLike}
use Rattle.pg_law_plan.proofs.LikeOperands.{argument_like}
use Rattle.pg_law_plan.proofs.LikeRequests.{IsGiven as IsArgument, given_args}
use Rattle.pg_law_own_input.proofs.AskedValues.{IsGiven}

eq_met : (m n : ℕ) → m ≡ n → is_met (test.Eq m) (Some n) ≡ true
eq_met m n e = eq-eqb n m (sym e)

-- the tests of an edge hold of the number that chose it
edges_met : (o : Op) (n : ℕ) → AllOf (λ (t : Test). is_met t (Some n) ≡ true) (edge_tests o n)
edges_met (op.Switch w on other cases) n = go (is_case n cases) refl
  where
    others : (cs : List Case) → is_case n cs ≡ false → AllOf (λ (t : Test). is_met t (Some n) ≡ true) (map (λ (c : Case). test.Ne c.value) cs)
    others [] e = tt
    others (c ∷ cs) e =
        let p = or_parts (c.value == n) (is_case n cs) e in
        (not_from_false (n == c.value) (ne_eqb n c.value (λ q. true≢false (sym (eq-eqb c.value n (sym q)) ∙ p.0))), others cs p.1)

    go : (b : Bool) → is_case n cases ≡ b → AllOf (λ (t : Test). is_met t (Some n) ≡ true) (if b then test.Eq n ∷ [] else map (λ (c : Case). test.Ne c.value) cases)
    go true e = (eq-eqb n n refl, tt)
    go false e = others cases e
edges_met o n = (eq-eqb n n refl, tt)

-- the operands that are checked are among the first four
checked_first : (k : LibraryCall) → AllOf (λ (i : ℕ). nat_lt i 3 ≡ true) (checked k)
checked_first known.PthreadCreate = (refl, (refl, (refl, tt)))
checked_first known.PthreadJoin = (refl, (refl, tt))
checked_first known.PthreadMutexInit = (refl, (refl, tt))
checked_first known.PthreadMutexLock = (refl, tt)
checked_first known.PthreadMutexTrylock = (refl, tt)
checked_first known.PthreadMutexUnlock = (refl, tt)
checked_first known.PthreadMutexDestroy = (refl, tt)
checked_first known.PthreadCondInit = (refl, (refl, tt))
checked_first known.PthreadCondWait = (refl, (refl, tt))
checked_first known.PthreadCondSignal = (refl, tt)
checked_first known.PthreadCondBroadcast = (refl, tt)
checked_first known.PthreadCondDestroy = (refl, tt)
checked_first known.PthreadBarrierInit = (refl, (refl, (refl, tt)))
checked_first known.PthreadBarrierWait = (refl, tt)
checked_first known.PthreadBarrierDestroy = (refl, tt)
checked_first k = tt

number_first : (p : NumberedProgram) (rs : List (Option ℕ)) (args : List Value) (i : ℕ) → nat_lt i 3 ≡ true → slice_index (first_four p rs args) i ≡ given (argument p rs args i)
number_first p rs args zero h = refl
number_first p rs args (suc zero) h = refl
number_first p rs args (suc (suc zero)) h = refl
number_first p rs args (suc (suc (suc i))) h = let lt = ltb-true (suc (suc (suc i))) 3 h in absurd (omega (arith, lt))

-- requests that write nowhere
wait_writes : (b : Bool) (s : State) (ns : List ℕ) (c m : ℕ) → write_told s ns (wait_request b c m) ≡ None
wait_writes true s ns c m = refl
wait_writes false s ns c m = refl

barrier_writes : (b : Bool) (s : State) (ns : List ℕ) (o : ℕ) → write_told s ns (barrier_request b o) ≡ None
barrier_writes true s ns o = refl
barrier_writes false s ns o = refl

-- at step x, of thread t in state s, whose registers are like what is known of them: by an operation in the place of i's
module _ (gated : List InstrId) (p : NumberedProgram) (input : List ℤ) (s : State) (t : ℕ) (x : Seen) (i : Instr) (rs : List (Option ℕ)) (answer number : ℕ)
    (alike : AreLike input (registers_before x) rs) where
  abbrev instr : Op → Instr
  instr o = record i { op = o }

  abbrev pub numbers : Op → List ℕ
  numbers o = first_four p rs (operands_of o)

  -- what is told of its action
  abbrev pub told_by : Op → Action → StepKind
  told_by o actions.Local = op_told (first_four p rs (operands_of o)) number o
  told_by o (actions.Load r) = access_told gated s t (slice_index (first_four p rs (operands_of o)) 0) r false answer
  told_by o (actions.Store r n) = access_told gated s t (slice_index (first_four p rs (operands_of o)) 1) r true n
  told_by o (actions.Event r) = event_told s t (first_four p rs (operands_of o)) number r
  told_by o action = kinds.Other

  abbrev pub AreNeeded : Op → StepKind → Type 0
  AreNeeded o k = AllOf (IsGiven input) (value_needs_by p every x (record i { op = o }) k) × AllOf (IsGiven input) (access_needs_by p x (record i { op = o }) k)

  abbrev Fine : Op → Action → Type 0
  Fine o action = CanStep action → AllOf (IsGiven input) (value_needs_by p every x (record i { op = o }) (told_by o action))
      × AllOf (IsGiven input) (access_needs_by p x (record i { op = o }) (told_by o action))

  -- ---- operands

  operand_is : (o : Op) (k n : ℕ) → argument p rs (operands_of o) k ≡ Some n → IsLike input (operand_of p x (instr o) k) (Some n)
  operand_is o k n e = subst (λ (v : Option ℕ). IsLike input (operand_of p x (instr o) k) v) e (argument_like input p (registers_before x) rs alike (operands_of o) k)

  equal_given : (o : Op) (k n m : ℕ) → argument p rs (operands_of o) k ≡ Some n → m ≡ n → IsGiven input (ValueNeed (operand_of p x (instr o) k) (test.Eq m ∷ []))
  equal_given o k n m e q = (n, operand_is o k n e, (eq_met m n q, tt))

  bounds_given : (o : Op) (k n m : ℕ) → argument p rs (operands_of o) k ≡ Some n → m ≡ n → IsGiven input (BoundsNeed (operand_of p x (instr o) k) (same_bounds m))
  bounds_given o k n m e q = (n, operand_is o k n e, ap same_bounds q)

  branch_given : (o : Op) (n c : ℕ) → argument p rs (operands_of o) 0 ≡ Some n → c ≡ n → AreNeeded o (kinds.Branch c)
  branch_given o n c e q = (((n, operand_is o 0 n e, subst (λ (z : ℕ). AllOf (λ (t : Test). is_met t (Some n) ≡ true) (edge_tests o z)) (sym q) (edges_met o n)), tt), tt)

  given_if : (b : Bool) (q : Need) → IsGiven input q → AllOf (IsGiven input) (if b then q ∷ [] else [])
  given_if true q h = (h, tt)
  given_if false q h = tt

  access_given : (o : Op) (n : ℕ) (a : Access) → argument p rs (operands_of o) (address_index o) ≡ Some n → a.pointer ≡ n → AreNeeded o (kinds.Access a)
  access_given o n a e q = (
    given_if (a.event || true) (ValueNeed (operand_of p x (instr o) (address_index o)) (test.Eq a.pointer ∷ [])) (equal_given o (address_index o) n a.pointer e q),
    (bounds_given o (address_index o) n a.pointer e q, tt),
  )

  -- ---- events

  module _ (k : LibraryCall) (args : List Value) (g : AllOf (IsArgument p rs args) (checked k)) where
    abbrev call : Op
    call = op.CallLibrary k args

    each_checked : (e : Event) → e.operands ≡ first_four p rs args → (is : List ℕ) → AllOf (λ (j : ℕ). nat_lt j 3 ≡ true) is → AllOf (IsArgument p rs args) is
        → AllOf (IsGiven input) (map (equal_to p x (instr (op.CallLibrary k args)) e) is)
    each_checked e q [] h a = tt
    each_checked e q (j ∷ is) h a = (
      equal_given (op.CallLibrary k args) j a.0.0 (slice_index e.operands j) a.0.1 (ap (λ (ns : List ℕ). slice_index ns j) q ∙ number_first p rs args j h.0 ∙ ap given a.0.1),
      each_checked e q is h.1 a.1,
    )

    values_given : (e : Event) (kind : TurnKind) → e.operands ≡ first_four p rs args → AllOf (IsGiven input) (event_needs p x (instr (op.CallLibrary k args)) e kind)
    values_given e turns.Start q = tt
    values_given e kind q = each_checked e q (checked k) (checked_first k) g

    abbrev event_of : Request → Event
    event_of r = record {
      kind = kind_of r;
      object = object_of t (Rattle.std.proofs.Common.length s.sync.threads) r;
      operands = first_four p rs args;
      reply = number;
      write = write_told s (first_four p rs args) r;
    }

    event_given : (r : Request) (w : Option Write) → write_told s (first_four p rs args) r ≡ w → AllOf (IsGiven input) (write_needs p x (instr (op.CallLibrary k args)) (access_by w))
        → AreNeeded (op.CallLibrary k args) (event_told s t (first_four p rs args) number r)
    event_given r w e h = (
      values_given (event_of r) (kind_of r) refl,
      subst (λ (z : Option Write). AllOf (IsGiven input) (write_needs p x (instr (op.CallLibrary k args)) (access_by z))) (sym e) h,
    )

    plain_event : (r : Request) → write_told s (first_four p rs args) r ≡ None → AreNeeded (op.CallLibrary k args) (event_told s t (first_four p rs args) number r)
    plain_event r e = event_given r None e tt

  create_event : (args : List Value) → AllOf (IsArgument p rs args) (checked known.PthreadCreate) → (r : ByteRange) (f n : ℕ)
      → AreNeeded (op.CallLibrary known.PthreadCreate args) (event_told s t (first_four p rs args) number (requests.Create r f n))
  create_event args g r f n = event_given known.PthreadCreate args g (requests.Create r f n) (write_told s (first_four p rs args) (requests.Create r f n)) refl
      (bounds_given (op.CallLibrary known.PthreadCreate args) 0 g.0.0 (given (argument p rs args 0)) g.0.1 (ap given g.0.1), tt)

  join_event : (args : List Value) → AllOf (IsArgument p rs args) (checked known.PthreadJoin) → (n : ℕ) (r : ByteRange)
      → AreNeeded (op.CallLibrary known.PthreadJoin args) (event_told s t (first_four p rs args) number (requests.Join n (Some r)))
  join_event args g n r = event_given known.PthreadJoin args g (requests.Join n (Some r)) (write_told s (first_four p rs args) (requests.Join n (Some r))) refl
      (bounds_given (op.CallLibrary known.PthreadJoin args) 1 g.1.0.0 (given (argument p rs args 1)) g.1.0.1 (ap given g.1.0.1), tt)

  known_fine : (u : ℕ) (h : Bool) (k : LibraryCall) (args : List Value) → Fine (op.CallLibrary k args) (library_action p u h rs k args)
  known_fine u h known.PgIn args = number_is (Fine (op.CallLibrary known.PgIn args)) p rs args _ (λ z c. absurd c) (λ n c. (tt, tt))
  known_fine u h known.PgInLen args = λ c. (tt, tt)
  known_fine u h known.PgOut args = number_is (Fine (op.CallLibrary known.PgOut args)) p rs args _ (λ z c. absurd c) (λ n c. plain_event known.PgOut args tt (requests.Out n true) refl)
  known_fine u h known.PgPrint args = number_is (Fine (op.CallLibrary known.PgPrint args)) p rs args _ (λ z c. absurd c) (λ n c. plain_event known.PgPrint args tt (requests.Out n false) refl)
  known_fine u h known.Putchar args = number_is (Fine (op.CallLibrary known.Putchar args)) p rs args _ (λ z c. absurd c) (λ n c. plain_event known.Putchar args tt (requests.Putchar n) refl)
  known_fine u h known.Malloc args = on_value_is (Fine (op.CallLibrary known.Malloc args)) (argument p rs args 0) _ (λ z c. absurd c)
      (λ n e c. ((equal_given (op.CallLibrary known.Malloc args) 0 n (given (argument p rs args 0)) e (ap given e), tt), tt))
  known_fine u h known.Free args = number_is (Fine (op.CallLibrary known.Free args)) p rs args _ (λ z c. absurd c) (λ n c. (tt, tt))
  known_fine u h known.PthreadCreate args = λ c. let g = given_args p u h rs args known.PthreadCreate c in
      create_is (Fine (op.CallLibrary known.PthreadCreate args)) p rs args (λ z d. absurd d) (λ r f n q e d. create_event args g r f n) c
  known_fine u h known.PthreadJoin args = λ c. let g = given_args p u h rs args known.PthreadJoin c in
      join_is (Fine (op.CallLibrary known.PthreadJoin args)) p rs args (λ z d. absurd d) (λ n d. plain_event known.PthreadJoin args g (requests.Join n None) refl) (λ n r q d. join_event args g n r) c
  known_fine u h known.PthreadExit args = number_is (Fine (op.CallLibrary known.PthreadExit args)) p rs args _ (λ z c. absurd c)
      (λ n c. plain_event known.PthreadExit args tt (requests.Exit (exit_value u n) false) refl)
  known_fine u h known.PthreadMutexInit args = λ c. let g = given_args p u h rs args known.PthreadMutexInit c in
      init_is (Fine (op.CallLibrary known.PthreadMutexInit args)) p rs args _ (λ z d. absurd d) (λ o d. plain_event known.PthreadMutexInit args g (requests.MutexInit o) refl) c
  known_fine u h known.PthreadMutexLock args = λ c. let g = given_args p u h rs args known.PthreadMutexLock c in
      object_is (Fine (op.CallLibrary known.PthreadMutexLock args)) p rs args _ (λ z d. absurd d) (λ o d. plain_event known.PthreadMutexLock args g (requests.Lock o) refl) c
  known_fine u h known.PthreadMutexTrylock args = λ c. let g = given_args p u h rs args known.PthreadMutexTrylock c in
      object_is (Fine (op.CallLibrary known.PthreadMutexTrylock args)) p rs args _ (λ z d. absurd d) (λ o d. plain_event known.PthreadMutexTrylock args g (requests.Trylock o) refl) c
  known_fine u h known.PthreadMutexUnlock args = λ c. let g = given_args p u h rs args known.PthreadMutexUnlock c in
      object_is (Fine (op.CallLibrary known.PthreadMutexUnlock args)) p rs args _ (λ z d. absurd d) (λ o d. plain_event known.PthreadMutexUnlock args g (requests.Unlock o) refl) c
  known_fine u h known.PthreadMutexDestroy args = λ c. let g = given_args p u h rs args known.PthreadMutexDestroy c in
      object_is (Fine (op.CallLibrary known.PthreadMutexDestroy args)) p rs args _ (λ z d. absurd d) (λ o d. plain_event known.PthreadMutexDestroy args g (requests.MutexDestroy o) refl) c
  known_fine u h known.PthreadCondInit args = λ c. let g = given_args p u h rs args known.PthreadCondInit c in
      init_is (Fine (op.CallLibrary known.PthreadCondInit args)) p rs args _ (λ z d. absurd d) (λ o d. plain_event known.PthreadCondInit args g (requests.CondInit o) refl) c
  known_fine u h known.PthreadCondWait args = λ c. let g = given_args p u h rs args known.PthreadCondWait c in
      wait_is (Fine (op.CallLibrary known.PthreadCondWait args)) p h rs args (λ z d. absurd d)
      (λ o m d. plain_event known.PthreadCondWait args g (wait_request h o m) (wait_writes h s (first_four p rs args) o m)) c
  known_fine u h known.PthreadCondSignal args = λ c. let g = given_args p u h rs args known.PthreadCondSignal c in
      object_is (Fine (op.CallLibrary known.PthreadCondSignal args)) p rs args _ (λ z d. absurd d) (λ o d. plain_event known.PthreadCondSignal args g (requests.Signal o) refl) c
  known_fine u h known.PthreadCondBroadcast args = λ c. let g = given_args p u h rs args known.PthreadCondBroadcast c in
      object_is (Fine (op.CallLibrary known.PthreadCondBroadcast args)) p rs args _ (λ z d. absurd d) (λ o d. plain_event known.PthreadCondBroadcast args g (requests.Broadcast o) refl) c
  known_fine u h known.PthreadCondDestroy args = λ c. let g = given_args p u h rs args known.PthreadCondDestroy c in
      object_is (Fine (op.CallLibrary known.PthreadCondDestroy args)) p rs args _ (λ z d. absurd d) (λ o d. plain_event known.PthreadCondDestroy args g (requests.CondDestroy o) refl) c
  known_fine u h known.PthreadBarrierInit args = λ c. let g = given_args p u h rs args known.PthreadBarrierInit c in
      barrier_init_is (Fine (op.CallLibrary known.PthreadBarrierInit args)) p rs args (λ z d. absurd d) (λ o n d. plain_event known.PthreadBarrierInit args g (requests.BarrierInit o n) refl) c
  known_fine u h known.PthreadBarrierWait args = λ c. let g = given_args p u h rs args known.PthreadBarrierWait c in
      object_is (Fine (op.CallLibrary known.PthreadBarrierWait args)) p rs args _ (λ z d. absurd d)
      (λ o d. plain_event known.PthreadBarrierWait args g (barrier_request h o) (barrier_writes h s (first_four p rs args) o)) c
  known_fine u h known.PthreadBarrierDestroy args = λ c. let g = given_args p u h rs args known.PthreadBarrierDestroy c in
      object_is (Fine (op.CallLibrary known.PthreadBarrierDestroy args)) p rs args _ (λ z d. absurd d) (λ o d. plain_event known.PthreadBarrierDestroy args g (requests.BarrierDestroy o) refl) c

  -- ---- each instruction

  return_fine : (v : Option Value) (depth n : ℕ) → Fine (op.Ret v) (return_action depth n)
  return_fine v depth n = go (depth == 1)
    where
      go : (b : Bool) → Fine (op.Ret v) (if b then actions.Event (requests.Exit n true) else actions.Local)
      go true c = (tt, tt)
      go false c = (tt, tt)

  returning_fine : (depth : ℕ) (v : Option Value) → Fine (op.Ret v) (returning_action p rs depth v)
  returning_fine depth None = return_fine None depth 0
  returning_fine depth (Some v) = on_value_is (Fine (op.Ret (Some v))) (operand p rs v) _ (λ z c. absurd c) (λ n e. return_fine (Some v) depth n)

  pub op_fine : (r : ThreadMemory) (h : Bool) (depth used block : ℕ) (o : Op) → Fine o (op_action p r h rs depth used block o)
  op_fine r h depth used block (op.Divide d w a b) =
      let Q = Fine (op.Divide d w a b) in
      on_value_is Q (operand p rs a) _ (λ z c. absurd c) (λ m e. on_value_is Q (operand p rs b) _ (λ z c. absurd c) (λ n f. divided_is Q (divided d w m n) (λ z c. absurd c) (λ c. (tt, tt))))
  op_fine r h depth used block (op.Phi from) = λ c. (tt, tt)
  op_fine r h depth used block (op.Br to) = edge_is (Fine (op.Br to)) p rs block to.0 (λ z c. absurd c) (λ c. (tt, tt))
  op_fine r h depth used block (op.CondBr v a b) =
      let Q = Fine (op.CondBr v a b) in
      on_value_is Q (operand p rs v) _ (λ z c. absurd c) (λ n e. edge_is Q p rs block (chosen n a.0 b.0) (λ z c. absurd c)
      (λ c. branch_given (op.CondBr v a b) n (given (operand p rs v)) e (ap given e)))
  op_fine r h depth used block (op.Switch w on other cases) =
      let Q = Fine (op.Switch w on other cases) in
      on_value_is Q (operand p rs on) _ (λ z c. absurd c) (λ n e. edge_is Q p rs block (case_of cases other.0 n) (λ z c. absurd c)
      (λ c. branch_given (op.Switch w on other cases) n (given (operand p rs on)) e (ap given e)))
  op_fine r h depth used block (op.Call g args) = on_all_is (Fine (op.Call g args)) p rs args _ (λ z c. absurd c) (call_is (Fine (op.Call g args)) p g depth used (λ z c. absurd c) (λ c. (tt, tt)))
  op_fine r h depth used block (op.Ret v) = returning_fine depth v
  op_fine r h depth used block op.Unreachable = λ c. absurd c
  op_fine r h depth used block (op.Alloca bytes) = room_is (Fine (op.Alloca bytes)) (has_room r (granules_for bytes)) (λ z c. absurd c) (λ c. (tt, tt))
  op_fine r h depth used block (op.Load w from) =
      let Q = Fine (op.Load w from) in
      on_value_is Q (operand p rs from) _ (λ z c. absurd c) (λ a e. on_place_is Q a (bytes_of w) _ (λ z c. absurd c) (λ q k c.
      access_given (op.Load w from) a (record { pointer = given (operand p rs from); number = answer; bytes = q.bytes; writes = false; event = is_gated gated (instr_of s t) }) e (ap given e)))
  op_fine r h depth used block (op.Store w v at) =
      let Q = Fine (op.Store w v at) in
      on_value_is Q (operand p rs v) _ (λ z c. absurd c) (λ n f. on_value_is Q (operand p rs at) _ (λ z c. absurd c) (λ a e. on_place_is Q a (bytes_of w) _ (λ z c. absurd c) (λ q k c.
      access_given (op.Store w v at) a (record { pointer = given (operand p rs at); number = n; bytes = q.bytes; writes = true; event = is_gated gated (instr_of s t) }) e (ap given e))))
  op_fine r h depth used block (op.CallLibrary k args) = known_fine r.thread h k args
  op_fine r h depth used block o = on_all_is (Fine o) p rs (operands_of o) _ (λ z c. absurd c) (λ c. (tt, tt))
