-- How the calls of a thread change by the step of each instruction.
use Rattle.std.proofs.Common.{◌≡◌, ℕ, Bool, true, false, List, [], ◌∷◌, length, map, Option, Some, None, refl, sym, ap, subst, arith, inl, inr}
use Rattle.std.specs.Prelude.{Contains, ◌==◌, if◌then◌else◌}
use Rattle.std.proofs.lemmas.Bool.Decides.{nat_tests}
use Rattle.pg_num.specs.Numbers.{divided}
use Rattle.pg_ir.specs.declared.library_call.LibraryCall.{LibraryCall}
use Rattle.pg_ir.specs.declared.library_call.LibraryCall.TheVariants as known
use Rattle.pg_ir.specs.declared.request.Request.TheVariants as requests
use Rattle.pg_ir.specs.declared.value.Value.{Value}
use Rattle.pg_ir.specs.declared.instr.Instr.{Instr}
use Rattle.pg_ir.specs.declared.instr.Op.{Op}
use Rattle.pg_ir.specs.declared.instr.Op.TheVariants as op
use Rattle.pg_ir.specs.Program.{NumberedProgram, entry_of}
use Rattle.pg_ir.specs.Edges.{is_terminator, targets_of}
use Rattle.pg_ir.specs.WellFormed.{granules_for}
use Rattle.pg_region_paths.proofs.Elements.{here}
use Rattle.pg_run_thread.specs.declared.action.Action.{Action}
use Rattle.pg_run_thread.specs.declared.action.Action.TheVariants as actions
use Rattle.pg_run_thread.specs.LocalState.{Frame, LocalState, own_memory}
use Rattle.pg_run_thread.specs.Operands.{given, operand, operands_of, number_at}
use Rattle.pg_run_thread.specs.Compute.{chosen}
use Rattle.pg_run_thread.specs.EdgeStep.{case_of}
use Rattle.pg_run_thread.specs.States.{CallsFunction}
use Rattle.pg_run_thread.specs.Step as step
use Rattle.pg_run_thread.specs.Step.{op_action, op_after, library_action, bytes_of, entered, return_action, returning_action, returned, stepped, total, has_room, result_number}
use Rattle.pg_run.proofs.Actions.{on_value_is, on_all_is, edge_is, call_is, divided_is, room_is, number_is, object_is, init_is, barrier_init_is, wait_is, create_is, join_is}
use Rattle.pg_law_instances.specs.Inside.{edge_taken}
use Rattle.pg_law_instances.specs.Moves.{Moves, RequestMoves, IsPlacedAt, IsLoad, IsStore}
use Rattle.pg_law_instances.proofs.FollowedPaths.{within_bounds, first_byte}
use Rattle.pg_law_instances.proofs.FramesBehindEdges.{chosen_among, switched_among}
use Rattle.pg_law_instances.proofs.NextActions.{place_known}

entered_function : (p : NumberedProgram) (g height : ℕ) (vs : List (Option ℕ)) → (entered p g height vs).function ≡ g
unfolding entered
entered_function p g height vs = refl

entered_place : (p : NumberedProgram) (g height : ℕ) (vs : List (Option ℕ)) → (entered p g height vs).place ≡ entry_of p g
unfolding entered
entered_place p g height vs = refl

-- a thread that has begun
abbrev pub running : ℕ → Bool → Frame → List Frame → ℕ → LocalState
running t h f fs heap = record { thread = t; begun = true; halfway = h; frames = f ∷ fs; heap = heap }

-- how the calls change, by the action of an operation
abbrev pub Outcome : NumberedProgram → ℕ → Bool → Frame → List Frame → ℕ → Instr → Op → Action → Type 0
Outcome p t h f fs heap x o actions.Local = Moves p f fs x o (op_after p (running t h f fs heap) x 0 o)
Outcome p t h f fs heap x o (actions.In i) = (n : ℕ) → Moves p f fs x o (op_after p (running t h f fs heap) x n o)
Outcome p t h f fs heap x o actions.InLen = (n : ℕ) → Moves p f fs x o (op_after p (running t h f fs heap) x n o)
Outcome p t h f fs heap x o (actions.Load r) = IsLoad o × ((n : ℕ) → Moves p f fs x o (op_after p (running t h f fs heap) x n o))
Outcome p t h f fs heap x o (actions.Store r m) = IsPlacedAt (number_at p f.registers (operands_of o) 1) r × IsStore o × Moves p f fs x o (op_after p (running t h f fs heap) x 0 o)
Outcome p t h f fs heap x o (actions.Event r) = (n : ℕ) → RequestMoves (f ∷ fs) r (op_after p (running t h f fs heap) x n o)
Outcome p t h f fs heap x o (actions.Trap name) = Unit {0}
Outcome p t h f fs heap x o actions.Ended = Unit {0}

module _ (p : NumberedProgram) (t : ℕ) (h : Bool) (f : Frame) (fs : List Frame) (heap : ℕ) (x : Instr) where
  abbrev rs : List (Option ℕ)
  rs = f.registers

  abbrev Q : Op → Action → Type 0
  Q o = Outcome p t h f fs heap x o

  past : (o : Op) (n : ℕ) → is_terminator o ≡ false → ((g : ℕ) → CallsFunction g o → ⊥) → Moves p f fs x o (stepped f x.result n ∷ fs)
  past o n e c = inr (inr (inr (record { plain = e; no_call = c; frame = stepped f x.result n; function = refl; place = refl; is = refl })))

  along : (o : Op) (to : ℕ) → is_terminator o ≡ true → Contains (targets_of o) to → edge_taken p rs o ≡ Some to → Moves p f fs x o (step.moved p f x.block.0 to ∷ fs)
  along o to k c e = inl (record { to = to; ends = k; among = c; edge = e; is = refl })

  known_outcome : (k : LibraryCall) (args : List Value) → Q (op.CallLibrary k args) (library_action p t h rs k args)
  known_outcome known.PgIn args = number_is (Q (op.CallLibrary known.PgIn args)) p rs args _ (λ n. tt) (λ i n. past (op.CallLibrary known.PgIn args) _ refl (λ g c. c))
  known_outcome known.PgInLen args = λ n. past (op.CallLibrary known.PgInLen args) _ refl (λ g c. c)
  known_outcome known.PgOut args = number_is (Q (op.CallLibrary known.PgOut args)) p rs args _ (λ n. tt) (λ i n. refl)
  known_outcome known.PgPrint args = number_is (Q (op.CallLibrary known.PgPrint args)) p rs args _ (λ n. tt) (λ i n. refl)
  known_outcome known.Putchar args = number_is (Q (op.CallLibrary known.Putchar args)) p rs args _ (λ n. tt) (λ i n. refl)
  known_outcome known.Malloc args = number_is (Q (op.CallLibrary known.Malloc args)) p rs args _ (λ n. tt) (λ i. past (op.CallLibrary known.Malloc args) _ refl (λ g c. c))
  known_outcome known.Free args = number_is (Q (op.CallLibrary known.Free args)) p rs args _ (λ n. tt) (λ i. past (op.CallLibrary known.Free args) _ refl (λ g c. c))
  known_outcome known.PthreadExit args = number_is (Q (op.CallLibrary known.PthreadExit args)) p rs args _ (λ n. tt) (λ i n. refl)
  known_outcome known.PthreadCreate args = create_is (Q (op.CallLibrary known.PthreadCreate args)) p rs args (λ n. tt) (λ r g n k q m. refl)
  known_outcome known.PthreadJoin args = join_is (Q (op.CallLibrary known.PthreadJoin args)) p rs args (λ n. tt) (λ n m. refl) (λ n r k m. refl)
  known_outcome known.PthreadMutexInit args = init_is (Q (op.CallLibrary known.PthreadMutexInit args)) p rs args _ (λ n. tt) (λ o n. refl)
  known_outcome known.PthreadCondInit args = init_is (Q (op.CallLibrary known.PthreadCondInit args)) p rs args _ (λ n. tt) (λ o n. refl)
  known_outcome known.PthreadMutexLock args = object_is (Q (op.CallLibrary known.PthreadMutexLock args)) p rs args _ (λ n. tt) (λ o n. refl)
  known_outcome known.PthreadMutexTrylock args = object_is (Q (op.CallLibrary known.PthreadMutexTrylock args)) p rs args _ (λ n. tt) (λ o n. refl)
  known_outcome known.PthreadMutexUnlock args = object_is (Q (op.CallLibrary known.PthreadMutexUnlock args)) p rs args _ (λ n. tt) (λ o n. refl)
  known_outcome known.PthreadMutexDestroy args = object_is (Q (op.CallLibrary known.PthreadMutexDestroy args)) p rs args _ (λ n. tt) (λ o n. refl)
  known_outcome known.PthreadCondSignal args = object_is (Q (op.CallLibrary known.PthreadCondSignal args)) p rs args _ (λ n. tt) (λ o n. refl)
  known_outcome known.PthreadCondBroadcast args = object_is (Q (op.CallLibrary known.PthreadCondBroadcast args)) p rs args _ (λ n. tt) (λ o n. refl)
  known_outcome known.PthreadCondDestroy args = object_is (Q (op.CallLibrary known.PthreadCondDestroy args)) p rs args _ (λ n. tt) (λ o n. refl)
  known_outcome known.PthreadBarrierDestroy args = object_is (Q (op.CallLibrary known.PthreadBarrierDestroy args)) p rs args _ (λ n. tt) (λ o n. refl)
  known_outcome known.PthreadBarrierInit args = barrier_init_is (Q (op.CallLibrary known.PthreadBarrierInit args)) p rs args (λ n. tt) (λ o n m. refl)
  known_outcome known.PthreadCondWait args = wait_is (Q (op.CallLibrary known.PthreadCondWait args)) p h rs args (λ n. tt) (λ o m n. waited o m n h)
    where
      waited : (o m n : ℕ) (b : Bool) → RequestMoves (f ∷ fs) (step.wait_request b o m)
          (if b then stepped f x.result (result_number p (own_memory (running t h f fs heap)) rs (op.CallLibrary known.PthreadCondWait args) n) ∷ fs else f ∷ fs)
      waited o m n true = refl
      waited o m n false = refl
  known_outcome known.PthreadBarrierWait args = object_is (Q (op.CallLibrary known.PthreadBarrierWait args)) p rs args _ (λ n. tt) (λ o n. waited o n h)
    where
      waited : (o n : ℕ) (b : Bool) → RequestMoves (f ∷ fs) (step.barrier_request b o)
          (if b then stepped f x.result (result_number p (own_memory (running t h f fs heap)) rs (op.CallLibrary known.PthreadBarrierWait args) n) ∷ fs else f ∷ fs)
      waited o n true = refl
      waited o n false = refl

  deep : (n : ℕ) (g : Frame) (gs : List Frame) → (length (f ∷ g ∷ gs) == 1) ≡ false
  deep n g gs = grind (arith, nat_tests)

  back : (v : Option Value) (n : ℕ) → Q (op.Ret v) (return_action (length (f ∷ fs)) n)
  back v n = go fs refl
    where
      go : (gs : List Frame) → fs ≡ gs → Q (op.Ret v) (return_action (length (f ∷ fs)) n)
      go [] e = subst (λ (b : Bool). Q (op.Ret v) (if b then actions.Event (requests.Exit n true) else actions.Local)) (sym one)
          (λ k. ap (λ (l : List Frame). returned p l (number_at p rs (operands_of (op.Ret v)) 0)) e)
        where
          one : (length (f ∷ fs) == 1) ≡ true
          one = rw e (grind (arith, nat_tests))
      go (g ∷ gs) e = subst (λ (b : Bool). Q (op.Ret v) (if b then actions.Event (requests.Exit n true) else actions.Local)) (sym more)
          (inr (inr (inl (record { back = tt; number = number_at p rs (operands_of (op.Ret v)) 0; is = refl }))))
        where
          more : (length (f ∷ fs) == 1) ≡ false
          more = rw e (deep n g gs)

  returning : (v : Option Value) → Q (op.Ret v) (returning_action p rs (length (f ∷ fs)) v)
  returning None = back None 0
  returning (Some w) = on_value_is (Q (op.Ret (Some w))) (operand p rs w) _ (λ n. tt) (λ n e. back (Some w) n)

  pub op_outcome : (o : Op) → Q o (op_action p (own_memory (running t h f fs heap)) h rs (length (f ∷ fs)) (total (f ∷ fs)) x.block.0 o)
  op_outcome (op.Divide d w a b) = on_value_is (Q (op.Divide d w a b)) (operand p rs a) _ (λ n. tt)
      (λ i u. on_value_is (Q (op.Divide d w a b)) (operand p rs b) _ (λ n. tt)
      (λ j v. divided_is (Q (op.Divide d w a b)) (divided d w i j) (λ n. tt) (past (op.Divide d w a b) _ refl (λ g c. c))))
  op_outcome (op.Phi from) = tt
  op_outcome (op.Br to) = edge_is (Q (op.Br to)) p rs x.block.0 to.0 (λ n. tt) (along (op.Br to) to.0 refl (here to.0 []) refl)
  op_outcome (op.CondBr c a b) =
      on_value_is (Q (op.CondBr c a b)) (operand p rs c) _ (λ n. tt) (λ n u. edge_is (Q (op.CondBr c a b)) p rs x.block.0 (chosen n a.0 b.0) (λ n. tt)
      (along (op.CondBr c a b) (chosen (given (operand p rs c)) a.0 b.0) refl (chosen_among (given (operand p rs c)) a.0 b.0) refl))
  op_outcome (op.Switch w on other cases) =
      on_value_is (Q (op.Switch w on other cases)) (operand p rs on) _ (λ n. tt) (λ n u. edge_is (Q (op.Switch w on other cases)) p rs x.block.0 (case_of cases other.0 n) (λ n. tt)
      (along (op.Switch w on other cases) (case_of cases other.0 (given (operand p rs on))) refl (switched_among cases other.0 (given (operand p rs on))) refl))
  op_outcome (op.Call g args) = on_all_is (Q (op.Call g args)) p rs args _ (λ n. tt) (call_is (Q (op.Call g args)) p g (length (f ∷ fs)) (total (f ∷ fs)) (λ n. tt)
      (inr (inl (record {
        function = g;
        call = refl;
        frame = entered p g f.height (map (operand p rs) args);
        named = entered_function p g f.height (map (operand p rs) args);
        place = entered_place p g f.height (map (operand p rs) args);
        is = refl;
      }))))
  op_outcome (op.Ret v) = returning v
  op_outcome op.Unreachable = tt
  op_outcome (op.Alloca bytes) = room_is (Q (op.Alloca bytes)) (has_room (own_memory (running t h f fs heap)) (granules_for bytes)) (λ n. tt)
      (inr (inr (inr (record {
        plain = refl;
        no_call = λ g c. c;
        frame = step.taken (stepped f x.result (step.pushed (own_memory (running t h f fs heap)) bytes)) (granules_for bytes);
        function = refl;
        place = refl;
        is = refl;
      }))))
  op_outcome (op.Load w from) = on_value_is (Q (op.Load w from)) (operand p rs from) _ (λ n. tt)
      (λ a u. place_known (Q (op.Load w from)) a (bytes_of w) _ (λ n. tt) (λ r e. (tt, λ n. past (op.Load w from) _ refl (λ g c. c))))
  op_outcome (op.Store w v at) =
      on_value_is (Q (op.Store w v at)) (operand p rs v) _ (λ n. tt) (λ n u.
      on_value_is (Q (op.Store w v at)) (operand p rs at) _ (λ n. tt) (λ a k.
      place_known (Q (op.Store w v at)) a (bytes_of w) _ (λ n. tt) (λ r e. (
        subst (λ (n : ℕ). IsPlacedAt n r) (sym (ap given k)) (record { start = first_byte a (bytes_of w) r e; within = within_bounds a (bytes_of w) r e }),
        tt,
        past (op.Store w v at) _ refl (λ g c. c),
      ))))
  op_outcome (op.CallLibrary k args) = known_outcome k args
  op_outcome o = on_all_is (Q o) p rs (operands_of o) actions.Local (λ n. tt) (past o _ refl (λ g c. c))
