-- A thread inside: its next action, and its local state behind it.
use Rattle.std.proofs.Common.{◌≡◌, ℕ, ◌*◌, ◌<◌, ◌^◌, Bool, true, false, List, [], ◌∷◌, length, Option, Some, None, refl, sym, ap, ◌∙◌, subst, arith, inl, inr}
use Rattle.std.proofs.Common.{◌⊎◌}
use Rattle.std.specs.Prelude.{Contains, slice_get, slice_index}
use Rattle.pg_num.specs.Places.{ByteRange}
use Rattle.pg_ir.specs.declared.library_call.LibraryCall.{LibraryCall}
use Rattle.pg_ir.specs.declared.library_call.LibraryCall.TheVariants as known
use Rattle.pg_ir.specs.declared.instr.Instr.{Instr}
use Rattle.pg_ir.specs.declared.instr.Op.{Op}
use Rattle.pg_ir.specs.declared.instr.Op.TheVariants as op
use Rattle.pg_ir.specs.Program.{NumberedProgram, function_of}
use Rattle.pg_ir.specs.Edges.{is_terminator, targets_of, successors}
use Rattle.pg_region_paths.specs.declared.path.Path.{Path}
use Rattle.pg_region_accesses.specs.Accesses.{RootedList, known_accesses, op_accesses}
use Rattle.pg_run_thread.specs.declared.action.Action.{Action}
use Rattle.pg_run_thread.specs.declared.action.Action.TheVariants as actions
use Rattle.pg_run_thread.specs.declared.thread_memory.ThreadMemory.{ThreadMemory}
use Rattle.pg_run_thread.specs.LocalState.{Frame, LocalState, own_memory}
use Rattle.pg_run_thread.specs.Operands.{operand, operands_of, given, first_four}
use Rattle.pg_run_thread.specs.Compute.{chosen}
use Rattle.pg_run_thread.specs.EdgeStep.{case_of}
use Rattle.pg_run_thread.specs.Step as step
use Rattle.pg_run_thread.specs.Step.{next, after, instr_after, op_action, op_after, halfway_after, heap_after, top_registers, total, moved, on_value, edge_action}
use Rattle.pg_run_thread.specs.Told.{id_of, operand_values}
use Rattle.pg_run_thread.proofs.NextActions.{next_at, operands_at}
use Rattle.pg_run_thread.proofs.StatesAfter.{after_at}
use Rattle.pg_run_trace.specs.declared.step.StepKind.{StepKind}
use Rattle.pg_run_trace.specs.declared.step.StepKind.TheVariants as told
use Rattle.pg_run.specs.MachineStep.{op_told}
use Rattle.pg_run.proofs.Actions.{on_value_is, edge_is}
use Rattle.pg_law_instances.specs.Leads.{KeepsCells}
use Rattle.pg_law_instances.specs.Inside.{Instance, Stands, IsInside, Joins, IsAtBranch, IsBranch, edge_at, edge_taken, region_set, registers_by}
use Rattle.pg_law_instances.proofs.FramePlaces.{quiet_at}
use Rattle.pg_law_instances.proofs.FramesBehindEdges.{edge_stands, edge_joins, target_fits, successors_of, chosen_among, switched_among}
use Rattle.pg_law_instances.proofs.TopFrames.{AtJoin, Arrived, top_of}
use Rattle.pg_law_instances.proofs.NextActions.{Accesses, Goes, op_goes}
use Rattle.pg_ir.specs.declared.value.Value.{Value}

-- ---- what a quiet operation leaves as it is

-- neither a request nor an allocation is told
abbrev pub IsCalmKind : StepKind → Type 0
IsCalmKind told.Other = Unit {0}
IsCalmKind (told.Branch c) = Unit {0}
IsCalmKind k = ⊥

pub record IsCalm (p : NumberedProgram) (h : Bool) (r : ThreadMemory) (rs : List (Option ℕ)) (o : Op) : Type 0 where
  pub halfway : halfway_after h o ≡ false
  pub heap : heap_after p r rs o ≡ r.heap
  pub told : (ns : List ℕ) (n : ℕ) → IsCalmKind (op_told ns n o)

known_calm : (p : NumberedProgram) (h : Bool) (r : ThreadMemory) (rs : List (Option ℕ)) (k : LibraryCall) (args : List Value) (zs : RootedList) → known_accesses k ≡ Some zs
    → IsCalm p h r rs (op.CallLibrary k args)
known_calm p h r rs known.PgIn args zs e = record { halfway = refl; heap = refl; told = λ ns n. tt }
known_calm p h r rs known.PgInLen args zs e = record { halfway = refl; heap = refl; told = λ ns n. tt }
known_calm p h r rs _ args zs e = absurd cc

pub quiet_calm : (p : NumberedProgram) (h : Bool) (r : ThreadMemory) (rs : List (Option ℕ)) (m : Bool) (gated : ℕ → Bool) (sums : ℕ → Option RootedList) (f : ℕ → Option Path) (i : ℕ)
    (o : Op) (zs : RootedList) → op_accesses m gated sums f i o ≡ Some zs → IsCalm p h r rs o
quiet_calm p h r rs m gated sums f i (op.CallLibrary k args) zs e = known_calm p h r rs k args zs e
quiet_calm p h r rs m gated sums f i (op.Alloca bytes) zs e = absurd cc
quiet_calm p h r rs m gated sums f i o zs e = record { halfway = refl; heap = refl; told = λ ns n. tt }

-- ---- where the next action of a thread leads

-- from the first state to the second: inside, or by the edge to the join
abbrev pub GoesOn : Instance → LocalState → LocalState → Type 0
GoesOn I l z = IsInside I z ⊎ Joins I l z

abbrev pub GoesFrom : Instance → (ByteRange → ℕ) → LocalState → Action → Type 0
GoesFrom I m l actions.Local = GoesOn I l (after I.program l 0)
GoesFrom I m l (actions.In i) = (n : ℕ) → GoesOn I l (after I.program l n)
GoesFrom I m l actions.InLen = (n : ℕ) → GoesOn I l (after I.program l n)
GoesFrom I m l (actions.Load r) = Accesses I (id_of l) false (slice_index (operand_values I.program l) 0) r × GoesOn I l (after I.program l (m r))
GoesFrom I m l (actions.Store r n) = Accesses I (id_of l) true (slice_index (operand_values I.program l) 1) r × GoesOn I l (after I.program l 0)
GoesFrom I m l (actions.Event r) = ⊥
GoesFrom I m l (actions.Trap name) = Unit {0}
GoesFrom I m l actions.Ended = Unit {0}

-- what a thread's instruction tells is calm, and its next action leads on
pub record Proceeds (I : Instance) (m : ByteRange → ℕ) (l : LocalState) : Type 0 where
  pub goes : GoesFrom I m l (next I.program l)
  pub calm : (x : Instr) → slice_get I.program.instrs (id_of l) ≡ Some x → (ns : List ℕ) (n : ℕ) → IsCalmKind (op_told ns n x.op)

module _ (I : Instance) (m : ByteRange → ℕ) (thread heap : ℕ) (halfway : Bool) (f : Frame) (fs : List Frame) where
  abbrev there : LocalState
  there = record { thread = thread; begun = true; halfway = halfway; frames = f ∷ fs; heap = heap }

  arrived : thread ≡ I.state.thread → heap ≡ I.state.heap → (x : Instr) (n : ℕ) → slice_get I.program.instrs f.place ≡ Some x
      → IsCalm I.program halfway (own_memory there) f.registers x.op → Arrived I fs (edge_taken I.program f.registers x.op) (op_after I.program there x n x.op)
      → GoesOn I there (after I.program there n)
  unfolding id_of
  arrived t h x n at calm a = subst (GoesOn I there) (sym (after_at I.program there x n refl (omega arith) at)) (go a)
    where
      go : Arrived I fs (edge_taken I.program f.registers x.op) (op_after I.program there x n x.op) → GoesOn I there (instr_after I.program there n (Some x))
      go (inl s) = inl (record { thread = t; begun = refl; halfway = calm.halfway; heap = calm.heap ∙ h; stands = s })
      go (inr j) = inr (record {
        lower = j.1;
        edge = ap (edge_at I.program f.registers) at ∙ j.2;
        there = record { thread = t; begun = refl; halfway = calm.halfway; heap = calm.heap ∙ h; frame = j.0.frame; frames = j.0.frames; joined = j.0.joined };
      })

  operand_first : (x : Instr) (k : ℕ) → slice_get I.program.instrs f.place ≡ Some x
      → slice_index (operand_values I.program there) k ≡ slice_index (first_four I.program f.registers (operands_of x.op)) k
  unfolding id_of
  operand_first x k at = ap (λ (ns : List ℕ). slice_index ns k) (operands_at I.program there x refl (omega arith) at)

  lift : thread ≡ I.state.thread → heap ≡ I.state.heap → (x : Instr) → slice_get I.program.instrs f.place ≡ Some x → IsCalm I.program halfway (own_memory there) f.registers x.op
      → (a : Action) → Goes I m there f.place f.registers x x.op a → GoesFrom I m there a
  unfolding id_of
  lift t h x at calm actions.Local g = arrived t h x 0 at calm g
  lift t h x at calm (actions.In i) g = λ n. arrived t h x n at calm (g n)
  lift t h x at calm actions.InLen g = λ n. arrived t h x n at calm (g n)
  lift t h x at calm (actions.Load r) g = (subst (λ (w : ℕ). Accesses I f.place false w r) (sym (operand_first x 0 at)) g.0, arrived t h x (m r) at calm g.1)
  lift t h x at calm (actions.Store r n) g = (subst (λ (w : ℕ). Accesses I f.place true w r) (sym (operand_first x 1 at)) g.0, arrived t h x 0 at calm g.1)
  lift t h x at calm (actions.Event r) g = absurd g
  lift t h x at calm (actions.Trap name) g = tt
  lift t h x at calm actions.Ended g = tt

  same_instr : (x y : Instr) → slice_get I.program.instrs f.place ≡ Some x → slice_get I.program.instrs f.place ≡ Some y → x ≡ y
  same_instr x y e q = cc

  ended : slice_get I.program.instrs f.place ≡ None → next I.program there ≡ actions.Ended
  unfolding next
  ended e = ap (step.instr_action I.program there f fs) e

  none_there : slice_get I.program.instrs f.place ≡ None → Proceeds I m there
  unfolding id_of
  none_there e = record { goes = subst (GoesFrom I m there) (sym (ended e)) tt; calm = λ y q. absurd cc }

  some_there : thread ≡ I.state.thread → heap ≡ I.state.heap → (x : Instr) → slice_get I.program.instrs f.place ≡ Some x → IsCalm I.program halfway (own_memory there) f.registers x.op →
      Goes I m there f.place f.registers x x.op (op_action I.program (own_memory there) halfway f.registers (length (f ∷ fs)) (total (f ∷ fs)) x.block.0 x.op) → Proceeds I m there
  unfolding id_of
  some_there t h x at calm g = record {
    goes = subst (GoesFrom I m there) (sym (next_at I.program there x refl (omega arith) at))
        (lift t h x at calm (op_action I.program (own_memory there) halfway f.registers (length (f ∷ fs)) (total (f ∷ fs)) x.block.0 x.op) g);
    calm = λ y q ns n. subst (λ (z : Instr). IsCalmKind (op_told ns n z.op)) (same_instr x y at q) (calm.told ns n);
  }

  -- inside
  inside_there : IsAtBranch I → KeepsCells I.recorded I.memory m → ((r : ByteRange) → m r < 2 ^ (8 * r.bytes)) → thread ≡ I.state.thread → heap ≡ I.state.heap
      → Stands I (f ∷ fs) → Proceeds I m there
  inside_there b keeps small t h s = go (slice_get I.program.instrs f.place) refl
    where
      go : (o : Option Instr) → slice_get I.program.instrs f.place ≡ o → Proceeds I m there
      go None e = none_there e
      go (Some x) e =
          let top = top_of I f fs b.region s in
          let q = quiet_at I top.set f x b.program top.quiet top.stands e in
          some_there t h x e (quiet_calm I.program halfway (own_memory there) f.registers top.set.returns I.gated I.sums _ f.place x.op q.0 q.1)
          (op_goes I b.program b.summaries b.region m keeps small thread heap halfway f fs s x e x.op q.0 refl q.1 q.2)

  -- at the branch
  branch_there : (b : IsAtBranch I) → thread ≡ I.state.thread → heap ≡ I.state.heap → f ≡ I.frame → fs ≡ I.lower → Proceeds I m there
  branch_there b t h fe fse = some_there t h b.branch at (calm b.branch.op b.kind) (goes b.branch.op refl b.kind)
    where
      at : slice_get I.program.instrs f.place ≡ Some b.branch
      at = rw fe b.is

      calm : (o : Op) → IsBranch o → IsCalm I.program halfway (own_memory there) f.registers o
      calm (op.CondBr c x y) k = record { halfway = refl; heap = refl; told = λ ns n. tt }
      calm (op.Switch w on other cases) k = record { halfway = refl; heap = refl; told = λ ns n. tt }
      calm o k = absurd k

      edge : (o : Op) → b.branch.op ≡ o → is_terminator o ≡ true → (to : ℕ) → Contains (targets_of o) to → edge_taken I.program f.registers o ≡ Some to
          → Arrived I fs (edge_taken I.program f.registers o) (moved I.program f b.branch.block.0 to ∷ fs)
      edge o e t to c taken = go (b.first to among)
        where
          here_at : Contains (targets_of b.branch.op) to
          here_at = subst (λ (z : Op). Contains (targets_of z) to) (sym e) c

          among : Contains (successors I.program b.branch.block.0) to
          among = subst (λ (ts : List ℕ). Contains ts to) (sym (successors_of I.program f.place b.branch b.program at (ap is_terminator e ∙ t))) here_at

          fits : (to < length I.program.blocks) × (function_of I.program to ≡ function_of I.program b.branch.block.0)
          fits = target_fits I.program f.place b.branch to b.program at here_at

          function : f.function ≡ I.frame.function
          function = ap (λ (z : Frame). z.function) fe

          kept : (r : ℕ) → registers_by f.registers r ≡ registers_by I.frame.registers r
          kept r = ap (λ (z : Frame). registers_by z.registers r) fe

          go : Contains I.blocks to ⊎ (to ≡ I.join) → Arrived I fs (edge_taken I.program f.registers o) (moved I.program f b.branch.block.0 to ∷ fs)
          go (inl d) = inl (inl (record {
            lower = fse;
            function = function;
            height = ap (λ (z : Frame). z.height) fe;
            stands = edge_stands I (region_set I) f b.branch.block.0 to b.program fits.0 (fits.1 ∙ b.function ∙ sym function) d (λ r u. kept r);
          }))
          go (inr j) = inr (
            subst (λ (c : ℕ). AtJoin I (moved I.program f b.branch.block.0 c ∷ fs)) (sym j) (record {
              frame = moved I.program f b.branch.block.0 I.join;
              frames = ap (λ (l : List Frame). moved I.program f b.branch.block.0 I.join ∷ l) fse;
              joined = edge_joins I f b.branch.block.0 function (ap (λ (z : Frame). z.height) fe) (λ r u. kept r);
            }),
            fse,
            taken ∙ ap (λ (c : ℕ). Some c) j,
          )

      goes : (o : Op) → b.branch.op ≡ o → IsBranch o → Goes I m there f.place f.registers b.branch o
          (op_action I.program (own_memory there) halfway f.registers (length (f ∷ fs)) (total (f ∷ fs)) b.branch.block.0 o)
      goes (op.CondBr c x y) e k =
          on_value_is (Goes I m there f.place f.registers b.branch (op.CondBr c x y)) (operand I.program f.registers c) _ (λ n. tt)
          (λ n u. edge_is (Goes I m there f.place f.registers b.branch (op.CondBr c x y)) I.program f.registers b.branch.block.0 (chosen n x.0 y.0) (λ n. tt)
          (edge (op.CondBr c x y) e refl (chosen (given (operand I.program f.registers c)) x.0 y.0) (chosen_among (given (operand I.program f.registers c)) x.0 y.0) refl))
      goes (op.Switch w on other cases) e k =
          on_value_is (Goes I m there f.place f.registers b.branch (op.Switch w on other cases)) (operand I.program f.registers on) _ (λ n. tt)
          (λ n u. edge_is (Goes I m there f.place f.registers b.branch (op.Switch w on other cases)) I.program f.registers b.branch.block.0 (case_of cases other.0 n) (λ n. tt)
          (edge (op.Switch w on other cases) e refl (case_of cases other.0 (given (operand I.program f.registers on))) (switched_among cases other.0 (given (operand I.program f.registers on))) refl))
      goes o e k = absurd k

-- ---- a thread with these parts

pub inside_proceeds : (I : Instance) (m : ByteRange → ℕ) (l : LocalState) → IsAtBranch I → KeepsCells I.recorded I.memory m → ((r : ByteRange) → m r < 2 ^ (8 * r.bytes))
    → IsInside I l → Proceeds I m l
inside_proceeds I m l b keeps small i = go l.frames refl i.stands
  where
    go : (fs : List Frame) → l.frames ≡ fs → Stands I fs → Proceeds I m l
    go [] e s = absurd s
    go (f ∷ fs) e s =
        let same : record { thread = l.thread; begun = true; halfway = l.halfway; frames = f ∷ fs; heap = l.heap } ≡ l = rw (sym e, sym i.begun) refl in
        subst (Proceeds I m) same (inside_there I m l.thread l.heap l.halfway f fs b keeps small i.thread i.heap s)

pub branch_proceeds : (I : Instance) (m : ByteRange → ℕ) → IsAtBranch I → Proceeds I m I.state
branch_proceeds I m b =
    let l = I.state in
    let same : record { thread = l.thread; begun = true; halfway = l.halfway; frames = I.frame ∷ I.lower; heap = l.heap } ≡ l = rw (sym b.frames, sym b.begun) refl in
    subst (Proceeds I m) same (branch_there I m l.thread l.heap l.halfway I.frame I.lower b refl refl refl refl)
