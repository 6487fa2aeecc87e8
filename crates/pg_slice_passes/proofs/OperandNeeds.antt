-- What a step asks of its operands, by those that are read.
use Rattle.std.proofs.Common.{◌≡◌, ℕ, zero, suc, ◌<◌, ◌≤◌, Bool, true, false, cond, List, [], ◌∷◌, ◌++◌, length, map, Option, Some, None, IfSome, refl, sym, ap}
use Rattle.std.proofs.Common.{◌∙◌, arith, append_assoc}
use Rattle.std.specs.Prelude.{◌||◌, ◌&&◌, not, if◌then◌else◌, slice_index, is_some}
use Rattle.std.proofs.lemmas.Bool.{false≢true}
use Rattle.pg_ir.specs.declared.instr.Op.{Op}
use Rattle.pg_ir.specs.declared.instr.Op.TheVariants as op
use Rattle.pg_ir.specs.declared.library_call.LibraryCall.{LibraryCall}
use Rattle.pg_ir.specs.declared.library_call.LibraryCall.TheVariants as known
use Rattle.pg_precondition.specs.declared.check.Test.TheVariants as test
use Rattle.pg_run_trace.specs.declared.turn.TurnKind.{TurnKind}
use Rattle.pg_run_trace.specs.declared.turn.TurnKind.TheVariants as turns
use Rattle.pg_run_trace.specs.declared.step.Access.{Access}
use Rattle.pg_run_trace.specs.declared.step.Event.{Event}
use Rattle.pg_run_trace.specs.declared.step.Write.{Write}
use Rattle.pg_run_trace.specs.declared.step.StepKind.TheVariants as kinds
use Rattle.pg_run_trace.specs.Steps.{access_in, access_by}
use Rattle.pg_slice_rules.specs.SymbolicValues.{Symbolic}
use Rattle.pg_slice_rules.specs.Rules.{Need, Value, address_index, checked, checked_of, edge_tests, is_malloc, write_index}
use Rattle.pg_slice_checks.specs.Steps.{AreEnough, at, equal_needs, event_needs, bounds_by, bounds_needs, step_needs, value_needs}
use Rattle.pg_slice_registers.specs.Events.{IsLibraryCall, IsAsked}
use Rattle.pg_slice_passes.specs.Given.{FitsBranch, FitsEvent}
use Rattle.pg_slice_passes.specs.Passes.{is_library_call}

-- ---- a load or a store

pub index_small : (o : Op) → address_index o ≤ 1
index_small (op.Store w v at) = omega arith
index_small o = omega arith

of_two : (s : Symbolic) (k : ℕ) → k ≤ 1 → at (s ∷ s ∷ []) k ≡ s
of_two s zero h = refl
of_two s (suc zero) h = refl
of_two s (suc (suc k)) h = absurd (omega (arith, h))

-- it asks of its address alone
pub access_same : (fixed : Bool) (s : Symbolic) (ss : List Symbolic) (o : Op) (a : Access) → s ≡ at ss (address_index o)
    → step_needs fixed (s ∷ s ∷ []) o (kinds.Access a) ≡ step_needs fixed ss o (kinds.Access a)
access_same fixed s ss o a h =
    ap (λ (x : Symbolic). (if a.event || fixed then Value x (test.Eq a.pointer ∷ []) ∷ [] else []) ++ bounds_by x (Some a)) (of_two s (address_index o) (index_small o) ∙ h)

pub access_enough : (o : Op) (a : Access) → AreEnough o (kinds.Access a) 2
access_enough o a = let h = index_small o in omega (arith, h)

-- ---- a call of a function that the program doesn't define

few : (f : LibraryCall) → length (checked f) ≤ 3
few known.PthreadCreate = omega arith
few known.PthreadJoin = omega arith
few known.PthreadMutexInit = omega arith
few known.PthreadCondInit = omega arith
few known.PthreadCondWait = omega arith
few known.PthreadBarrierInit = omega arith
few known.PthreadMutexLock = omega arith
few known.PthreadMutexTrylock = omega arith
few known.PthreadMutexUnlock = omega arith
few known.PthreadMutexDestroy = omega arith
few known.PthreadCondSignal = omega arith
few known.PthreadCondBroadcast = omega arith
few known.PthreadCondDestroy = omega arith
few known.PthreadBarrierWait = omega arith
few known.PthreadBarrierDestroy = omega arith
few f = omega arith

few_of : (o : Op) → length (checked_of o) ≤ 3
few_of (op.CallLibrary k args) = few k
few_of o = omega arith

write_small : (o : Op) → write_index o ≤ 1
write_small (op.CallLibrary known.PthreadJoin args) = omega arith
write_small o = omega arith

pub call_enough : (o : Op) (e : Event) → AreEnough o (kinds.Event e) 3
call_enough o e = (few_of o, go e.write)
  where
    go : (w : Option Write) → IfSome w (λ (x : Write). write_index o < 3)
    go None = tt
    go (Some w) = let h = write_small o in omega (arith, h)

module _ (xs ys : List Symbolic) (first : at xs 0 ≡ at ys 0) (second : at xs 1 ≡ at ys 1) (third : at xs 2 ≡ at ys 2) where
  equal_same : (e : Event) (f : LibraryCall) → equal_needs xs e (checked f) ≡ equal_needs ys e (checked f)
  equal_same e known.PthreadCreate = rw (first, second, third) refl
  equal_same e known.PthreadBarrierInit = rw (first, second, third) refl
  equal_same e known.PthreadJoin = rw (first, second) refl
  equal_same e known.PthreadMutexInit = rw (first, second) refl
  equal_same e known.PthreadCondInit = rw (first, second) refl
  equal_same e known.PthreadCondWait = rw (first, second) refl
  equal_same e known.PthreadMutexLock = rw first refl
  equal_same e known.PthreadMutexTrylock = rw first refl
  equal_same e known.PthreadMutexUnlock = rw first refl
  equal_same e known.PthreadMutexDestroy = rw first refl
  equal_same e known.PthreadCondSignal = rw first refl
  equal_same e known.PthreadCondBroadcast = rw first refl
  equal_same e known.PthreadCondDestroy = rw first refl
  equal_same e known.PthreadBarrierWait = rw first refl
  equal_same e known.PthreadBarrierDestroy = rw first refl
  equal_same e f = refl

  equal_of : (e : Event) (o : Op) → equal_needs xs e (checked_of o) ≡ equal_needs ys e (checked_of o)
  equal_of e (op.CallLibrary f args) = equal_same e f
  equal_of e o = refl

  event_same : (e : Event) (o : Op) (kind : TurnKind) → event_needs xs o e kind ≡ event_needs ys o e kind
  event_same e o turns.Start = refl
  event_same e o kind = equal_of e o

  at_write : (k : ℕ) → k ≤ 1 → at xs k ≡ at ys k
  at_write zero h = first
  at_write (suc zero) h = second
  at_write (suc (suc k)) h = absurd (omega (arith, h))

  -- it asks of the first three operands alone
  pub event_asks_same : (o : Op) (e : Event) → step_needs false xs o (kinds.Event e) ≡ step_needs false ys o (kinds.Event e)
  event_asks_same o e =
      ap (λ (ns : List Need). ns ++ bounds_by (at xs (write_index o)) (access_by e.write)) (event_same e o e.kind)
      ∙ ap (λ (s : Symbolic). event_needs ys o e e.kind ++ bounds_by s (access_by e.write)) (at_write (write_index o) (write_small o))

-- ---- steps that ask nothing

no_checks : (o : Op) → is_library_call o ≡ false → checked_of o ≡ []
no_checks (op.CallLibrary f args) h = absurd (false≢true (sym h))
no_checks o h = refl

no_event : (ss : List Symbolic) (e : Event) (o : Op) (kind : TurnKind) → checked_of o ≡ [] → event_needs ss o e kind ≡ []
no_event ss e o turns.Start h = refl
no_event ss e o kind h = ap (λ (ks : List ℕ). equal_needs ss e ks) h

no_write : (o : Op) (e : Event) → is_library_call o ≡ false → FitsEvent e o → e.write ≡ None
no_write (op.CallLibrary f args) e h fits = absurd (false≢true (sym h))
no_write (op.Ret v) e h fits = fits.1
no_write o e h fits = fits.1

-- an event that is no call: a start, and an exit by a return
pub no_call : (fixed : Bool) (ss : List Symbolic) (o : Op) (e : Event) → is_library_call o ≡ false → FitsEvent e o → step_needs fixed ss o (kinds.Event e) ≡ []
no_call fixed ss o e h fits =
    ap (λ (ns : List Need). ns ++ bounds_by (at ss (write_index o)) (access_by e.write)) (no_event ss e o e.kind (no_checks o h))
    ∙ ap (λ (w : Option Write). bounds_by (at ss (write_index o)) (access_by w)) (no_write o e h fits)

pub is_call : (o : Op) → is_library_call o ≡ true → IsLibraryCall o
is_call (op.CallLibrary f args) h = tt
is_call o h = absurd (false≢true h)

pub malloc_asked : (o : Op) → is_malloc o ≡ true → IsAsked o 0
malloc_asked (op.CallLibrary f args) h = tt
malloc_asked o h = absurd (false≢true h)

pub branch_asked : (o : Op) → FitsBranch o → IsAsked o 0
branch_asked (op.CondBr c a b) h = tt
branch_asked (op.Switch w on other cases) h = refl
branch_asked o h = absurd h

-- a branch and an allocation ask of their first operand alone
pub branch_same : (fixed : Bool) (s : Symbolic) (ss : List Symbolic) (o : Op) (k : ℕ) → s ≡ at ss 0 → step_needs fixed (s ∷ []) o (kinds.Branch k) ≡ step_needs fixed ss o (kinds.Branch k)
branch_same fixed s ss o k h = ap (λ (x : Symbolic). (if fixed then Value x (edge_tests o k) ∷ [] else []) ++ []) h

pub size_same : (fixed : Bool) (s : Symbolic) (ss : List Symbolic) (o : Op) (size place : ℕ) → s ≡ at ss 0
    → step_needs fixed (s ∷ []) o (kinds.Allocation size place) ≡ step_needs fixed ss o (kinds.Allocation size place)
size_same fixed s ss o size place h = ap (λ (x : Symbolic). (if is_malloc o then Value x (test.Eq size ∷ []) ∷ [] else []) ++ []) h

pub no_size : (fixed : Bool) (ss : List Symbolic) (o : Op) (size place : ℕ) → is_malloc o ≡ false → step_needs fixed ss o (kinds.Allocation size place) ≡ []
no_size fixed ss o size place h = ap (λ (b : Bool). (if b then Value (at ss 0) (test.Eq size ∷ []) ∷ [] else []) ++ []) h
