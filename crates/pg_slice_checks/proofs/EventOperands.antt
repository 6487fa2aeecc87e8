-- What an event asks of its first operands, one after another.
use Rattle.std.proofs.Common.{◌≡◌, ℕ, zero, suc, ◌+◌, ◌≤◌, List, [], ◌∷◌, ◌++◌, length, map, Bool, true, false, refl, sym, ap, ◌∙◌, length-append, arith, slice_index}
use Rattle.std.proofs.lemmas.Bool.{true≢false}
use Rattle.pg_ir.specs.declared.instr.Op.{Op}
use Rattle.pg_ir.specs.declared.instr.Op.TheVariants as op
use Rattle.pg_ir.specs.declared.library_call.LibraryCall.{LibraryCall}
use Rattle.pg_ir.specs.declared.library_call.LibraryCall.TheVariants as known
use Rattle.pg_precondition.specs.declared.check.Test.TheVariants as test
use Rattle.pg_run_trace.specs.declared.step.Event.{Event}
use Rattle.pg_run_trace.specs.declared.turn.TurnKind.{TurnKind}
use Rattle.pg_run_trace.specs.declared.turn.TurnKind.TheVariants as turns
use Rattle.pg_slice_memory.specs.pg_slice_rules.SymbolicValues.{Symbolic}
use Rattle.pg_slice_memory.specs.pg_slice_rules.Rules.{Value, checked, checked_of}
use Rattle.pg_slice_checks.specs.Steps.{at, below, equal_needs, event_needs, is_start}

map_both : {A B : Type 0} (f : A → B) (xs ys : List A) → map f (xs ++ ys) ≡ map f xs ++ map f ys
map_both f [] ys = refl
map_both f (x ∷ xs) ys = ap (λ l. f x ∷ l) (map_both f xs ys)

pub below_more : (ss : List Symbolic) (e : Event) (k : ℕ) → equal_needs ss e (below (k + 1)) ≡ equal_needs ss e (below k) ++ Value (at ss k) (test.Eq (slice_index e.operands k) ∷ []) ∷ []
below_more ss e k = let q : k + 1 ≡ suc k = omega arith in rw q (map_both (λ n. Value (at ss n) (test.Eq (slice_index e.operands n) ∷ [])) (below k) (k ∷ []))

pub below_length : (n : ℕ) → length (below n) ≡ n
below_length zero = refl
below_length (suc n) = length-append (below n) (n ∷ []) ∙ ap (λ k. k + 1) (below_length n) ∙ (let q : n + 1 ≡ suc n = omega arith in q)

few_checked : (k : LibraryCall) → length (checked k) ≤ 4
few_checked known.PgIn = omega arith
few_checked known.PgInLen = omega arith
few_checked known.PgOut = omega arith
few_checked known.PgPrint = omega arith
few_checked known.Putchar = omega arith
few_checked known.Malloc = omega arith
few_checked known.Free = omega arith
few_checked known.PthreadCreate = omega arith
few_checked known.PthreadJoin = omega arith
few_checked known.PthreadExit = omega arith
few_checked known.PthreadMutexInit = omega arith
few_checked known.PthreadMutexLock = omega arith
few_checked known.PthreadMutexTrylock = omega arith
few_checked known.PthreadMutexUnlock = omega arith
few_checked known.PthreadMutexDestroy = omega arith
few_checked known.PthreadCondInit = omega arith
few_checked known.PthreadCondWait = omega arith
few_checked known.PthreadCondSignal = omega arith
few_checked known.PthreadCondBroadcast = omega arith
few_checked known.PthreadCondDestroy = omega arith
few_checked known.PthreadBarrierInit = omega arith
few_checked known.PthreadBarrierWait = omega arith
few_checked known.PthreadBarrierDestroy = omega arith

few_of : (o : Op) → length (checked_of o) ≤ 4
few_of (op.CallLibrary k args) = few_checked k
few_of _ = omega arith

pub few : (o : Op) (n : ℕ) → checked_of o ≡ below n → n ≤ 4
few o n e = let a = few_of o in let b = below_length n in let c : length (checked_of o) ≡ length (below n) = ap (λ l. length l) e in omega (arith, a, b, c)

pub enough : (o : Op) (n m : ℕ) → checked_of o ≡ below n → length (checked_of o) ≤ m → n ≤ m
enough o n m e a = let b = below_length n in let c : length (checked_of o) ≡ length (below n) = ap (λ l. length l) e in omega (arith, a, b, c)

pub started : (ss : List Symbolic) (o : Op) (e : Event) (kind : TurnKind) → is_start kind ≡ true → event_needs ss o e kind ≡ []
started ss o e turns.Start q = refl
started ss o e turns.Exit q = absurd (true≢false (sym q))
started ss o e turns.Create q = absurd (true≢false (sym q))
started ss o e turns.Join q = absurd (true≢false (sym q))
started ss o e turns.MutexInit q = absurd (true≢false (sym q))
started ss o e turns.Lock q = absurd (true≢false (sym q))
started ss o e turns.Trylock q = absurd (true≢false (sym q))
started ss o e turns.Unlock q = absurd (true≢false (sym q))
started ss o e turns.MutexDestroy q = absurd (true≢false (sym q))
started ss o e turns.CondInit q = absurd (true≢false (sym q))
started ss o e turns.Wait q = absurd (true≢false (sym q))
started ss o e turns.Wake q = absurd (true≢false (sym q))
started ss o e turns.Signal q = absurd (true≢false (sym q))
started ss o e turns.Broadcast q = absurd (true≢false (sym q))
started ss o e turns.CondDestroy q = absurd (true≢false (sym q))
started ss o e turns.BarrierInit q = absurd (true≢false (sym q))
started ss o e turns.Arrive q = absurd (true≢false (sym q))
started ss o e turns.Leave q = absurd (true≢false (sym q))
started ss o e turns.BarrierDestroy q = absurd (true≢false (sym q))
started ss o e turns.Out q = absurd (true≢false (sym q))
started ss o e turns.Putchar q = absurd (true≢false (sym q))
started ss o e turns.Load q = absurd (true≢false (sym q))
started ss o e turns.Store q = absurd (true≢false (sym q))

-- an event that is no start
pub event_by : (ss : List Symbolic) (o : Op) (e : Event) (kind : TurnKind) → is_start kind ≡ false → event_needs ss o e kind ≡ equal_needs ss e (checked_of o)
event_by ss o e turns.Start q = absurd (true≢false q)
event_by ss o e turns.Exit q = refl
event_by ss o e turns.Create q = refl
event_by ss o e turns.Join q = refl
event_by ss o e turns.MutexInit q = refl
event_by ss o e turns.Lock q = refl
event_by ss o e turns.Trylock q = refl
event_by ss o e turns.Unlock q = refl
event_by ss o e turns.MutexDestroy q = refl
event_by ss o e turns.CondInit q = refl
event_by ss o e turns.Wait q = refl
event_by ss o e turns.Wake q = refl
event_by ss o e turns.Signal q = refl
event_by ss o e turns.Broadcast q = refl
event_by ss o e turns.CondDestroy q = refl
event_by ss o e turns.BarrierInit q = refl
event_by ss o e turns.Arrive q = refl
event_by ss o e turns.Leave q = refl
event_by ss o e turns.BarrierDestroy q = refl
event_by ss o e turns.Out q = refl
event_by ss o e turns.Putchar q = refl
event_by ss o e turns.Load q = refl
event_by ss o e turns.Store q = refl
