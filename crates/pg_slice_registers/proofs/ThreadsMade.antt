-- The threads of a run, one of which is made.
use Rattle.std.proofs.Common.{◌≡◌, ℕ, List, [], ◌∷◌, ◌++◌, length, slice_index, arith, refl, ap, sym, ◌∙◌, zero, suc, ◌<◌, slice_index_or, slice_set}
use Rattle.pg_ir.specs.Program.{NumberedProgram}
use Rattle.pg_precondition.specs.Nodes.{NodeList}
use Rattle.pg_run_trace.specs.declared.step.Event.{Event}
use Rattle.pg_run_trace.specs.declared.turn.TurnKind.{TurnKind}
use Rattle.pg_run_trace.specs.declared.turn.TurnKind.TheVariants as turns
use Rattle.pg_slice_rules.specs.Extents.{Extent}
use Rattle.pg_slice_rules.specs.SymbolicValues.{Symbolic}
use Rattle.pg_slice_rules.specs.Known.{SymbolicThread, fresh_thread, threads_after, on_thread}
use Rattle.pg_slice_values.specs.SymbolicNodes.{Grew}
use Rattle.pg_slice_registers.specs.SymbolicRegisterNodes.{AreCalls, CallList, calls_by}
use Rattle.pg_slice_registers.specs.Threads.{AreThreads, thread_by, threads_by}
use Rattle.pg_slice_registers.proofs.ThreadCalls.{calls_kept, calls_stay}

one_kept : (old new : NodeList) (t : CallList) (es : List Extent) → Grew old new → AreCalls (length old) t → thread_by new t es ≡ thread_by old t es
one_kept old new t es g h = let e : calls_by new t ≡ calls_by old t = calls_kept old new t g h in ap (λ (cs : List (List Symbolic)). let s : SymbolicThread = record { calls = cs; extents = es } in s) e

pub threads_kept : (old new : NodeList) (ts : List CallList) (extents : List (List Extent)) → Grew old new → AreThreads (length old) ts → threads_by new ts extents ≡ threads_by old ts extents
threads_kept old new [] extents g h = refl
threads_kept old new (t ∷ ts) [] g h = ap (λ x. x ∷ threads_by new ts []) (one_kept old new t [] g h.0) ∙ ap (λ xs. thread_by old t [] ∷ xs) (threads_kept old new ts [] g h.1)
threads_kept old new (t ∷ ts) (es ∷ extents) g h = ap (λ x. x ∷ threads_by new ts extents) (one_kept old new t es g h.0)
    ∙ ap (λ xs. thread_by old t es ∷ xs) (threads_kept old new ts extents g h.1)

pub threads_stay : (old new : NodeList) (ts : List CallList) → Grew old new → AreThreads (length old) ts → AreThreads (length new) ts
threads_stay old new [] g h = tt
threads_stay old new (t ∷ ts) g h = (calls_stay old new t g h.0, threads_stay old new ts g h.1)

pub threads_push : (n : ℕ) (ts : List CallList) (t : CallList) → AreThreads n ts → AreCalls n t → AreThreads n (ts ++ t ∷ [])
threads_push n [] t a h = (h, tt)
threads_push n (u ∷ ts) t a h = (a.0, threads_push n ts t a.1 h)

pub one_thread : (ns : NodeList) (ts : List CallList) (t : CallList) (extents : List (List Extent)) → length extents ≡ length ts →
    threads_by ns (ts ++ t ∷ []) (extents ++ [] ∷ []) ≡ threads_by ns ts extents ++ thread_by ns t [] ∷ []
one_thread ns [] t [] e = refl
one_thread ns [] t (es ∷ extents) e = absurd (omega arith)
one_thread ns (u ∷ ts) t [] e = absurd (omega arith)
one_thread ns (u ∷ ts) t (es ∷ extents) e = ap (λ xs. thread_by ns u es ∷ xs) (one_thread ns ts t extents (omega arith))

pub create_is : (p : NumberedProgram) (e : Event) (kind : TurnKind) (threads : List SymbolicThread) → kind ≡ turns.Create →
    threads ++ fresh_thread p (slice_index e.operands 2) ∷ [] ≡ threads_after p e kind threads
create_is p e kind threads h = ap (λ (k : TurnKind). threads_after p e k threads) (sym h)

-- one thread changed, and nodes were added
pub on_one : (old new : NodeList) (f : List (List Symbolic) → List (List Symbolic)) (t : ℕ) (ts : List CallList) (calls : CallList) (extents : List (List Extent)) → Grew old new →
    AreThreads (length old) ts → length extents ≡ length ts → t < length ts →
    calls_by new calls ≡ f (calls_by old (slice_index_or ts t [])) → threads_by new (slice_set ts t calls) extents ≡ on_thread f t (threads_by old ts extents)
on_one old new f t [] calls extents g a l h e = absurd (omega arith)
on_one old new f t (u ∷ ts) calls [] g a l h e = absurd (omega arith)
on_one old new f zero (u ∷ ts) calls (es ∷ extents) g a l h e =
    ap (λ (cs : List (List Symbolic)). let s : SymbolicThread = record { calls = cs; extents = es } in s ∷ threads_by new ts extents) e
    ∙ ap (λ (xs : List SymbolicThread). let s : SymbolicThread = record { calls = f (calls_by old u); extents = es } in s ∷ xs) (threads_kept old new ts extents g a.1)
on_one old new f (suc t) (u ∷ ts) calls (es ∷ extents) g a l h e =
    ap (λ (x : SymbolicThread). x ∷ threads_by new (slice_set ts t calls) extents) (one_kept old new u es g a.0)
    ∙ ap (λ (xs : List SymbolicThread). thread_by old u es ∷ xs) (on_one old new f t ts calls extents g a.1 (omega arith) (omega arith) e)
