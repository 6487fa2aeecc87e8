-- The threads that are kept, while nodes are added, one of them changes, or one more is made.
use Rattle.std.proofs.Common.{◌≡◌, ℕ, zero, suc, ◌<◌, ◌≤◌, List, [], ◌∷◌, ◌++◌, length, Bool, slice_index, slice_index_or, slice_set, arith, refl, ap, sym}
use Rattle.std.proofs.Common.{◌∙◌, subst}
use Rattle.std.proofs.lemmas.List.{length-map}
use Rattle.pg_ir.specs.Program.{NumberedProgram}
use Rattle.pg_precondition.specs.Nodes.{NodeList}
use Rattle.pg_run_trace.specs.declared.step.Event.{Event}
use Rattle.pg_run_trace.specs.declared.turn.TurnKind.{TurnKind}
use Rattle.pg_run_trace.specs.declared.turn.TurnKind.TheVariants as turns
use Rattle.pg_slice_rules.specs.Extents.{Extent}
use Rattle.pg_slice_rules.specs.Known.{SymbolicThread, fresh_registers, fresh_thread, no_thread, on_thread, threads_after, top_of, with_extents}
use Rattle.pg_slice_rules.specs.SymbolicValues.{Symbolic}
use Rattle.pg_slice_decisions.specs.declared.open.OpenExtents.{OpenExtents}
use Rattle.pg_slice_decisions.specs.Open.{AreOpen}
use Rattle.pg_slice_decisions.specs.Places.{open_at}
use Rattle.pg_slice_values.specs.SymbolicNodes.{Grew}
use Rattle.pg_slice_registers.specs.SymbolicRegisterNodes.{AreCalls, AreSymbolicNodes, CallList, calls_by, registers_by, top_symbolic_nodes}
use Rattle.pg_slice_registers.specs.Threads.{AreThreads, thread_by, threads_by}
use Rattle.pg_slice_registers.proofs.ThreadCalls.{top_are, top_by}
use Rattle.pg_slice_registers.proofs.ThreadsMade.{on_one, threads_kept}
use Rattle.pg_slice_passes.specs.State.{EachOpen, KnowsThreads, extents_in}

-- ---- lists of which one member is set

pub set_length : {A : Type 0} (xs : List A) (t : ℕ) (x : A) → length (slice_set xs t x) ≡ length xs
set_length [] t x = refl
set_length (y ∷ xs) zero x = refl
set_length (y ∷ xs) (suc t) x = ap (λ (n : ℕ). suc n) (set_length xs t x)

pub set_past : {A : Type 0} (xs : List A) (t : ℕ) (x : A) → length xs ≤ t → slice_set xs t x ≡ xs
set_past [] t x h = refl
set_past (y ∷ xs) zero x h = absurd (omega arith)
set_past {A} (y ∷ xs) (suc t) x h = ap (λ (ys : List A). y ∷ ys) (set_past xs t x (omega arith))

-- ---- extents

pub extents_length : (ks : List SymbolicThread) → length (extents_in ks) ≡ length ks
extents_length ks = length-map ks _

pub extents_on : (f : List (List Symbolic) → List (List Symbolic)) (t : ℕ) (ks : List SymbolicThread) → extents_in (on_thread f t ks) ≡ extents_in ks
extents_on f t [] = refl
extents_on f zero (k ∷ ks) = refl
extents_on f (suc t) (k ∷ ks) = ap (λ (es : List (List Extent)). k.extents ∷ es) (extents_on f t ks)

pub extents_push : (ks : List SymbolicThread) (k : SymbolicThread) → extents_in (ks ++ k ∷ []) ≡ extents_in ks ++ k.extents ∷ []
extents_push [] k = refl
extents_push (x ∷ ks) k = ap (λ (es : List (List Extent)). x.extents ∷ es) (extents_push ks k)

-- the extents of a thread
pub extents_at : (ks : List SymbolicThread) (t : ℕ) → (slice_index_or ks t no_thread).extents ≡ slice_index_or (extents_in ks) t []
extents_at [] t = refl
extents_at (k ∷ ks) zero = refl
extents_at (k ∷ ks) (suc t) = extents_at ks t

none_more : (es : List (List Extent)) (t : ℕ) → slice_index_or (es ++ [] ∷ []) t [] ≡ slice_index_or es t []
none_more [] zero = refl
none_more [] (suc t) = refl
none_more (e ∷ es) zero = refl
none_more (e ∷ es) (suc t) = none_more es t

created_extents : (p : NumberedProgram) (e : Event) (kind : TurnKind) (ks : List SymbolicThread) (t : ℕ)
    → slice_index_or (extents_in (threads_after p e kind ks)) t [] ≡ slice_index_or (extents_in ks) t []
created_extents p e turns.Create ks t = ap (λ (es : List (List Extent)). slice_index_or es t []) (extents_push ks (fresh_thread p (slice_index e.operands 2))) ∙ none_more (extents_in ks) t
created_extents p e kind ks t = refl

-- a live step leaves those of each thread as they are
pub same_extents : (f : List (List Symbolic) → List (List Symbolic)) (u : ℕ) (ks : List SymbolicThread) (t : ℕ)
    → (slice_index_or (on_thread f u ks) t no_thread).extents ≡ (slice_index_or ks t no_thread).extents
same_extents f u ks t = extents_at (on_thread f u ks) t ∙ ap (λ (es : List (List Extent)). slice_index_or es t []) (extents_on f u ks) ∙ sym (extents_at ks t)

pub same_after : (p : NumberedProgram) (e : Event) (kind : TurnKind) (ks : List SymbolicThread) (t : ℕ)
    → (slice_index_or (threads_after p e kind ks) t no_thread).extents ≡ (slice_index_or ks t no_thread).extents
same_after p e kind ks t = extents_at (threads_after p e kind ks) t ∙ created_extents p e kind ks t ∙ sym (extents_at ks t)

-- ---- where extents end

each_length : (pinned : ℕ → Bool) (es : List (List Extent)) (os : List OpenExtents) → EachOpen pinned es os → length es ≡ length os
each_length pinned [] [] h = refl
each_length pinned [] (o ∷ os) h = absurd h
each_length pinned (e ∷ es) [] h = absurd h
each_length pinned (e ∷ es) (o ∷ os) h = ap (λ (n : ℕ). suc n) (each_length pinned es os h.1)

pub found_open : (pinned : ℕ → Bool) (ks : List SymbolicThread) (os : List OpenExtents) (t : ℕ) (d : OpenExtents) → t < length os → EachOpen pinned (extents_in ks) os →
    AreOpen pinned (slice_index_or ks t no_thread).extents (open_at (slice_index_or os t d))
found_open pinned [] [] t d l h = absurd (omega arith)
found_open pinned [] (x ∷ os) t d l h = absurd h
found_open pinned (k ∷ ks) [] t d l h = absurd h
found_open pinned (k ∷ ks) (x ∷ os) zero d l h = h.0
found_open pinned (k ∷ ks) (x ∷ os) (suc t) d l h = found_open pinned ks os t d (omega arith) h.1

pub no_open : (pinned : ℕ → Bool) (ks : List SymbolicThread) (os : List OpenExtents) (t : ℕ) → EachOpen pinned (extents_in ks) os → length os ≤ t
    → (slice_index_or ks t no_thread).extents ≡ []
no_open pinned [] os t h l = refl
no_open pinned (k ∷ ks) [] t h l = absurd h
no_open pinned (k ∷ ks) (x ∷ os) zero h l = absurd (omega arith)
no_open pinned (k ∷ ks) (x ∷ os) (suc t) h l = no_open pinned ks os t h.1 (omega arith)

open_push : (pinned : ℕ → Bool) (es : List (List Extent)) (os : List OpenExtents) (o : OpenExtents) → EachOpen pinned es os → AreOpen pinned [] (open_at o)
    → EachOpen pinned (es ++ [] ∷ []) (os ++ o ∷ [])
open_push pinned [] [] o h a = (a, tt)
open_push pinned [] (x ∷ os) o h a = absurd h
open_push pinned (e ∷ es) [] o h a = absurd h
open_push pinned (e ∷ es) (x ∷ os) o h a = (h.0, open_push pinned es os o h.1 a)

-- those of one thread change
pub opens_change : (pinned : ℕ → Bool) (ks : List SymbolicThread) (os : List OpenExtents) (t : ℕ) (es : List Extent) (o : OpenExtents) → t < length os → EachOpen pinned (extents_in ks) os
    → AreOpen pinned es (open_at o) →
    EachOpen pinned (extents_in (with_extents t es ks)) (slice_set os t o)
opens_change pinned [] [] t es o l h a = absurd (omega arith)
opens_change pinned [] (x ∷ os) t es o l h a = absurd h
opens_change pinned (k ∷ ks) [] t es o l h a = absurd h
opens_change pinned (k ∷ ks) (x ∷ os) zero es o l h a = (a, h.1)
opens_change pinned (k ∷ ks) (x ∷ os) (suc t) es o l h a = (h.0, opens_change pinned ks os t es o (omega arith) h.1 a)

pub opens_past : (pinned : ℕ → Bool) (ks : List SymbolicThread) (os : List OpenExtents) (t : ℕ) (es : List Extent) → length os ≤ t → EachOpen pinned (extents_in ks) os →
    EachOpen pinned (extents_in (with_extents t es ks)) os
opens_past pinned ks os t es l h =
    let n = each_length pinned (extents_in ks) os h in
    let m = extents_length ks in
    let e : with_extents t es ks ≡ ks = set_past ks t _ (omega (arith, n, m, l)) in
    subst (λ (xs : List SymbolicThread). EachOpen pinned (extents_in xs) os) (sym e) h

-- what is known of the calls stays
pub extents_change : (ns : NodeList) (calls : List CallList) (t : ℕ) (es : List Extent) (ks : List SymbolicThread) → ks ≡ threads_by ns calls (extents_in ks) →
    with_extents t es ks ≡ threads_by ns calls (extents_in (with_extents t es ks))
extents_change ns [] t es [] h = refl
extents_change ns (c ∷ calls) t es [] h = absurd cc
extents_change ns [] t es (k ∷ ks) h = absurd cc
extents_change ns (c ∷ calls) zero es (k ∷ ks) h =
    let a : k ≡ thread_by ns c k.extents = cc in
    let b : ks ≡ threads_by ns calls (extents_in ks) = cc in
    ap (λ (x : SymbolicThread). let s : SymbolicThread = record { calls = x.calls; extents = es } in s ∷ ks) a ∙ ap (λ (xs : List SymbolicThread). thread_by ns c es ∷ xs) b
extents_change ns (c ∷ calls) (suc t) es (k ∷ ks) h =
    let a : k ≡ thread_by ns c k.extents = cc in
    let b : ks ≡ threads_by ns calls (extents_in ks) = cc in
    ap (λ (x : SymbolicThread). x ∷ with_extents t es ks) a ∙ ap (λ (xs : List SymbolicThread). thread_by ns c k.extents ∷ xs) (extents_change ns calls t es ks b)

-- ---- while nodes are added

pub threads_more : (old new : NodeList) (pinned : ℕ → Bool) (calls : List CallList) (opens : List OpenExtents) (ks : List SymbolicThread) → Grew old new → AreThreads (length old) calls →
    KnowsThreads old pinned calls opens ks → KnowsThreads new pinned calls opens ks
threads_more old new pinned calls opens ks g a k = record { calls = k.calls ∙ sym (threads_kept old new calls (extents_in ks) g a); as_many = k.as_many; extents = k.extents }

-- ---- the calls of one thread

pub calls_at : (n : ℕ) (calls : List CallList) (t : ℕ) → AreThreads n calls → AreCalls n (slice_index_or calls t [])
calls_at n [] t a = tt
calls_at n (c ∷ calls) zero a = a.0
calls_at n (c ∷ calls) (suc t) a = calls_at n calls t a.1

pub set_threads : (n : ℕ) (calls : List CallList) (t : ℕ) (c : CallList) → AreThreads n calls → AreCalls n c → AreThreads n (slice_set calls t c)
set_threads n [] t c a h = tt
set_threads n (x ∷ calls) zero c a h = (h, a.1)
set_threads n (x ∷ calls) (suc t) c a h = (a.0, set_threads n calls t c a.1 h)

pub registers_are : (n : ℕ) (calls : List CallList) (t : ℕ) → AreThreads n calls → AreSymbolicNodes n (top_symbolic_nodes (slice_index_or calls t []))
registers_are n calls t a = top_are n (slice_index_or calls t []) (calls_at n calls t a)

pub registers_known : (ns : NodeList) (calls : List CallList) (t : ℕ) (ks : List SymbolicThread) → ks ≡ threads_by ns calls (extents_in ks) →
    registers_by ns (top_symbolic_nodes (slice_index_or calls t [])) ≡ top_of (slice_index_or ks t no_thread).calls
registers_known ns [] t [] h = refl
registers_known ns (c ∷ calls) t [] h = absurd cc
registers_known ns [] t (k ∷ ks) h = absurd cc
registers_known ns (c ∷ calls) zero (k ∷ ks) h =
    let a : k ≡ thread_by ns c k.extents = cc in
    top_by ns c ∙ ap (λ (x : SymbolicThread). top_of x.calls) (sym a)
registers_known ns (c ∷ calls) (suc t) (k ∷ ks) h =
    let b : ks ≡ threads_by ns calls (extents_in ks) = cc in
    registers_known ns calls t ks b

-- they change
pub one_changes : (old new : NodeList) (pinned : ℕ → Bool) (f : List (List Symbolic) → List (List Symbolic)) (t : ℕ) (calls : List CallList) (after : CallList) (opens : List OpenExtents)
    (ks : List SymbolicThread) →
    Grew old new → AreThreads (length old) calls → t < length calls → calls_by new after ≡ f (calls_by old (slice_index_or calls t [])) →
    KnowsThreads old pinned calls opens ks → KnowsThreads new pinned (slice_set calls t after) opens (on_thread f t ks)
one_changes old new pinned f t calls after opens ks g a h e k =
    let es = extents_in ks in
    let n : length es ≡ length calls = extents_length ks ∙ k.as_many in
    record {
      calls = ap (λ (xs : List SymbolicThread). on_thread f t xs) k.calls ∙ sym (on_one old new f t calls after es g a n h e)
          ∙ ap (λ (xs : List (List Extent)). threads_by new (slice_set calls t after) xs) (sym (extents_on f t ks));
      as_many = set_length ks t _ ∙ k.as_many ∙ sym (set_length calls t after);
      extents = subst (λ (xs : List (List Extent)). EachOpen pinned xs opens) (sym (extents_on f t ks)) k.extents;
    }

-- ---- a thread that is made

by_length : (ns : NodeList) (calls : List CallList) (es : List (List Extent)) → length (threads_by ns calls es) ≡ length calls
by_length ns [] es = refl
by_length ns (c ∷ calls) [] = ap (λ (n : ℕ). suc n) (by_length ns calls [])
by_length ns (c ∷ calls) (e ∷ es) = ap (λ (n : ℕ). suc n) (by_length ns calls es)

pub created : (old new : NodeList) (pinned : ℕ → Bool) (p : NumberedProgram) (e : Event) (calls after : List CallList) (opens : List OpenExtents) (o : OpenExtents) (ks : List SymbolicThread)
    → e.kind ≡ turns.Create →
    ((extents : List (List Extent)) → length extents ≡ length calls → threads_by new after (extents ++ [] ∷ []) ≡ threads_after p e e.kind (threads_by old calls extents)) →
    AreOpen pinned [] (open_at o) → KnowsThreads old pinned calls opens ks → KnowsThreads new pinned after (opens ++ o ∷ []) (threads_after p e e.kind ks)
created old new pinned p e calls after opens o ks h made a k =
    let es = extents_in ks in
    let fresh = fresh_thread p (slice_index e.operands 2) in
    let n : length es ≡ length calls = extents_length ks ∙ k.as_many in
    let is : threads_after p e e.kind ks ≡ ks ++ fresh ∷ [] = ap (λ (kind : TurnKind). threads_after p e kind ks) h in
    let grown : extents_in (threads_after p e e.kind ks) ≡ es ++ [] ∷ [] = ap (λ (xs : List SymbolicThread). extents_in xs) is ∙ extents_push ks fresh in
    let same : threads_after p e e.kind ks ≡ threads_by new after (es ++ [] ∷ []) = ap (λ (xs : List SymbolicThread). threads_after p e e.kind xs) k.calls ∙ sym (made es n) in
    record {
      calls = same ∙ ap (λ (xs : List (List Extent)). threads_by new after xs) (sym grown);
      as_many = ap (λ (xs : List SymbolicThread). length xs) same ∙ by_length new after (es ++ [] ∷ []);
      extents = subst (λ (xs : List (List Extent)). EachOpen pinned xs (opens ++ o ∷ [])) (sym grown) (open_push pinned es opens o k.extents a);
    }

pub none_created : (p : NumberedProgram) (e : Event) (kind : TurnKind) (ks : List SymbolicThread) → (kind ≡ turns.Create → ⊥) → threads_after p e kind ks ≡ ks
none_created p e turns.Create ks h = absurd (h refl)
none_created p e kind ks h = refl

-- the main thread before the first step
pub first_known : (ns : NodeList) (pinned : ℕ → Bool) (p : NumberedProgram) (main : CallList) (opens : List OpenExtents) → calls_by ns main ≡ fresh_registers p p.main ∷ []
    → EachOpen pinned ([] ∷ []) opens →
    KnowsThreads ns pinned (main ∷ []) opens (fresh_thread p p.main ∷ [])
first_known ns pinned p main opens e h = record {
  calls = ap (λ (cs : List (List Symbolic)). let s : SymbolicThread = record { calls = cs; extents = [] } in s ∷ []) (sym e);
  as_many = refl;
  extents = h;
}

-- what is there has no default
pub at_any : {A : Type 0} (xs : List A) (t : ℕ) (d e : A) → t < length xs → slice_index_or xs t d ≡ slice_index_or xs t e
at_any [] t d e h = absurd (omega arith)
at_any (x ∷ xs) zero d e h = refl
at_any (x ∷ xs) (suc t) d e h = at_any xs t d e (omega arith)
