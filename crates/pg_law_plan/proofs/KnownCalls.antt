-- What is known of a thread's calls after its live step.
use Rattle.std.proofs.Common.{◌≡◌, ℕ, zero, suc, Bool, true, false, List, [], ◌∷◌, ◌++◌, Option, Some, None, refl, sym, ap, ◌∙◌, subst}
use Rattle.std.specs.Prelude.{slice_index_or, slice_get, if◌then◌else◌}
use Rattle.pg_ir.specs.declared.instr.Instr.{Instr}
use Rattle.pg_run_trace.specs.declared.step.Access.{Access}
use Rattle.pg_run_trace.specs.declared.turn.TurnKind.{TurnKind}
use Rattle.pg_run_trace.specs.declared.turn.TurnKind.TheVariants as turns
use Rattle.pg_run_trace.specs.declared.step.Event.{Event}
use Rattle.pg_run_trace.specs.declared.step.StepKind.{StepKind}
use Rattle.pg_run_trace.specs.declared.step.StepKind.TheVariants as kinds
use Rattle.pg_slice_rules.specs.Extents.{Extent, is_live, open_after}
use Rattle.pg_slice_rules.specs.Freeable.{FreeRegion}
use Rattle.pg_slice_rules.specs.Known.{Reference, SymbolicState, Taken, SymbolicThread, after_access, after_event, after_op, after_step, bytes_freed, edge_of, fresh_thread, live_after, live_by}
use Rattle.pg_slice_rules.specs.Known.{no_thread, on_thread, region_of, result_in, thread_of, threads_after, with_extents, with_top}
use Rattle.pg_slice_rules.specs.Moments.{Moment, instr_in, thread_in}
use Rattle.pg_slice_rules.specs.SymbolicValues.{Symbolic, unset}

-- a step that is neither an access nor an event
abbrev pub IsInnerKind : StepKind → Type 0
IsInnerKind (kinds.Access a) = ⊥
IsInnerKind (kinds.Event e) = ⊥
IsInnerKind k = Unit {0}

pub extents_leave : (threads : List SymbolicThread) (t : ℕ) (es : List Extent) → (slice_index_or (with_extents t es threads) t no_thread).calls ≡ (slice_index_or threads t no_thread).calls
extents_leave [] t es = refl
extents_leave (x ∷ xs) zero es = refl
extents_leave (x ∷ xs) (suc t) es = extents_leave xs t es

pub thread_calls : (threads : List SymbolicThread) (t : ℕ) (F : List (List Symbolic) → List (List Symbolic)) (ks : List Symbolic) (more : List (List Symbolic))
    → (slice_index_or threads t no_thread).calls ≡ ks ∷ more → (slice_index_or (on_thread F t threads) t no_thread).calls ≡ F (ks ∷ more)
thread_calls [] t F ks more h = absurd cc
thread_calls (x ∷ xs) zero F ks more h = ap F h
thread_calls (x ∷ xs) (suc t) F ks more h = thread_calls xs t F ks more h

module _ (R : Reference) (d : Taken) (n : ℕ) (m : Moment) (s : SymbolicState) (x : Instr) (instr : instr_in R.program m ≡ Some x)
    (live : is_live d.pinned (thread_of s (thread_in m)).extents ≡ true) where
  abbrev region : Option FreeRegion
  region = region_of R.program R.regions m (instr_in R.program m)

  -- the state after the live step, but for extents
  pub after_live : after_step R d n m s ≡ (let z = live_by R.program d n m region x m.did.did.kind s in
      record z {
        threads = with_extents (thread_in m) (open_after n (Rattle.std.proofs.Common.length m.calls) region (edge_of R.program m m.did.did.kind) (thread_of s (thread_in m)).extents)
            z.threads;
      })
  after_live =
      let es = open_after n (Rattle.std.proofs.Common.length m.calls) region (edge_of R.program m m.did.did.kind) (thread_of s (thread_in m)).extents in
      ap (λ (b : Bool). let z = if b then live_after R.program d n m region (instr_in R.program m) s else s in record z { threads = with_extents (thread_in m) es z.threads }) live
      ∙ ap (λ (o : Option Instr). let z = live_after R.program d n m region o s in record z { threads = with_extents (thread_in m) es z.threads }) instr

  -- the calls after it
  pub calls_after : (thread_of (after_step R d n m s) (thread_in m)).calls ≡ (thread_of (live_by R.program d n m region x m.did.did.kind s) (thread_in m)).calls
  calls_after = ap (λ (z : SymbolicState). (thread_of z (thread_in m)).calls) after_live ∙ extents_leave (live_by R.program d n m region x m.did.did.kind s).threads (thread_in m) _

  live_inner : (k : StepKind) → IsInnerKind k → live_by R.program d n m region x k s ≡ record s {
    threads = on_thread (after_op R.program (d.pinned n) n m region (result_in k) x x.op) (thread_in m) s.threads;
    bytes = bytes_freed (d.pinned n) n region s.bytes;
  }
  live_inner kinds.Other h = refl
  live_inner (kinds.Branch c) h = refl
  live_inner (kinds.Allocation a b) h = refl
  live_inner (kinds.Access a) h = absurd h
  live_inner (kinds.Event e) h = absurd h

  module _ (ks : List Symbolic) (more : List (List Symbolic)) (calls : (thread_of s (thread_in m)).calls ≡ ks ∷ more) where
    pub inner_calls : IsInnerKind m.did.did.kind → (thread_of (after_step R d n m s) (thread_in m)).calls
        ≡ after_op R.program (d.pinned n) n m region (result_in m.did.did.kind) x x.op (ks ∷ more)
    inner_calls h = calls_after ∙ ap (λ (z : SymbolicState). (thread_of z (thread_in m)).calls) (live_inner m.did.did.kind h)
        ∙ thread_calls s.threads (thread_in m) (after_op R.program (d.pinned n) n m region (result_in m.did.did.kind) x x.op) ks more calls

    pub access_calls : (a : Access) → m.did.did.kind ≡ kinds.Access a
        → (thread_of (after_step R d n m s) (thread_in m)).calls ≡ with_top (after_access R.program (d.exact n) n a s.bytes x x.op) (ks ∷ more)
    access_calls a e = calls_after ∙ ap (λ (k : StepKind). (thread_of (live_by R.program d n m region x k s) (thread_in m)).calls) e
        ∙ thread_calls s.threads (thread_in m) (with_top (after_access R.program (d.exact n) n a s.bytes x x.op)) ks more calls

    pub event_calls : (e : Event) → m.did.did.kind ≡ kinds.Event e
        → (thread_of (after_step R d n m s) (thread_in m)).calls ≡ after_event R.program m e e.kind (slice_index_or s.words (thread_in m) unset) x (ks ∷ more)
    event_calls e k = calls_after ∙ ap (λ (z : StepKind). (thread_of (live_by R.program d n m region x z s) (thread_in m)).calls) k
        ∙ by_kind e.kind (after_event R.program m e e.kind (slice_index_or s.words (thread_in m) unset) x)
      where
        created : (threads extra : List SymbolicThread) (t : ℕ) (F : List (List Symbolic) → List (List Symbolic)) → (slice_index_or threads t no_thread).calls ≡ ks ∷ more
            → (slice_index_or (on_thread F t threads ++ extra) t no_thread).calls ≡ F (ks ∷ more)
        created [] extra t F h = absurd cc
        created (x ∷ xs) extra zero F h = ap F h
        created (x ∷ xs) extra (suc t) F h = created xs extra t F h

        by_kind : (k : TurnKind) (F : List (List Symbolic) → List (List Symbolic))
            → (slice_index_or (threads_after R.program e k (on_thread F (thread_in m) s.threads)) (thread_in m) no_thread).calls ≡ F (ks ∷ more)
        by_kind turns.Create F = created s.threads (fresh_thread R.program (Rattle.std.specs.Prelude.slice_index e.operands 2) ∷ []) (thread_in m) F calls
        by_kind k F = thread_calls s.threads (thread_in m) F ks more calls
