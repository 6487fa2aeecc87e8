-- What is alike under some decisions and under more of them: threads, and what is known along a run.
use Rattle.std.proofs.Common.{◌≡◌, ℕ, zero, suc, true, List, [], length, Option, Some, None, refl, sym, ap, ◌∙◌}
use Rattle.std.specs.Prelude.{Contains, slice_index, slice_index_or}
use Rattle.std.specs.List.{AllZip}
use Rattle.pg_ir.specs.declared.instr.Instr.{Instr}
use Rattle.pg_ir.specs.Program.{types_of}
use Rattle.pg_run_trace.specs.declared.turn.TurnKind.{TurnKind}
use Rattle.pg_run_trace.specs.declared.turn.TurnKind.TheVariants as turns
use Rattle.pg_run_trace.specs.declared.step.StepKind.{StepKind}
use Rattle.pg_run_trace.specs.declared.step.StepKind.TheVariants as kinds
use Rattle.pg_run_trace.specs.declared.step.Event.{Event}
use Rattle.pg_run_trace.specs.Steps.{happening_in}
use Rattle.pg_slice_rules.specs.declared.decision.Decision.TheVariants.{Pinned}
use Rattle.pg_slice_rules.specs.Moments.{Moment}
use Rattle.pg_slice_rules.specs.Freeable.{FreeRegion}
use Rattle.pg_slice_rules.specs.SymbolicValues.{Symbolic, Unknown, unset}
use Rattle.pg_slice_rules.specs.Extents.{Extent}
use Rattle.pg_slice_rules.specs.Known.{Reference, SymbolicState, Seen, Taken, SymbolicThread, fresh_thread, no_thread, start_of, thread_of}
use Rattle.pg_law_least.specs.Keeps.{ExtentsKeep, may_write, steps_of}
use Rattle.pg_law_least.proofs.AlikeLists.{replicate_like}
use Rattle.pg_law_least.proofs.KeptLikeness.{IsLink}
use Rattle.pg_law_least.proofs.LiveSteps.{CallsLike}
use Rattle.pg_law_least.proofs.ThreadsAfterSteps.{made_at, made_by, made_in}
use Rattle.pg_law_least.proofs.OldestFreeExtent.{height_by, stand}
use Rattle.pg_law_least.proofs.LiveStepsInside.{Above, IsTopForgotten, made_none}

module _ (R : Reference) (keeps : ExtentsKeep R) (d e : Taken) (bound : ℕ) (L : Symbolic → Symbolic → Type 0) (k : IsLink d e bound L) where
  -- where a thread stands still: at an unpinned freeable branch step, whose instance is unknown
  pub record Still (bytes : ℕ → Symbolic) (cs : List (List Symbolic)) (x : Extent) : Type 0 where
    pub branch : Seen
    pub seen : Contains (steps_of R) branch
    pub number : x.step ≡ branch.number
    pub region : FreeRegion
    pub is : branch.region ≡ Some region
    pub registers : IsTopForgotten region.sets (Pinned x.step) cs
    pub writes : (b : ℕ) → may_write region.accesses b ≡ true → bytes b ≡ Unknown (Pinned x.step)

  -- a thread under d, under e and under all decisions
  pub record ThreadLike (bytes : ℕ → Symbolic) (s t u : SymbolicThread) : Type 0 where
    pub first : s.extents ≡ u.extents
    pub second : t.extents ≡ u.extents
    pub above : Above R.program d e bound L k s.calls t.calls
    pub height : length s.calls ≡ height_by (stand d u.extents) (length u.calls)
    pub higher : length t.calls ≡ height_by (stand e u.extents) (length u.calls)
    pub still : (x : Extent) → stand d u.extents ≡ Some x → Still bytes s.calls x

  pub record RunLike (s t u : SymbolicState) : Type 0 where
    pub fewer : length s.threads ≡ length u.threads
    pub as_many : length t.threads ≡ length u.threads
    pub threads : (i : ℕ) → ThreadLike s.bytes (thread_of s i) (thread_of t i) (thread_of u i)
    pub bytes : (b : ℕ) → L (s.bytes b) (t.bytes b)
    pub words : AllZip L s.words t.words

  abbrev pub Alike : List (List Symbolic) → List (List Symbolic) → Type 0
  Alike cs ct = CallsLike R.program d e bound L k cs ct

  pub all_alike : (cs ct : List (List Symbolic)) → Alike cs ct → Above R.program d e bound L k cs ct
  all_alike cs ct h = record { more = []; low = ct; whole = refl; like = h }

  -- ---- threads that are made

  quiet_thread : (bytes : ℕ → Symbolic) (z : SymbolicThread) → z.extents ≡ [] → Alike z.calls z.calls → ThreadLike bytes z z z
  quiet_thread bytes z q h = record {
    first = refl;
    second = refl;
    above = all_alike z.calls z.calls h;
    height = rw q refl;
    higher = rw q refl;
    still = λ x f. let g : None ≡ Some x = ap (stand d) (sym q) ∙ f in absurd (cc);
  }

  fresh_like : (bytes : ℕ → Symbolic) (f : ℕ) → ThreadLike bytes (fresh_thread R.program f) (fresh_thread R.program f) (fresh_thread R.program f)
  fresh_like bytes f = quiet_thread bytes (fresh_thread R.program f) refl (replicate_like L (length (types_of R.program f)) unset (k.known (λ input. None)), tt)

  no_like : (bytes : ℕ → Symbolic) → ThreadLike bytes no_thread no_thread no_thread
  no_like bytes = quiet_thread bytes no_thread refl tt

  made_event : (bytes : ℕ → Symbolic) (v : Event) (kind : TurnKind) (i : ℕ) →
      ThreadLike bytes (slice_index_or (made_by R.program v kind) i no_thread) (slice_index_or (made_by R.program v kind) i no_thread) (slice_index_or (made_by R.program v kind) i no_thread)
  made_event bytes v turns.Create zero = fresh_like bytes (slice_index v.operands 2)
  made_event bytes v turns.Create (suc i) = no_like bytes
  made_event bytes v _ i = no_like bytes

  made_kind : (bytes : ℕ → Symbolic) (kind : StepKind) (i : ℕ) →
      ThreadLike bytes (slice_index_or (made_in R.program kind) i no_thread) (slice_index_or (made_in R.program kind) i no_thread) (slice_index_or (made_in R.program kind) i no_thread)
  made_kind bytes (kinds.Event v) i = made_event bytes v v.kind i
  made_kind bytes kind i = no_like bytes

  pub made_like : (bytes : ℕ → Symbolic) (m : Moment) (o : Option Instr) (i : ℕ) →
      ThreadLike bytes (slice_index_or (made_at R.program m o) i no_thread) (slice_index_or (made_at R.program m o) i no_thread) (slice_index_or (made_at R.program m o) i no_thread)
  made_like bytes m None i = no_like bytes
  made_like bytes m (Some x) i = made_kind bytes m.did.did.kind i

  pub made_plain : (m : Moment) (o : Option Instr) → happening_in m.did.did.kind ≡ None → made_at R.program m o ≡ []
  made_plain m None q = refl
  made_plain m (Some x) q = made_none R.program m.did.did.kind q

  pub start_like : RunLike (start_of R.program) (start_of R.program) (start_of R.program)
  start_like = record {
    fewer = refl;
    as_many = refl;
    threads = first;
    bytes = λ b. k.known _;
    words = (k.known _, tt);
  }
    where
      first : (i : ℕ) → ThreadLike (start_of R.program).bytes (thread_of (start_of R.program) i) (thread_of (start_of R.program) i) (thread_of (start_of R.program) i)
      first zero = fresh_like (start_of R.program).bytes R.program.main
      first (suc i) = no_like (start_of R.program).bytes
