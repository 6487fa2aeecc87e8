-- A guided run whose steps are recorded goes on by one walk, or stops.
use Rattle.std.proofs.Common.{◌≡◌, ℕ, ℤ, ◌+◌, ◌-◌, ◌<◌, ◌≤◌, List, length, drop, Bool, true, false, Option, Some, None, Ok, refl, sym, ap, ◌∙◌, arith}
use Rattle.std.proofs.Common.{subst, length-append}
use Rattle.std.specs.Prelude.{get_or, nat_lt, slice_set, slice_index}
use Rattle.std.proofs.lemmas.Bool.Decides.{nat_tests}
use Rattle.std.proofs.lemmas.List.{drop_more}
use Rattle.pg_run_trace.specs.pg_num.declared.limits.TheConstants.{RECORDING_STEP_LIMIT}
use Rattle.pg_run_trace.specs.pg_ir.declared.ids.InstrId.{InstrId}
use Rattle.pg_run_trace.specs.pg_ir.Program.{NumberedProgram}
use Rattle.pg_run_trace.specs.declared.step.Step.{Step}
use Rattle.pg_run_trace.specs.declared.turn.Turn.{Turn}
use Rattle.pg_run.specs.declared.guided_end.GuidedEnd.{GuidedEnd}
use Rattle.pg_run.specs.State.{State}
use Rattle.pg_run.specs.MachineStep.{Did}
use Rattle.pg_run.specs.Guided.{GuidedRun, Walk, behind, due, end_after, guided, on_step, on_walk, walk}
use Rattle.pg_run.specs.Walked.{EndsAs}
use Rattle.pg_run.specs.Follow.{Breaks, following, reached}
use Rattle.pg_run.proofs.OwnersMayStep.{due_does}
use Rattle.pg_run.proofs.Walks.{IsOn, IsAlong, at_step, at_walk, none_left, run_more, run_over, run_stop}

-- ---- one walk

module _ (gated : List InstrId) (p : NumberedProgram) (input : List ℤ) (u : Turn) where
  one_at_least : (n : ℕ) (s : State) (b : Bool) (x : Step) (z : State) (more : State → Walk) → 1 ≤ length (on_step s n b (Did x z) more).trace
  one_at_least n s true x z more = omega arith
  one_at_least n s false x z more = omega arith

  -- where the owner may step, what is left of the walk has a step more than is recorded
  pub walk_full : (n i room : ℕ) (s : State) (b : Bool) (w : Walk) (ts : List Step) → i < n → due gated p u s ≡ Ok b → room ≤ length ts → IsOn gated p input u n i s w ts
      → room < length w.trace
  walk_full n i room s b w ts h d few o =
      let did = due_does gated p input u s b d in
      let e = at_step gated p input u n i s b (Did did.0 did.1) h d did.2 in
      let l : 1 ≤ length (walk (n - i) gated p input u s).trace = subst (λ (v : Walk). 1 ≤ length v.trace) (sym e)
      (one_at_least (n - (i + 1)) s b did.0 did.1 (λ t. walk (n - (i + 1)) gated p input u t)) in
      let a : length w.trace ≡ length ts + length (walk (n - i) gated p input u s).trace = sym (ap (λ (v : Walk). length v.trace) o) ∙ length-append ts (walk (n - i) gated p input u s).trace in
      omega arith

-- ---- the run

module _ (gated : List InstrId) (p : NumberedProgram) (input : List ℤ) (us : List Turn) where
  -- what the walk to turn k leaves, behind the steps ts
  abbrev pub Leaves : ℕ → ℕ → Turn → State → List Step → List Step → State → ℕ → Option GuidedEnd → Type 0
  Leaves k most d s ts rest t n e = behind ts (walk most gated p input (get_or us k d) s) ≡ record { trace = rest; state = t; left = n; end = e }

  module _ (k most : ℕ) (d : Turn) (s t : State) (left : List ℕ) (n : ℕ) (ts rest : List Step) (l : k < length us) (m : most ≡ slice_index left (get_or us k d).thread.0) where
    steps : List Step
    steps = (walk most gated p input (get_or us k d) s).trace

    walked : (e f : Option GuidedEnd) → Leaves k most d s ts rest t n e → e ≡ f
        → walk (slice_index left (get_or us k d).thread.0) gated p input (get_or us k d) s ≡ record { trace = (walk most gated p input (get_or us k d) s).trace; state = t; left = n; end = f }
    walked e f h q =
        ap (λ (i : ℕ). walk i gated p input (get_or us k d) s) (sym m)
        ∙ ap (λ (v : Walk). record v { trace = (walk most gated p input (get_or us k d) s).trace }) h
        ∙ ap (λ (x : Option GuidedEnd). record { trace = (walk most gated p input (get_or us k d) s).trace; state = t; left = n; end = x }) q

    pub follows_on : (lefts : List ℕ) (e : Option GuidedEnd) (r : GuidedRun) → Leaves k most d s ts rest t n e → e ≡ None → lefts ≡ slice_set left (get_or us k d).thread.0 n
        → IsAlong gated p input us k s left r ts → IsAlong gated p input us (k + 1) t lefts r rest
    follows_on lefts e r h q z o =
        rw (z, sym (ap (λ (v : Walk). v.trace) h)) (run_more gated p input us k (get_or us k d) s t left n (walk most gated p input (get_or us k d) s).trace ts r (drop_more us k d l)
        (walked e None h q) o)

    pub follows_to : (done : ℕ) (e : Option GuidedEnd) (end : GuidedEnd) (r : GuidedRun) → done ≡ k → Leaves k most d s ts rest t n e → e ≡ Some end
        → IsAlong gated p input us k s left r ts → (r.trace ≡ rest) × EndsAs r t done end
    follows_to done e end r j h q o =
        let f = run_stop gated p input us k (get_or us k d) s t left n end (walk most gated p input (get_or us k d) s).trace ts r (drop_more us k d l) (walked e (Some end) h q) o in (
          ap (λ (x : GuidedRun). x.trace) f ∙ ap (λ (v : Walk). v.trace) h,
          record { state_is = ap (λ (x : GuidedRun). x.state) f; turns_is = ap (λ (x : GuidedRun). x.turns) f ∙ sym j; end_is = ap (λ (x : GuidedRun). x.end) f },
        )

    longer : (k t : ℕ) (w : Walk) (e : Option GuidedEnd) (more : State → List ℕ → GuidedRun) → w.end ≡ e → length w.trace ≤ length (on_walk left k t w more).trace
    longer k t w None more h = rw h (omega (arith, length-append w.trace (more w.state (slice_set left t w.left)).trace))
    longer k t w (Some e) more h = rw h (omega arith)

    -- a walk with too many steps makes the run one with too many
    pub follows_past : (room : ℕ) (r : GuidedRun) → room < length (behind ts (walk most gated p input (get_or us k d) s)).trace → IsAlong gated p input us k s left r ts → room < length r.trace
    follows_past room r h o =
        let w = walk most gated p input (get_or us k d) s in
        let e = at_walk gated p input us k (get_or us k d) s left w (drop_more us k d l) (ap (λ (i : ℕ). walk i gated p input (get_or us k d) s) (sym m)) in
        let a : length r.trace ≡ length ts + length (guided gated p input (drop k us) k s left).trace =
        sym (ap (λ (x : GuidedRun). length x.trace) o) ∙ length-append ts (guided gated p input (drop k us) k s left).trace in
        let b : length (behind ts w).trace ≡ length ts + length w.trace = length-append ts w.trace in
        let c : length w.trace ≤ length (guided gated p input (drop k us) k s left).trace =
        subst (λ (x : GuidedRun). length w.trace ≤ length x.trace) (sym e) (longer k (get_or us k d).thread.0 w w.end (λ t rest. guided gated p input (drop (k + 1) us) (k + 1) t rest) refl) in
        omega arith

  pub follows_out : (k done : ℕ) (s : State) (left : List ℕ) (ts : List Step) (e : GuidedEnd) (r : GuidedRun) → length us ≤ k → done ≡ k → e ≡ end_after s
      → IsAlong gated p input us k s left r ts → (r.trace ≡ ts) × EndsAs r s done e
  follows_out k done s left ts e r l j q o =
      let f = run_over gated p input us k s left ts r (none_left gated p input us us k l) o in (
        ap (λ (x : GuidedRun). x.trace) f,
        record {
          state_is = ap (λ (x : GuidedRun). x.state) f;
          turns_is = ap (λ (x : GuidedRun). x.turns) f ∙ sym j;
          end_is = ap (λ (x : GuidedRun). x.end) f ∙ sym q;
        },
      )

-- ---- the answer

pub breaks : (r : GuidedRun) → RECORDING_STEP_LIMIT < length r.trace → Breaks ≡ following r
breaks r h = go (nat_lt RECORDING_STEP_LIMIT (length r.trace)) refl
  where
    go : (b : Bool) → nat_lt RECORDING_STEP_LIMIT (length r.trace) ≡ b → Breaks ≡ following r
    go true e = rw e refl
    go false e = absurd (grind (arith, nat_tests))

pub answers : (r : GuidedRun) (ts : List Step) (s : State) (k : ℕ) (e : GuidedEnd) → length ts ≤ RECORDING_STEP_LIMIT → r.trace ≡ ts → EndsAs r s k e
    → reached ts s.printed k e ≡ following r
answers r ts s k e h t f = go (nat_lt RECORDING_STEP_LIMIT (length r.trace)) refl
  where
    l : length r.trace ≡ length ts
    l = ap length t

    go : (b : Bool) → nat_lt RECORDING_STEP_LIMIT (length r.trace) ≡ b → reached ts s.printed k e ≡ following r
    go true q = absurd (let j = l in grind (arith, nat_tests))
    go false q = rw (q, sym t, sym f.state_is, sym f.turns_is, sym f.end_is) refl
