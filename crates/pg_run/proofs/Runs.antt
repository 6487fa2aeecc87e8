-- The rotation run is a run of the machine.
use Rattle.std.proofs.Common.{◌≡◌, ℕ, ℤ, zero, suc, List, [], Bool, true, false, Option, Some, None, Result, Ok, Err, refl, sym, ap, subst}
use Rattle.std.specs.Prelude.{length, nat_lt, ◌&&◌, if◌then◌else◌}
use Rattle.pg_run_trace.specs.pg_ir.declared.ids.InstrId.{InstrId}
use Rattle.pg_run_trace.specs.pg_ir.Program.{NumberedProgram}
use Rattle.pg_run_objects.specs.Sync as sync
use Rattle.pg_run_trace.specs.declared.step.Step.{Step}
use Rattle.pg_run.specs.declared.outcome.Outcome.{Outcome}
use Rattle.pg_run.specs.declared.outcome.Outcome.TheVariants as ends
use Rattle.pg_run.specs.declared.outcome.Refusal.TheVariants as refusals
use Rattle.pg_run.specs.declared.share.Share.{Share}
use Rattle.pg_run.specs.State.{State, initial}
use Rattle.pg_run.specs.MachineStep.{Answered, Stepped, Did, Trapped, answered, ready, settled, step, taken}
use Rattle.pg_run.specs.State.{next_of}
use Rattle.pg_run.specs.Rotation.{RunResult, around, chosen, exit_of, first_share, first_true, next_share, on_chosen, on_step, or_at, or_deadlock, rotation_of, run, share_to, stop}
use Rattle.pg_run.specs.Runs.{IsRun, Takes}
use Rattle.pg_run_trace.specs.pg_num.declared.limits.TheConstants.{RECORDING_STEP_LIMIT}

-- ---- whose step it is, is ready

found : (f : ℕ → Bool) (n d : ℕ) (b : Bool) (o : Option ℕ) → f n ≡ b → (o ≡ Some d → f d ≡ true) → or_at f n o ≡ Some d → f d ≡ true
found f n d b (Some i) e k h = k h
found f n d true None e k h = let same : n ≡ d = at_some (f n) e h in subst (λ (i : ℕ). f i ≡ true) same e
  where
    at_some : (b : Bool) → b ≡ true → (if b then Some n else None) ≡ Some d → n ≡ d
    at_some true q h = cc
    at_some false q h = absurd cc
found f n d false None e k h = absurd (at_none (f n) e h)
  where
    at_none : (b : Bool) → b ≡ false → (if b then Some n else None) ≡ Some d → ⊥
    at_none true q h = absurd cc
    at_none false q h = absurd cc

first_holds : (f : ℕ → Bool) (n d : ℕ) → first_true f n ≡ Some d → f d ≡ true
unfolding first_true
first_holds f zero d h = absurd cc
first_holds f (suc n) d h = found f n d (f n) (first_true f n) refl (first_holds f n d) h

to_ready : (p : NumberedProgram) (q : ℕ) (s : State) (t : ℕ) (v : Share) (o : Option ℕ) → first_true (λ d. ready p s (around s t d)) (length s.locals) ≡ o
    → or_deadlock p s (share_to s q t o) ≡ Ok v → ready p s v.thread.0 ≡ true
to_ready p q s t v None e h = absurd cc
to_ready p q s t v (Some d) e h =
    let same : around s t d ≡ v.thread.0 = ap (thread_in 0) h in
    subst (λ (u : ℕ). ready p s u ≡ true) same (first_holds (λ d. ready p s (around s t d)) (length s.locals) d e)
  where
    thread_in : ℕ → Result Share Outcome → ℕ
    thread_in n (Ok u) = u.thread.0
    thread_in n (Err x) = n

share_ready : (p : NumberedProgram) (q : ℕ) (s : State) (u v : Share) (a b : Bool) → ready p s u.thread.0 ≡ a
    → or_deadlock p s (if a && b then Some u else share_to s q u.thread.0 (first_true (λ d. ready p s (around s u.thread.0 d)) (length s.locals))) ≡ Ok v → ready p s v.thread.0 ≡ true
share_ready p q s u v true true e h = let same : u ≡ v = cc in subst (λ (w : Share). ready p s w.thread.0 ≡ true) same e
share_ready p q s u v true false e h = to_ready p q s u.thread.0 v _ refl h
share_ready p q s u v false b e h = to_ready p q s u.thread.0 v _ refl h

over_ready : (p : NumberedProgram) (q : ℕ) (s : State) (u v : Share) (b : Bool) → (if b then Err (exit_of s) else or_deadlock p s (next_share p q s u)) ≡ Ok v → ready p s v.thread.0 ≡ true
unfolding next_share
over_ready p q s u v true h = absurd cc
over_ready p q s u v false h = share_ready p q s u v (ready p s u.thread.0) (nat_lt 0 u.left) refl h

pub chosen_ready : (p : NumberedProgram) (q : ℕ) (s : State) (u v : Share) → chosen p q s u ≡ Ok v → ready p s v.thread.0 ≡ true
unfolding chosen
chosen_ready p q s u v h = over_ready p q s u v (sync.over s.sync) h

-- ---- the steps

settled_thread : (gated : List InstrId) (p : NumberedProgram) (s z : State) (t : ℕ) (x : Step) (o : Answered) → settled gated p s t o ≡ Did x z → x.thread.0 ≡ t
settled_thread gated p s z t x (y, Ok n) h = sym (ap (thread_in t) h)
  where
    thread_in : ℕ → Stepped → ℕ
    thread_in n (Did w y) = w.thread.0
    thread_in n (Trapped name id) = n
settled_thread gated p s z t x (y, Err name) h = absurd cc

pub step_thread : (gated : List InstrId) (p : NumberedProgram) (input : List ℤ) (s z : State) (t : ℕ) (x : Step) → step gated p input s t ≡ Did x z → x.thread.0 ≡ t
unfolding step
step_thread gated p input s z t x h = settled_thread gated p s z t x (taken p s t (answered p input s t (next_of p s t))) h

takes : (gated : List InstrId) (p : NumberedProgram) (input : List ℤ) (s z : State) (t : ℕ) (x : Step) → ready p s t ≡ true → step gated p input s t ≡ Did x z → Takes gated p input s x
takes gated p input s z t x g h =
    let same : t ≡ x.thread.0 = sym (step_thread gated p input s z t x h) in
    record {
      after = z;
      is_ready = subst (λ (u : ℕ). ready p s u ≡ true) same g;
      is_step = subst (λ (u : ℕ). step gated p input s u ≡ Did x z) same h;
    }

-- ---- the run

abbrev pub RunsFrom : NumberedProgram → List ℤ → State → RunResult → Type 0
RunsFrom p input s r = IsRun [] p input s r.trace r.state

pub run_runs : (n : ℕ) (p : NumberedProgram) (input : List ℤ) (q : ℕ) (s : State) (u : Share) → RunsFrom p input s (run n p input q s u)
unfolding run takes
run_runs zero p input q s u = go (chosen p q s u)
  where
    go : (o : Result Share Outcome) → RunsFrom p input s (on_chosen s o (λ v. stop s (ends.Refused refusals.Budget)))
    go (Err e) = refl
    go (Ok v) = refl
run_runs (suc n) p input q s u = go (λ t w. run_runs n p input q t w) (chosen p q s u) refl
  where
    stepped : ((t : State) (w : Share) → RunsFrom p input t (run n p input q t w)) → (v : Share) → ready p s v.thread.0 ≡ true → (o : Stepped) → step [] p input s v.thread.0 ≡ o
        → RunsFrom p input s (on_step s v o (λ t w. run n p input q t w))
    stepped more v g (Trapped name id) h = refl
    stepped more v g (Did x t) h = (takes [] p input s t v.thread.0 x g h, more t _)

    go : ((t : State) (w : Share) → RunsFrom p input t (run n p input q t w)) → (o : Result Share Outcome) → chosen p q s u ≡ o
        → RunsFrom p input s (on_chosen s o (λ v. on_step s v (step [] p input s v.thread.0) (λ t w. run n p input q t w)))
    go more (Err e) h = refl
    go more (Ok v) h = stepped more v (chosen_ready p q s u v h) (step [] p input s v.thread.0) refl

pub rotation_runs : (p : NumberedProgram) (input : List ℤ) (q : ℕ) → RunsFrom p input (initial p) (rotation_of p input q)
unfolding rotation_of
rotation_runs p input q = run_runs RECORDING_STEP_LIMIT p input q (initial p) (first_share q)
