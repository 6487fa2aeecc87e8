-- The rotation run is a recording.
use Rattle.std.proofs.Common.{◌≡◌, ◌⊎◌, ℕ, ℤ, zero, suc, ◌+◌, ◌-◌, ◌%◌, ◌<◌, ◌≤◌, List, [], ◌∷◌, ◌++◌, Bool, true, false, Option, Some, None, Result, Ok, Err, refl, sym}
use Rattle.std.proofs.Common.{ap, ◌∙◌, subst, arith, inl, inr, length, length-append}
use Rattle.std.specs.Prelude.{nat_lt, not, ◌&&◌, slice_get, if◌then◌else◌}
use Rattle.std.proofs.Math.Nat.{add-mod_right, mod-add-mod, mod-eq_of_lt, mod-lt}
use Rattle.std.proofs.lemmas.Bool.{cases_lt}
use Rattle.pg_run_trace.specs.pg_ir.declared.ids.InstrId.{InstrId}
use Rattle.pg_run_trace.specs.pg_ir.Program.{NumberedProgram}
use Rattle.pg_run_objects.specs.Sync as sync
use Rattle.pg_run_thread.specs.LocalState.{LocalState}
use Rattle.pg_run_trace.specs.declared.step.Step.{Step}
use Rattle.pg_run_trace.specs.pg_num.declared.limits.TheConstants.{RECORDING_STEP_LIMIT}
use Rattle.pg_run.specs.declared.outcome.Outcome.{Outcome}
use Rattle.pg_run.specs.declared.outcome.Outcome.TheVariants as ends
use Rattle.pg_run.specs.declared.outcome.Refusal.TheVariants as refusals
use Rattle.pg_run.specs.declared.share.Share.{Share}
use Rattle.pg_run.specs.State.{State, action_in, initial, next_of}
use Rattle.pg_run.specs.MachineStep.{Stepped, Did, Trapped, may_act, ready, step}
use Rattle.pg_run.specs.Rotation.{RunResult, around, chosen, deadlock_of, exit_of, first_share, first_true, next_share, on_chosen, on_step, or_at, or_deadlock, rotation_of, run, share_to, stop}
use Rattle.pg_run.specs.Recordings.{EndsBy, IsDeadlock, IsRecording, IsSpent, ReadyTraps}
use Rattle.pg_run.proofs.Runs.{chosen_ready, rotation_runs}

-- ---- where none going round is ready, none is

none_before : (f : ℕ → Bool) (n : ℕ) → first_true f n ≡ None → (d : ℕ) → d < n → f d ≡ false
unfolding first_true
none_before f zero e d l = absurd (omega (arith, l))
none_before f (suc n) e d l = go (λ h less. none_before f n h d less) (first_true f n) refl e
  where
    last : (b : Bool) → f n ≡ b → (if b then Some n else None) ≡ None → f n ≡ false
    last true h q = absurd cc
    last false h q = h

    go : (first_true f n ≡ None → d < n → f d ≡ false) → (o : Option ℕ) → first_true f n ≡ o → or_at f n o ≡ None → f d ≡ false
    go more (Some i) h q = absurd cc
    go more None h q = elim (cases_lt d n) [
      | inl less ↦ more h less
      | inr above ↦ let same : n ≡ d = omega (arith, l, above) in subst (λ (i : ℕ). f i ≡ false) same (last (f n) refl q)
    ]

-- each number below n comes, going round from any number on
round : (n a t : ℕ) → t < n → (d : ℕ) × (d < n) × ((a + d) % n ≡ t)
round n a t l =
    let r : a % n < n = mod-lt a (omega (arith, l)) in
    elim (cases_lt t (a % n)) [
      | inl less ↦
          let k : a % n + (t + n - a % n) ≡ t + n = omega (arith, r) in
          (t + n - a % n, omega (arith, less, r), sym (mod-add-mod a n (t + n - a % n)) ∙ ap (λ i. i % n) k ∙ add-mod_right t n ∙ mod-eq_of_lt l)
      | inr more ↦
          let k : a % n + (t - a % n) ≡ t = omega (arith, more) in
          (t - a % n, omega (arith, l), sym (mod-add-mod a n (t - a % n)) ∙ ap (λ i. i % n) k ∙ mod-eq_of_lt l)
    ]

past_end : (ls : List LocalState) (t : ℕ) → length ls ≤ t → slice_get ls t ≡ None
past_end [] t l = refl
past_end (x ∷ ls) zero l = absurd (omega (arith, l))
past_end (x ∷ ls) (suc t) l = past_end ls t (omega (arith, l))

-- a thread that isn't made isn't ready
unmade : (p : NumberedProgram) (s : State) (t : ℕ) → length s.locals ≤ t → ready p s t ≡ false
unfolding ready next_of
unmade p s t l = rw (past_end s.locals t l) (never (sync.over s.sync))
  where
    never : (b : Bool) → (not b && false) ≡ false
    never true = refl
    never false = refl

pub none_ready : (p : NumberedProgram) (s : State) (u : ℕ) → first_true (λ d. ready p s (around s u d)) (length s.locals) ≡ None → (t : ℕ) → ready p s t ≡ false
none_ready p s u e t = elim (cases_lt t (length s.locals)) [
  | inl less ↦
      let r = round (length s.locals) (u + 1) t less in
      subst (λ (i : ℕ). ready p s i ≡ false) r.2 (none_before (λ d. ready p s (around s u d)) (length s.locals) e r.0 r.1)
  | inr more ↦ unmade p s t more
]

pub none_from : (p : NumberedProgram) (s : State) → first_true (ready p s) (length s.locals) ≡ None → (t : ℕ) → ready p s t ≡ false
none_from p s e t = elim (cases_lt t (length s.locals)) [
  | inl less ↦ none_before (ready p s) (length s.locals) e t less
  | inr more ↦ unmade p s t more
]

-- ---- the ends in place of a step

deadlocked : (p : NumberedProgram) (q : ℕ) (s : State) (u : ℕ) (o : Option ℕ) (e : Outcome) → sync.over s.sync ≡ false → first_true (λ d. ready p s (around s u d)) (length s.locals) ≡ o
    → or_deadlock p s (share_to s q u o) ≡ Err e → (limit : ℕ) (input : List ℤ) (xs : List Step) → EndsBy limit p input xs s e
unfolding deadlock_of
deadlocked p q s u (Some d) e g h k limit input xs = absurd cc
deadlocked p q s u None e g h k limit input xs = by e (ap (err_or e) k)
  where
    err_or : Outcome → Result Share Outcome → Outcome
    err_or d (Ok v) = d
    err_or d (Err x) = x

    by : (x : Outcome) → deadlock_of p s ≡ x → EndsBy limit p input xs s x
    by (ends.Exit value) i = absurd cc
    by (ends.Refused (refusals.Trap name id)) i = inr (record { going = g; none_ready = none_ready p s u h; is_trap = sym i })
    by (ends.Refused refusals.Budget) i = absurd cc

pub chosen_ends : (p : NumberedProgram) (q : ℕ) (s : State) (u : Share) (e : Outcome) → chosen p q s u ≡ Err e → (limit : ℕ) (input : List ℤ) (xs : List Step) → EndsBy limit p input xs s e
unfolding chosen next_share
chosen_ends p q s u e h limit input xs = go (sync.over s.sync) refl h
  where
    err_or : Outcome → Result Share Outcome → Outcome
    err_or d (Ok v) = d
    err_or d (Err x) = x

    share : (a : Bool) → sync.over s.sync ≡ false
        → or_deadlock p s (if a then Some u else share_to s q u.thread.0 (first_true (λ d. ready p s (around s u.thread.0 d)) (length s.locals))) ≡ Err e → EndsBy limit p input xs s e
    share true g k = absurd cc
    share false g k = deadlocked p q s u.thread.0 _ e g refl k limit input xs

    go : (b : Bool) → sync.over s.sync ≡ b → (if b then Err (exit_of s) else or_deadlock p s (next_share p q s u)) ≡ Err e → EndsBy limit p input xs s e
    go true o k = subst (EndsBy limit p input xs s) (ap (err_or e) k) (o, refl)
    go false o k = share (ready p s u.thread.0 && nat_lt 0 u.left) o k

-- ---- the run

-- a run that may have n steps more ends so, and is short enough
abbrev pub EndsWithin : ℕ → NumberedProgram → List ℤ → RunResult → Type 0
EndsWithin n p input r = (length r.trace ≤ n) × EndsBy n p input r.trace r.state r.end

one_more : (n : ℕ) (p : NumberedProgram) (input : List ℤ) (x : Step) (xs : List Step) (z : State) (e : Outcome) → EndsBy n p input xs z e → EndsBy (suc n) p input (x ∷ xs) z e
one_more n p input x xs z (ends.Exit value) h = h
one_more n p input x xs z (ends.Refused (refusals.Trap name id)) h = h
one_more n p input x xs z (ends.Refused refusals.Budget) h = record { all = ap suc h.all; thread = h.thread; is_ready = h.is_ready }

pub run_ends : (n : ℕ) (p : NumberedProgram) (input : List ℤ) (q : ℕ) (s : State) (u : Share) → EndsWithin n p input (run n p input q s u)
unfolding run
run_ends zero p input q s u = go (chosen p q s u) refl
  where
    go : (o : Result Share Outcome) → chosen p q s u ≡ o → EndsWithin zero p input (on_chosen s o (λ v. stop s (ends.Refused refusals.Budget)))
    go (Err e) h = (omega arith, chosen_ends p q s u e h zero input [])
    go (Ok v) h = (omega arith, record { all = refl; thread = v.thread.0; is_ready = chosen_ready p q s u v h })
run_ends (suc n) p input q s u = go (λ t w. run_ends n p input q t w) (chosen p q s u) refl
  where
    stepped : ((t : State) (w : Share) → EndsWithin n p input (run n p input q t w)) → (v : Share) → ready p s v.thread.0 ≡ true → (o : Stepped) → step [] p input s v.thread.0 ≡ o
        → EndsWithin (suc n) p input (on_step s v o (λ t w. run n p input q t w))
    stepped more v g (Trapped name id) h = (omega arith, inl (record { thread = v.thread.0; is_ready = g; traps = h }))
    stepped more v g (Did x t) h =
        let w : Share = record { thread = v.thread; left = v.left - 1 } in
        let m = more t w in
        (omega (arith, m.0), one_more n p input x (run n p input q t w).trace (run n p input q t w).state (run n p input q t w).end m.1)

    go : ((t : State) (w : Share) → EndsWithin n p input (run n p input q t w)) → (o : Result Share Outcome) → chosen p q s u ≡ o
        → EndsWithin (suc n) p input (on_chosen s o (λ v. on_step s v (step [] p input s v.thread.0) (λ t w. run n p input q t w)))
    go more (Err e) h = (omega arith, chosen_ends p q s u e h (suc n) input [])
    go more (Ok v) h = stepped more v (chosen_ready p q s u v h) (step [] p input s v.thread.0) refl

pub rotation_recording : (p : NumberedProgram) (input : List ℤ) (q : ℕ) → IsRecording p input (rotation_of p input q).trace (rotation_of p input q).state (rotation_of p input q).end
unfolding rotation_of
rotation_recording p input q =
    let h = run_ends RECORDING_STEP_LIMIT p input q (initial p) (first_share q) in
    record { run = rotation_runs p input q; short = h.0; ends = h.1 }
