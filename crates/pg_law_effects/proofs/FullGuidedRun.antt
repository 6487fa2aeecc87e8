-- The full guided run, where the guided run doesn't stray.
use Rattle.std.proofs.Common.{◌≡◌, ◌≢◌, ℕ, ℤ, zero, suc, ◌+◌, ◌<◌, ◌≤◌, List, [], ◌∷◌, length, drop, take, replicate, Bool, true, false, Option, Some}
use Rattle.std.proofs.Common.{None, refl, sym, ◌∙◌, ap, subst, arith, inl, inr, ◌⊎◌}
use Rattle.std.specs.Prelude.{◌||◌, nat_le, is_some, slice_get, slice_index, if◌then◌else◌}
use Rattle.std.proofs.lemmas.Bool.{cases_lt}
use Rattle.std.proofs.lemmas.Bool.Decides.{nat_tests}
use Rattle.std.proofs.lemmas.List.{get_or-replicate}
use Rattle.std.proofs.lemmas.Option.{slice_get_past, slice_get_within}
use Rattle.pg_num.specs.declared.limits.TheConstants.{GUIDED_STEP_LIMIT, THREAD_LIMIT}
use Rattle.pg_ir.specs.declared.ids.InstrId.{InstrId}
use Rattle.pg_ir.specs.declared.ids.ThreadNo.{ThreadNo}
use Rattle.pg_ir.specs.declared.request.TrapName.{TrapName}
use Rattle.pg_ir.specs.Program.{NumberedProgram}
use Rattle.pg_run.specs.pg_run_objects.Sync as sync
use Rattle.pg_run_thread.specs.LocalState.{LocalState}
use Rattle.pg_run.specs.pg_run_trace.declared.turn.Turn.{Turn}
use Rattle.pg_run.specs.pg_run_trace.declared.step.Step.{Step}
use Rattle.pg_run.specs.declared.guided_end.GuidedEnd.{GuidedEnd}
use Rattle.pg_run.specs.declared.guided_end.GuidedEnd.TheVariants as ends
use Rattle.pg_run.specs.State.{State, initial, action_in, id_in, next_of, instr_of}
use Rattle.pg_run.specs.MachineStep.{is_ended, trap_of, turn_of}
use Rattle.pg_run.specs.Runs.{events, steps_of}
use Rattle.pg_run.specs.Permitted.{IsFull, IsHeldBy, IsPermitted, end_before, full_end, has_spent, has_turn, rests, traps, trapped, turns_left}
use Rattle.pg_run.specs.Guided.{GuidedRun, all_left, guided_of}
use Rattle.pg_run.specs.FullGuided.{full_guided_of, gone_on, stands, stops_early, with_others}
use Rattle.pg_run.proofs.GuidedExits.{guided_exits}
use Rattle.pg_run.proofs.GuidedPermitted.{guided_permitted}
use Rattle.pg_run.proofs.GuidedRuns.{guided_is}
use Rattle.pg_law_effects.proofs.ThreadLimits.{FewThreads, few_initial, few_run}
use Rattle.pg_law_effects.proofs.FullGuidedRunPermitted.{Gone, all_gone, all_within, trap_kept}
use Rattle.pg_law_effects.proofs.PermittedStepByStep.{permitted_is}
use Rattle.pg_law_effects.proofs.GuidedWalks.{Guides, HaltsAt, HaltsBy, guides}

take_drop : (n : ℕ) (us : List Turn) → drop (length (take n us)) us ≡ drop n us
take_drop zero us = refl
take_drop (suc n) [] = refl
take_drop (suc n) (u ∷ us) = take_drop n us

all_at : (t : ℕ) → t < THREAD_LIMIT → slice_index all_left t ≡ GUIDED_STEP_LIMIT
unfolding all_left
all_at t h = get_or-replicate THREAD_LIMIT t GUIDED_STEP_LIMIT 0 h

le_true : (m n : ℕ) → m ≤ n → nat_le m n ≡ true
le_true m n h = grind (arith, nat_tests)

le_false : (m n : ℕ) → n < m → nat_le m n ≡ false
le_false m n h = grind (arith, nat_tests)

spent_true : (xs : List Step) (t : ℕ) → GUIDED_STEP_LIMIT ≤ steps_of t xs → has_spent xs t ≡ true
spent_true xs t h = le_true GUIDED_STEP_LIMIT (steps_of t xs) h

spent_false : (xs : List Step) (t : ℕ) → steps_of t xs < GUIDED_STEP_LIMIT → has_spent xs t ≡ false
spent_false xs t h = le_false GUIDED_STEP_LIMIT (steps_of t xs) h

or_last : (a b : Bool) → b ≡ true → (a || b) ≡ true
or_last true b e = refl
or_last false b e = e

or_first : (a b : Bool) → a ≡ true → (a || b) ≡ true
or_first true b e = refl
or_first false b e = absurd cc

one_of_three : (a b c d : Bool) → (a || b || d) ≡ true → (a || b || c || d) ≡ true
one_of_three true b c d e = refl
one_of_three false true c d e = refl
one_of_three false false true d e = refl
one_of_three false false false d e = e

first_of_four : (a b c d : Bool) → a ≡ true → (a || b || c || d) ≡ true
first_of_four true b c d e = refl
first_of_four false b c d e = absurd cc

third : (a b c d : Bool) → c ≡ true → (a || b || c || d) ≡ true
third true b c d e = refl
third false true c d e = refl
third false false true d e = refl
third false false false d e = absurd cc

-- ---- threads that weren't made

ended_in : (p : NumberedProgram) (o : Option LocalState) → o ≡ None → is_ended (action_in p o) ≡ true
ended_in p None e = refl
ended_in p (Some l) e = absurd cc

not_made : (p : NumberedProgram) (s : State) (t : ℕ) → FewThreads s → THREAD_LIMIT ≤ t → is_ended (next_of p s t) ≡ true
unfolding next_of
not_made p s t h l = ended_in p (slice_get s.locals t) (slice_get_past s.locals t (omega (arith, h.few, l)))

made_in : (p : NumberedProgram) (s : State) (t : ℕ) (o : Option LocalState) → slice_get s.locals t ≡ o → is_ended (action_in p o) ≡ false → t < length s.locals
made_in p s t None e h = absurd cc
made_in p s t (Some l) e h = slice_get_within s.locals t l e

made_below : (p : NumberedProgram) (s : State) (t : ℕ) → FewThreads s → is_ended (next_of p s t) ≡ false → t < THREAD_LIMIT
unfolding next_of
made_below p s t h e = let k = made_in p s t (slice_get s.locals t) refl e in omega (arith, k, h.few)

instr_same : (s z : State) (t : ℕ) → slice_get s.locals t ≡ slice_get z.locals t → instr_of s t ≡ instr_of z t
unfolding instr_of
instr_same s z t e = ap id_in e

-- ---- the full guided run

module _ (gated : List InstrId) (p : NumberedProgram) (input : List ℤ) (turns : List Turn) where
  -- a run that is permitted, and full with this end unless that strays
  pub record IsWhole (e : GuidedEnd) (r : GuidedRun) : Type 0 where
    pub permitted : IsPermitted p input turns gated r.trace r.state
    pub end : r.end ≡ e
    pub full : e ≢ ends.Strayed → IsFull gated p turns r.trace r.state × (full_end p turns r.trace r.state ≡ e)

  few_after : (xs : List Step) (s : State) → IsPermitted p input turns gated xs s → FewThreads s
  few_after xs s h = few_run gated p input (initial p) s xs h.run (few_initial p)

  module _ (next : Turn) (later : List Turn) (r0 r : GuidedRun) (going : sync.over r0.state.sync ≡ false)
      (gone : Gone gated p input turns next later r0 going THREAD_LIMIT r) (permitted : IsPermitted p input turns gated r.trace r.state) (few0 : FewThreads r0.state)
      (counts0 : (t : ℕ) → slice_index r0.left t + steps_of t r0.trace ≡ slice_index all_left t) where
    others_rest : (t : ℕ) → t ≢ next.thread.0 → has_turn t later ≡ true → rests gated p r.trace r.state t ≡ true
    others_rest t n h = go (cases_lt t THREAD_LIMIT)
      where
        by_left : t < THREAD_LIMIT → (stands gated p r.state t ≡ true) ⊎ (slice_index r.left t ≡ 0) → rests gated p r.trace r.state t ≡ true
        by_left l (inl x) = one_of_three (is_ended (next_of p r.state t)) (traps p r.state t) (has_spent r.trace t) (is_some (turn_of gated p r.state t)) x
        by_left l (inr x) = third (is_ended (next_of p r.state t)) (traps p r.state t) (has_spent r.trace t) (is_some (turn_of gated p r.state t))
            (spent_true r.trace t (let c = gone.counts t in let a = all_at t l in omega (arith, c, a, x)))

        go : (t < THREAD_LIMIT) ⊎ (THREAD_LIMIT ≤ t) → rests gated p r.trace r.state t ≡ true
        go (inl l) = by_left l (gone.others t l n h)
        go (inr l) = first_of_four (is_ended (next_of p r.state t)) (traps p r.state t) (has_spent r.trace t) (is_some (turn_of gated p r.state t))
            (not_made p r.state t (few_after r.trace r.state permitted) l)

    trap_is : trap_of r.state next.thread.0 (next_of p r.state next.thread.0) ≡ trap_of r0.state next.thread.0 (next_of p r0.state next.thread.0)
    trap_is = trap_kept gated p input r.state r0.state next.thread.0 gone.owner gone.objects

    abbrev Holds : GuidedEnd → Type 0
    Holds e = (IsFull gated p turns r.trace r.state) × (full_end p turns r.trace r.state ≡ e)

    held : (traps p r.state next.thread.0 || has_spent r.trace next.thread.0) ≡ true → IsFull gated p turns r.trace r.state
    held h = subst (λ (us : List Turn). IsHeldBy gated p r.trace r.state us) (sym gone.left_turns) (record { going = ap sync.over gone.objects ∙ going; owner = h; others = others_rest })

    end_is : full_end p turns r.trace r.state ≡ end_before p r.trace r.state (next ∷ later)
    end_is = ap (λ (us : List Turn). end_before p r.trace r.state us) gone.left_turns

    by_trap : (name : TrapName) (id : InstrId) → HaltsBy gated p input next (ends.Trap name id) r0.state (slice_index r0.left next.thread.0) → Holds (ends.Trap name id)
    by_trap name id h =
        let k : trap_of r.state next.thread.0 (next_of p r.state next.thread.0) ≡ Some name = trap_is ∙ h.1 in
        let c = counts0 next.thread.0 in
        let a = all_within next.thread.0 in
        let l = h.3 in
        let f : has_spent r.trace next.thread.0 ≡ false = spent_false r.trace next.thread.0 (omega (arith, gone.spent, c, a, l)) in
        let i : Path InstrId (record { 0 = instr_of r.state next.thread.0 }) id = ap (λ (n : ℕ). record { 0 = n }) (instr_same r.state r0.state next.thread.0 gone.owner) ∙ sym h.2 in (
          held (or_first _ _ (ap (λ (o : Option TrapName). is_some o) k)),
          end_is
              ∙ ap (λ (b : Bool). if b then ends.Budget next.thread else trapped r.state next.thread.0 (trap_of r.state next.thread.0 (next_of p r.state next.thread.0))) f
              ∙ ap (trapped r.state next.thread.0) k
              ∙ ap (ends.Trap name) i,
        )

    by_budget : (t : ThreadNo) → HaltsBy gated p input next (ends.Budget t) r0.state (slice_index r0.left next.thread.0) → Holds (ends.Budget t)
    by_budget t h =
        let c = counts0 next.thread.0 in
        let a = all_at next.thread.0 (made_below p r0.state next.thread.0 few0 h.2) in
        let f : has_spent r.trace next.thread.0 ≡ true = spent_true r.trace next.thread.0 (omega (arith, gone.spent, c, a, h.3)) in (
          held (or_last _ _ f),
          end_is
              ∙ ap (λ (b : Bool). if b then ends.Budget next.thread else trapped r.state next.thread.0 (trap_of r.state next.thread.0 (next_of p r.state next.thread.0))) f
              ∙ ap (λ (n : ThreadNo). ends.Budget n) (sym h.0),
        )

    by_end : (e : GuidedEnd) → stops_early e ≡ true → HaltsBy gated p input next e r0.state (slice_index r0.left next.thread.0) → Holds e
    by_end (ends.Trap name id) s h = by_trap name id h
    by_end (ends.Budget t) s h = by_budget t h
    by_end (ends.Exit value) s h = absurd cc
    by_end ends.Strayed s h = absurd cc

  is_going : (next : Turn) (e : GuidedEnd) (s : State) (n : ℕ) → stops_early e ≡ true → HaltsBy gated p input next e s n → sync.over s.sync ≡ false
  is_going next (ends.Trap name id) s n k h = h.0
  is_going next (ends.Budget t) s n k h = h.1
  is_going next (ends.Exit value) s n k h = absurd cc
  is_going next ends.Strayed s n k h = absurd cc

  module _ (r0 : GuidedRun) (is_guided : r0 ≡ guided_of p input turns gated) where
    permitted0 : IsPermitted p input turns gated r0.trace r0.state
    permitted0 = subst (λ (r : GuidedRun). IsPermitted p input turns gated r.trace r.state) (sym is_guided) (guided_permitted p input turns gated)

    guides0 : Guides gated p input turns 0 all_left r0
    unfolding guided_of
    guides0 = subst (Guides gated p input turns 0 all_left) (sym is_guided) (guides gated p input turns 0 (initial p) all_left)

    left0 : turns_left turns r0.trace ≡ drop r0.turns turns
    left0 = ap (λ (us : List Turn). drop (length us) turns) (subst (λ (r : GuidedRun). events r.trace ≡ take r.turns turns) (sym is_guided) (guided_is p input turns gated).1)
        ∙ take_drop r0.turns turns

    halts0 : HaltsAt gated p input (drop r0.turns turns) r0.end r0.state r0.left
    halts0 = let e : guides0.done ≡ r0.turns = (let t = guides0.turns in omega (arith, t)) in subst (λ (n : ℕ). HaltsAt gated p input (drop n turns) r0.end r0.state r0.left) e guides0.halts

    gone_whole : (us : List Turn) → drop r0.turns turns ≡ us → stops_early r0.end ≡ true → HaltsAt gated p input us r0.end r0.state r0.left → IsWhole r0.end (gone_on gated p input us r0)
    gone_whole [] e s h = let k : true ≡ false = sym s ∙ h in absurd cc
    gone_whole (next ∷ later) e s h =
        let going = is_going next r0.end r0.state (slice_index r0.left next.thread.0) s h in
        let r = with_others THREAD_LIMIT gated p input next later r0 in
        let g : Gone gated p input turns next later r0 going THREAD_LIMIT r = all_gone gated p input turns next later r0 going THREAD_LIMIT (record {
          objects = refl;
          left_turns = left0 ∙ e;
          permitted = (permitted_is p input turns gated r0.trace r0.state).0 permitted0;
          counts = guides0.counts;
          owner = refl;
          spent = refl;
          others = λ t l. absurd (omega (arith, l));
          end = refl;
        }) in
        let q : IsPermitted p input turns gated r.trace r.state = (permitted_is p input turns gated r.trace r.state).1 g.permitted in
        record {
          permitted = q;
          end = g.end;
          full = λ n. by_end next later r0 r going g q (few_after r0.trace r0.state permitted0) guides0.counts r0.end s h;
        }

    as_guided : (e : GuidedEnd) → r0.end ≡ e → stops_early e ≡ false → IsWhole r0.end r0
    as_guided (ends.Exit value) e s = record {
      permitted = permitted0;
      end = refl;
      full = λ n. let k = subst (λ (r : GuidedRun). IsFull gated p turns r.trace r.state × (full_end p turns r.trace r.state ≡ ends.Exit value)) (sym is_guided)
          (guided_exits p input turns gated value (ap (λ (r : GuidedRun). r.end) (sym is_guided) ∙ e)) in (k.0, k.1 ∙ sym e);
    }
    as_guided ends.Strayed e s = record { permitted = permitted0; end = refl; full = λ n. absurd (n e) }
    as_guided (ends.Trap name id) e s = absurd cc
    as_guided (ends.Budget t) e s = absurd cc

    completes : (b : Bool) → stops_early r0.end ≡ b → IsWhole r0.end (if stops_early r0.end then gone_on gated p input (drop r0.turns turns) r0 else r0)
    completes true e = rw e (gone_whole (drop r0.turns turns) refl e halts0)
    completes false e = rw e (as_guided r0.end refl e)

pub full_is : (p : NumberedProgram) (input : List ℤ) (turns : List Turn) (gated : List InstrId)
    → IsWhole gated p input turns (guided_of p input turns gated).end (full_guided_of p input turns gated)
unfolding full_guided_of
full_is p input turns gated = completes gated p input turns (guided_of p input turns gated) refl (stops_early (guided_of p input turns gated).end) refl
