-- What an entry keeps is a recording of its guided run, whose decisions are closed and admit what its precondition admits.
use Rattle.std.proofs.Common.{◌≡◌, ℕ, ℤ, ◌<◌, ◌^◌, List, [], length, map, true, refl, sym, ap, ◌∙◌, subst, append-nil}
use Rattle.pg_law_reuse.specs.pg_ir.declared.ids.InstrId.{InstrId}
use Rattle.pg_law_reuse.specs.pg_ir.Program.{NumberedProgram}
use Rattle.pg_precondition.specs.Nodes.{Conditions}
use Rattle.pg_precondition.specs.Values.{is_admitted}
use Rattle.pg_region_accesses.specs.Accesses.{is_gated}
use Rattle.pg_law_reuse.specs.pg_law_threads.Intervals.{IsOrdered}
use Rattle.pg_law_reuse.specs.pg_run_trace.declared.schedule.Schedule.{Schedule}
use Rattle.pg_law_reuse.specs.pg_run_trace.declared.step.Step.{Step}
use Rattle.pg_law_reuse.specs.pg_run_trace.declared.turn.Turn.{Turn}
use Rattle.pg_law_reuse.specs.pg_run_trace.Races.{recorded, schedule_of, with_gated}
use Rattle.pg_law_reuse.specs.pg_run.Follow.{Exits, following_of}
use Rattle.pg_law_reuse.specs.pg_run.Guided.{guided_of}
use Rattle.pg_law_reuse.specs.pg_run.Permitted.{turns_left}
use Rattle.pg_law_reuse.specs.pg_run.Runs.{events}
use Rattle.pg_law_reuse.specs.pg_run.State.{State, exit_value_of}
use Rattle.pg_session_entry.specs.pg_slice_rules.Freeable.{Regions}
use Rattle.pg_session_entry.specs.pg_slice_rules.Known.{Taken}
use Rattle.pg_session_entry.specs.OfRegions.{AreRegions}
use Rattle.pg_session_entry.proofs.BranchRegions.{regions_are}
use Rattle.pg_session_entry.specs.pg_law_runs.Cuts.{CanRun, IsOrderedAlong, steps_by}
use Rattle.pg_session_entry.specs.pg_law_runs.Deeds.{owners_of}
use Rattle.pg_session_entry.specs.pg_law_runs.LastTurns.{IsRecorded}
use Rattle.pg_session_entry.specs.pg_law_order.Good.{IsGoodRun, replies_of}
use Rattle.pg_session_entry.specs.pg_law_order.Schedules.{along}
use Rattle.pg_session_entry.proofs.of_pg_law_order.UnorderedPairs.{ordered_none}
use Rattle.pg_session_entry.proofs.of_pg_law_order.RecordedSchedules.{guides_as, up_to}
use Rattle.pg_session_entry.proofs.of_pg_law_order.ExitsHaveAllTurns.{all_turns, exited, owners_events}
use Rattle.pg_law_admitted.specs.Recorded.{IsOrderedReference}
use Rattle.pg_law_admitted.proofs.AdmittedGuidedRun.{good_run}
use Rattle.pg_session_entry.specs.Entries.{EntryParts, IsEntry, IsEntryOfTurns, IsSliced, decisions_of}
use Rattle.pg_session_entry.proofs.of_pg_law_order.FirstEvents.{fronts_same, replies_first, until_replies}

-- ---- what is kept of an ordered run that exits

module _ (p : NumberedProgram) (own : List ℤ) (s : Schedule) (steps : List Step) (printed : List ℕ) (value : ℤ) (d : Taken) (c : Conditions) (can : CanRun p own)
    (exits : following_of p own s.turns s.gated ≡ Exits steps printed value)
    (ordered : IsOrderedAlong s.turns steps) (replies : replies_of steps ≡ s.replies) (sliced : IsSliced p own s.gated steps d c) where
  some : (regions : Regions) × AreRegions p (is_gated s.gated) sliced.sums regions
  some = regions_are p (is_gated s.gated) sliced.sums can.program sliced.summaries

  recording_is : IsOrderedReference p own s sliced.sums some.0 steps
  recording_is = record {
    reference = record { program = can.program; bytes = can.bytes; small = can.small; summaries = sliced.summaries; regions_are = some.1; printed = printed; value = value; exits = exits };
    ordered = ordered;
    replies = replies;
  }

  pub good : (input : List ℤ) → length input < 2 ^ 64 → is_admitted input c ≡ true → IsGoodRun p input s
  good input small e = good_run p own input s sliced.sums some.0 steps d recording_is
      (record { closed = (sliced.slice some.0 some.1).closed; admitted = sym (sliced.admits some.0 some.1 input) ∙ e; small = small })

-- ---- the guided run along the schedule of a recorded run

-- it has the schedule's replies, since each thread does the same
recorded_replies : (p : NumberedProgram) (own : List ℤ) (xs : List Step) (z : State) → CanRun p own → IsRecorded p own xs z
    → replies_of (guided_of p own (schedule_of xs).turns (schedule_of xs).gated).trace ≡ (schedule_of xs).replies
recorded_replies p own xs z can h =
    let s = schedule_of xs in
    let g = guided_of p own s.turns s.gated in
    let guided = guides_as p own can xs z h in
    let all = (up_to p own can xs z h).ordered.permitted.in_order in
    let mine = guided.ordered.permitted.in_order in
    let same = guided.steps in
    fronts_same (replies_of g.trace) (replies_of (along s xs))
    (replies_first s.turns g.trace (along s xs) (turns_left s.turns g.trace, mine) (turns_left s.turns (along s xs), all) (λ t. ([], append-nil (steps_by t g.trace) ∙ same t)))
    (replies_first s.turns (along s xs) g.trace (turns_left s.turns (along s xs), all) (turns_left s.turns g.trace, mine) (λ t. ([], append-nil (steps_by t (along s xs)) ∙ sym (same t))))
    ∙ until_replies s.turns (map (with_gated s.gated) xs) refl

-- by the steps with which it exits
recorded_along : (p : NumberedProgram) (own : List ℤ) (xs : List Step) (z : State) (s : Schedule) (steps : List Step) (printed : List ℕ) (value : ℤ) → CanRun p own
    → IsRecorded p own xs z → s ≡ schedule_of xs
    → following_of p own s.turns s.gated ≡ Exits steps printed value → IsOrderedAlong s.turns steps × (replies_of steps ≡ s.replies)
recorded_along p own xs z s steps printed value can h same e =
    let x = exited p own s.turns s.gated steps printed value e in
    subst (λ (l : List Step). IsOrderedAlong s.turns l × (replies_of l ≡ s.replies)) x.steps
    (subst (λ (r : Schedule). IsOrderedAlong r.turns (guided_of p own r.turns r.gated).trace × (replies_of (guided_of p own r.turns r.gated).trace ≡ r.replies)) (sym same)
    ((guides_as p own can xs z h).ordered.ordered, recorded_replies p own xs z can h))

-- ---- entries

pub entry_good : (p : NumberedProgram) (own input : List ℤ) (xs : List Step) (z : State) (e : EntryParts) → CanRun p own → IsRecorded p own xs z → IsEntry p own xs z e
    → length input < 2 ^ 64 → is_admitted input e.precondition ≡ true → IsGoodRun p input e.schedule
entry_good p own input xs z e can h i small admitted =
    let v = i.serves in
    let here : CanRun p e.input = subst (λ (l : List ℤ). CanRun p l) (sym i.same_input) can in
    let there : IsRecorded p e.input xs z = subst (λ (l : List ℤ). IsRecorded p l xs z) (sym i.same_input) h in
    let k = recorded_along p e.input xs z e.schedule i.steps z.printed (exit_value_of z) here there i.schedule v.exits in
    good p e.input e.schedule i.steps z.printed (exit_value_of z) (decisions_of e) e.precondition here v.exits k.0 k.1 v.sliced input small admitted

pub turns_good : (p : NumberedProgram) (own input : List ℤ) (turns : List Turn) (gated : List InstrId) (e : EntryParts) → CanRun p own → IsEntryOfTurns p own turns gated e
    → length input < 2 ^ 64 → is_admitted input e.precondition ≡ true → IsGoodRun p input e.schedule
turns_good p own input turns gated e can i small admitted =
    let v = i.serves in
    let here : CanRun p e.input = subst (λ (l : List ℤ). CanRun p l) (sym i.same_input) can in
    let all : events i.steps ≡ e.schedule.turns = all_turns p e.input e.schedule.turns e.schedule.gated i.steps
    (exited p e.input e.schedule.turns e.schedule.gated i.steps i.printed i.value v.exits) in
    let ordered : IsOrderedAlong e.schedule.turns i.steps = subst (λ (T : List ℕ). IsOrdered recorded T i.steps) (owners_events i.steps ∙ ap owners_of all) ((ordered_none i.steps).0 i.ordered) in
    good p e.input e.schedule i.steps i.printed i.value (decisions_of e) e.precondition here v.exits ordered (sym i.replies) v.sliced input small admitted
