-- A run of a program has one entry, but for how its precondition and its decisions are written.
use Rattle.std.proofs.Common.{◌≡◌, ℕ, ℤ, List, sym, ap, ◌∙◌, subst}
use Rattle.pg_ir.specs.declared.ids.InstrId.{InstrId}
use Rattle.pg_ir.specs.Program.{NumberedProgram}
use Rattle.pg_precondition.specs.Nodes.{Conditions}
use Rattle.pg_precondition.specs.Values.{is_admitted}
use Rattle.pg_run_trace.specs.declared.schedule.Schedule.{Schedule}
use Rattle.pg_run_trace.specs.declared.step.Step.{Step}
use Rattle.pg_run_trace.specs.declared.turn.Turn.{Turn}
use Rattle.pg_run_trace.specs.Races.{schedule_of}
use Rattle.pg_run.specs.Follow.{Exits, following_of}
use Rattle.pg_run.specs.State.{State, exit_value_of}
use Rattle.pg_slice_rules.specs.Known.{Taken}
use Rattle.pg_law_order.specs.pg_law_runs.Cuts.{CanRun}
use Rattle.pg_law_reference.proofs.SlicesAdmitAlike.{admit_alike}
use Rattle.pg_session_entry.specs.Entries.{AreAlike, EntryParts, IsEntry, IsSliced, decisions_of}

pub sliced_alike : (p : NumberedProgram) (input : List ℤ) (turns : List Turn) (gated : List InstrId) (steps : List Step) (printed : List ℕ) (value : ℤ) → CanRun p input
    → following_of p input turns gated ≡ Exits steps printed value → (d e : Taken) (c k : Conditions) → IsSliced p input gated steps d c → IsSliced p input gated steps e k
    → (other : List ℤ) → is_admitted other c ≡ is_admitted other k
sliced_alike p input turns gated steps printed value can exits d e c k a b other =
    let x = admit_alike p can.program can.bytes input can.small turns gated steps printed value exits a.sums b.sums a.summaries b.summaries d e a.slice b.slice in
    a.admits x.0 x.1 other ∙ x.3 other ∙ sym (b.admits x.0 x.2 other)

module _ (p : NumberedProgram) (input : List ℤ) (xs : List Step) (z : State) where
  exits_along : (e : EntryParts) (h : IsEntry p input xs z e) → following_of p input (schedule_of xs).turns (schedule_of xs).gated ≡ Exits h.steps z.printed (exit_value_of z)
  exits_along e h = sym (ap (λ (w : List ℤ). following_of p w e.schedule.turns e.schedule.gated) h.same_input
      ∙ ap (λ (s : Schedule). following_of p input s.turns s.gated) h.schedule) ∙ h.serves.exits

  sliced_along : (e : EntryParts) (h : IsEntry p input xs z e) → IsSliced p input (schedule_of xs).gated h.steps (decisions_of e) e.precondition
  sliced_along e h = subst (λ (s : Schedule). IsSliced p input s.gated h.steps (decisions_of e) e.precondition) h.schedule
      (subst (λ (w : List ℤ). IsSliced p w e.schedule.gated h.steps (decisions_of e) e.precondition) h.same_input h.serves.sliced)

  pub one_entry : (e k : EntryParts) → CanRun p input → IsEntry p input xs z e → IsEntry p input xs z k → AreAlike e k
  one_entry e k can a b =
      let here = exits_along e a in
      let there = exits_along k b in
      let same : b.steps ≡ a.steps = cc in
      record {
        input = a.same_input ∙ sym b.same_input;
        schedule = a.schedule ∙ sym b.schedule;
        races = a.races ∙ sym b.races;
        admitted = sliced_alike p input (schedule_of xs).turns (schedule_of xs).gated a.steps z.printed (exit_value_of z) can here (decisions_of e) (decisions_of k) e.precondition k.precondition
            (sliced_along e a) (subst (λ (l : List Step). IsSliced p input (schedule_of xs).gated l (decisions_of k) k.precondition) same (sliced_along k b));
      }
