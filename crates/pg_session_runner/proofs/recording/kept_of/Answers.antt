use Rattle.std.proofs.Common.{rules, subst, ◌≡◌, ℤ, List, true}
use Rattle.pg_law_reuse.specs.pg_precondition.Values.{is_admitted}
use Rattle.pg_law_reuse.specs.Records.{IsRecord}
use Rattle.pg_law_reuse.proofs.EntryParts.{recorded_of}
use Rattle.pg_session_runner.specs.Runs.{IsRecordedBy}
use Rattle.pg_session_runner.proofs.RecordedWays.{is_recording}
use Rattle.pg_session_runner.proofs.recording.kept_of.Goals as goal

pub end_along-end-requires : goal.end_along-end-requires
end_along-end-requires c =
    let h = c.requires in
    let k = subst (IsRecord h.0 h.1 (record { trace = h.2; state = h.5.0; end = h.3 })) c.in-Kept.is h.5.3 in
    c.a_recorded_schedule_has_few_turns.ensures h.0 h.1 h.2 h.5.0 c.in-Kept.entry
    (recorded_of h.0 h.1 h.2 h.5.0 h.3 c.in-Kept.value k.0 h.5.1) k.2

pub returns-in-Kept-clause-gives : goal.returns-in-Kept-clause-gives
returns-in-Kept-clause-gives c = λ p way input xs z end can by_way made.
    let k = subst (IsRecord p input (record { trace = xs; state = z; end = end })) c.in-Kept.is made in
    let recording = is_recording p way input xs z end (λ q. c.a_rotation_is_a_run.ensures.recording p input q) by_way in
    let admitted : is_admitted input c.in-Kept.entry.precondition ≡ true = subst (λ (l : List ℤ). is_admitted l c.in-Kept.entry.precondition ≡ true) k.2.same_input k.2.serves.own in
    record {
      steps = xs;
      state = z;
      value = c.in-Kept.value;
      exits = subst (IsRecordedBy p way input xs z) k.0 by_way;
      is_entry = k.2;
      printed = k.1;
      ends = search rules;
      served = c.an_entry_serves_what_it_admits.ensures.served p input input xs z c.in-Kept.entry can
          (recorded_of p input xs z end c.in-Kept.value k.0 recording) k.2 can.small admitted;
    }

pub returns-in-Refused-clause-gives : goal.returns-in-Refused-clause-gives
returns-in-Refused-clause-gives c = λ p way input xs z end can by_way made.
    let k = subst (IsRecord p input (record { trace = xs; state = z; end = end })) c.in-Refused.is made in
    record { steps = xs; state = z; ends = subst (IsRecordedBy p way input xs z) k.0 by_way; printed = k.1 }
