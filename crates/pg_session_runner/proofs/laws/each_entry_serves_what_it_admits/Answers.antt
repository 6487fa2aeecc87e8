use Rattle.std.proofs.Common.{subst}
use Rattle.pg_law_reuse.specs.pg_law_runs.Cuts.{CanRun}
use Rattle.pg_session.specs.Sessions.{of_recording, of_turns}
use Rattle.pg_session_runner.proofs.laws.each_entry_serves_what_it_admits.Goals as goal

pub returns-clause-good : goal.returns-clause-good
returns-clause-good c p way input entry can (of_recording h) small admitted =
    c.a_kept_entry_serves_what_it_admits.ensures.good p way h.input input entry h.output h.end (subst (CanRun p) h.recording.is_entry.same_input can) h.recording small admitted
returns-clause-good c p way input entry can (of_turns h) small admitted =
    c.an_entry_of_turns_serves_what_it_admits.ensures.good p entry.input input entry.schedule.turns entry.schedule.gated entry can h small admitted

pub returns-clause-served : goal.returns-clause-served
returns-clause-served c p way input entry can (of_recording h) small admitted =
    c.a_kept_entry_serves_what_it_admits.ensures.served p way h.input input entry h.output h.end (subst (CanRun p) h.recording.is_entry.same_input can) h.recording small admitted
returns-clause-served c p way input entry can (of_turns h) small admitted =
    c.an_entry_of_turns_serves_what_it_admits.ensures.served p entry.input input entry.schedule.turns entry.schedule.gated entry can h small admitted
