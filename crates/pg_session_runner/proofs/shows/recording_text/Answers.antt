use Rattle.std.proofs.Common.{subst}
use Rattle.pg_law_reuse.proofs.Slicing.{all_below}
use Rattle.pg_session.specs.Recordings.{ComesOfRecording}
use Rattle.pg_session_runner.specs.Runs.{runs_by}
use Rattle.pg_session_runner.proofs.shows.recording_text.Goals as goal

pub entry_text-requires-clause-pinned : goal.entry_text-requires-clause-pinned
entry_text-requires-clause-pinned c =
    let h = c.requires in
    let k = subst (ComesOfRecording (runs_by h.0 h.1) h.2) c.in-Kept.is h.3 in
    let set = k.is_entry.serves.pinned in
    all_below _ set.0 _ set.1 set.2

pub entry_text-requires-clause-exact : goal.entry_text-requires-clause-exact
entry_text-requires-clause-exact c =
    let h = c.requires in
    let k = subst (ComesOfRecording (runs_by h.0 h.1) h.2) c.in-Kept.is h.3 in
    let set = k.is_entry.serves.exact in
    all_below _ set.0 _ set.1 set.2

pub unreachable-requires : goal.unreachable-requires
unreachable-requires c =
    let h = c.requires in
    h.4 (subst (ComesOfRecording (runs_by h.0 h.1) h.2) c.in-Untested.is h.3)
