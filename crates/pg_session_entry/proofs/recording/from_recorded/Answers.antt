use Rattle.pg_session_entry.proofs.recording.from_recorded.Goals as goal

pub record_of-requires-clause-recording : goal.record_of-requires-clause-recording
record_of-requires-clause-recording c = let r = c.requires.recording in (r.0, r.1)

pub returns : goal.returns
returns c = let r = c.requires.recording in (r.0, r.1, r.2, c.in_ok-made.ensures r.0 r.1 r.2)
