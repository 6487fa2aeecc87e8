use Rattle.std.proofs.Common.{◌≡◌, rules}
use Rattle.pg_run.specs.declared.outcome.Outcome.TheVariants as ends
use Rattle.pg_session_entry.proofs.EntryParts.{recorded_of}
use Rattle.pg_session_entry.proofs.recording.record_of.Goals as goal

pub entry_of-requires-clause-recorded : goal.entry_of-requires-clause-recorded
entry_of-requires-clause-recorded c =
    let same : c.args.ended.end ≡ ends.Exit c.in-Exit.value = search rules in
    let r = c.requires.recording in
    (r.0, recorded_of c.args.p.now c.args.input.now c.args.trace.now.steps r.0 c.args.ended.end c.in-Exit.value same r.1)

pub returns-in_ok-entry-in-Exit : goal.returns-in_ok-entry-in-Exit
returns-in_ok-entry-in-Exit c = λ z recording printed.
    let same : c.args.ended.end ≡ ends.Exit c.in-Exit.value = search rules in (
      search rules,
      printed,
      c.in_ok-entry-in-Exit.ensures z
          (recorded_of c.args.p.now c.args.input.now c.args.trace.now.steps z c.args.ended.end c.in-Exit.value same recording),
    )
