use Rattle.std.proofs.Common.{List, ◌∙◌, ap, drop, Some}
use Rattle.pg_slice_replay.specs.declared.at.At.{At}
use Rattle.pg_slice_replay.specs.Paths.{accesses_with}
use Rattle.pg_slice_replay.proofs.PathsAgain.{with_taken}
use Rattle.pg_slice_replay.proofs.share.is_again.Goals as goal

pub returns-clause-apart : goal.returns-clause-apart
returns-clause-apart c = λ e.
    c.lead_apart.ensures e ∙ ap (λ (xs : List At). Some (accesses_with c.args.accesses.now xs)) c.window-places.ensures.places
    ∙ ap Some (with_taken c.args.accesses.now (drop c.args.first c.args.ats.now))
