use Rattle.std.proofs.Common.{◌∙◌, Some, ap, sym}
use Rattle.std.specs.Option.{option_copied}
use Rattle.pg_slice_replay.proofs.AddedRows.{with_at, without_access, without_at}
use Rattle.pg_slice_replay.proofs.run.access_in.Goals as goal

pub returns-in-Some-at_if : goal.returns-in-Some-at_if
returns-in-Some-at_if c = ap Some c.given.ensures ∙ sym (with_at c.args.accesses.now c.args.ats.now c.args.k c.in-Some.access.now c.in-Some-at_if.at.now
    (sym c.rooted_if.ensures ∙ ap option_copied c.in-Some.is) (sym c.at_if.ensures ∙ ap option_copied c.in-Some-at_if.is))

pub returns-in-None-at_if : goal.returns-in-None-at_if
returns-in-None-at_if c = sym (without_at c.args.accesses.now c.args.ats.now c.args.k (sym c.at_if.ensures ∙ ap option_copied c.in-None-at_if.is))

pub returns-in-None : goal.returns-in-None
returns-in-None c = sym (without_access c.args.accesses.now c.args.ats.now c.args.k (sym c.rooted_if.ensures ∙ ap option_copied c.in-None.is))
