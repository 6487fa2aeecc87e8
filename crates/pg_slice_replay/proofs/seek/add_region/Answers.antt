use Rattle.std.proofs.Common.{ap, ◌∙◌}
use Rattle.pg_slice_replay.specs.declared.found.Sought.TheVariants.{At}
use Rattle.pg_slice_replay.proofs.seek.add_region.Goals as goal

pub returns : goal.returns
returns c = rw c.in-Some.is (c.in_ok-kept.field-0, record { behind = c.in_ok-push.ensures.items; kept = c.in_ok-kept.ensures; number = ap At (c.len-number.ensures ∙ c.args.regions.now.ok.0) })
