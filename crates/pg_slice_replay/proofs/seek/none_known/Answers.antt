use Rattle.std.proofs.Common.{ap, ◌∙◌, replicate}
use Rattle.pg_slice_replay.specs.declared.found.Sought.TheVariants.{Unsought}
use Rattle.pg_slice_replay.proofs.SoughtRegions.{none_found}
use Rattle.pg_slice_replay.proofs.seek.none_known.Goals as goal

pub returns : goal.returns
returns c = λ gated sums. none_found c.args.p.now gated sums c.in_ok-unsought.field-0.items c.new.result.items
    (c.in_ok-unsought.ensures ∙ ap (λ n. replicate n Unsought) c.block_count.ensures.count)
