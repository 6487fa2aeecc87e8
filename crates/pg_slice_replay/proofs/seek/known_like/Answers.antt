use Rattle.std.proofs.Common.{sym, ◌∙◌}
use Rattle.pg_region_accesses.specs.Accesses.{summary_of}
use Rattle.pg_region_accesses.specs.Tables.{in_table}
use Rattle.pg_region.specs.Regions.{block_of}
use Rattle.pg_slice_replay.proofs.SoughtRegions.{like_known}
use Rattle.pg_slice_replay.proofs.seek.known_like.Goals as goal

pub returns-then-is_known-clause-known : goal.returns-then-is_known-clause-known
returns-then-is_known-clause-known c =
    like_known c.args.p.now (in_table c.args.finder.now.gated) (summary_of c.args.sums.now) c.args.known.now.blocks.items c.args.known.now.regions.items c.sought_at-sought.result c.args.other
    (block_of c.args.p.now c.args.branch.0) c.requires.found (rw c.as_slice.ensures.value at c.sought_at-sought.ensures) (sym c.was_sought-is_known.ensures ∙ c.if-is_known.true) c.requires.like
