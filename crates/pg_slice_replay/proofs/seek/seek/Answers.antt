use Rattle.std.proofs.Common.{◌≡◌, ℕ, ap, subst, sym, true}
use Rattle.std.specs.Prelude.{slice_get, slice_set}
use Rattle.pg_region_accesses.specs.Accesses.{summary_of}
use Rattle.pg_region_accesses.specs.Tables.{in_table}
use Rattle.pg_region.specs.Regions.{block_in}
use Rattle.pg_slice_replay.specs.Sought.{IsNowKnown, was_sought}
use Rattle.pg_slice_replay.proofs.SoughtRegions.{seek_kept, seek_more, seek_own}
use Rattle.pg_slice_replay.proofs.seek.seek.Goals as goal

pub returns-clause-found : goal.returns-clause-found
returns-clause-found c =
    let k : IsNowKnown c.args.p.now (in_table c.args.finder.now.gated) (summary_of c.args.sums.now) c.args.known.now.blocks.items c.known_as.new.known.regions.items c.instr.result.now.block.0
    c.in_ok-sought.sought = subst (λ (b : ℕ). IsNowKnown c.args.p.now (in_table c.args.finder.now.gated) (summary_of c.args.sums.now) c.args.known.now.blocks.items c.known_as.new.known.regions.items b
    c.in_ok-sought.sought) (ap block_in c.instr.ensures.at) c.in_ok-sought.ensures.known in
    rw c.known_as.ensures.blocks (seek_more c.args.p.now (in_table c.args.finder.now.gated) (summary_of c.args.sums.now) c.args.known.now.blocks.items c.in_ok-sought.sought
    c.known_as.new.known.regions.items c.instr.result.now.block.0 c.instr.ensures.fits.block k)

pub returns-clause-sought : goal.returns-clause-sought
returns-clause-sought c =
    let k : IsNowKnown c.args.p.now (in_table c.args.finder.now.gated) (summary_of c.args.sums.now) c.args.known.now.blocks.items c.known_as.new.known.regions.items c.instr.result.now.block.0
    c.in_ok-sought.sought = subst (λ (b : ℕ). IsNowKnown c.args.p.now (in_table c.args.finder.now.gated) (summary_of c.args.sums.now) c.args.known.now.blocks.items c.known_as.new.known.regions.items b
    c.in_ok-sought.sought) (ap block_in c.instr.ensures.at) c.in_ok-sought.ensures.known in
    rw c.known_as.ensures.blocks
    (subst (λ (b : ℕ). was_sought (slice_get (slice_set c.args.known.now.blocks.items c.instr.result.now.block.0 c.in_ok-sought.sought) b) ≡ true) (sym (ap block_in c.instr.ensures.at))
    (seek_own c.args.p.now (in_table c.args.finder.now.gated) (summary_of c.args.sums.now) c.args.known.now.blocks.items c.in_ok-sought.sought c.known_as.new.known.regions.items
    c.instr.result.now.block.0 c.instr.ensures.fits.block k))

pub returns-clause-kept : goal.returns-clause-kept
returns-clause-kept c =
    let k : IsNowKnown c.args.p.now (in_table c.args.finder.now.gated) (summary_of c.args.sums.now) c.args.known.now.blocks.items c.known_as.new.known.regions.items c.instr.result.now.block.0
    c.in_ok-sought.sought = subst (λ (b : ℕ). IsNowKnown c.args.p.now (in_table c.args.finder.now.gated) (summary_of c.args.sums.now) c.args.known.now.blocks.items c.known_as.new.known.regions.items b
    c.in_ok-sought.sought) (ap block_in c.instr.ensures.at) c.in_ok-sought.ensures.known in
    rw c.known_as.ensures.blocks (seek_kept c.args.p.now (in_table c.args.finder.now.gated) (summary_of c.args.sums.now) c.args.known.now.blocks.items c.in_ok-sought.sought
    c.known_as.new.known.regions.items c.instr.result.now.block.0 c.instr.ensures.fits.block k)
