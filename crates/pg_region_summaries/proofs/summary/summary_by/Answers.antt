use Rattle.std.proofs.Common.{◌≡◌, true, false, Some, sym}
use Rattle.std.specs.Prelude.{nat_le, option_map}
use Rattle.pg_region_accesses.specs.Accesses.{summary_of, set_accesses}
use Rattle.pg_region_accesses.specs.Tables.{in_table}
use Rattle.pg_region_summaries.specs.declared.limits.TheConstants.{SUMMARY_LIMIT}
use Rattle.pg_region_summaries.specs.Blocks.{blocks_of}
use Rattle.pg_region_summaries.specs.Counts.{blocks_count}
use Rattle.pg_region_summaries.specs.Summaries.{if_few, seen, summary_by}
use Rattle.pg_region_summaries.proofs.AccessCounts.{over}
use Rattle.pg_region_summaries.proofs.PreparedSummaries.{params_are, by_accesses}
use Rattle.pg_region_summaries.proofs.summary.summary_by.Goals as goal

pub returns-then-not-has_few : goal.returns-then-not-has_few
returns-then-not-has_few c =
    let many : nat_le (blocks_count c.args.p.now (summary_of c.args.sums.now) (blocks_of c.args.p.now c.args.f)) SUMMARY_LIMIT ≡ false =
    rw (c.as_slice.ensures.value, c.in_ok-blocks.ensures.blocks) at (sym c.if-not-has_few.ensures) in
    sym (over c.args.p.now (in_table c.args.gated.now) (summary_of c.args.sums.now) c.args.f many)

pub returns-in-Some : goal.returns-in-Some
returns-in-Some c =
    let all : option_map (λ v. v.items) c.in_ok-accesses.field-0 ≡ set_accesses true c.args.p.now (in_table c.args.gated.now) (summary_of c.args.sums.now) (blocks_of c.args.p.now c.args.f) =
    rw (c.as_slice-2.ensures.value, c.in_ok-blocks.ensures.blocks) at c.in_ok-accesses.ensures in
    let some : set_accesses true c.args.p.now (in_table c.args.gated.now) (summary_of c.args.sums.now) (blocks_of c.args.p.now c.args.f) ≡ Some c.in-Some.accesses.items =
    sym (rw c.in-Some.is at all) in
    let eq : if_few (seen c.function.result.now.params c.in-Some.accesses.items) ≡ summary_by c.args.p.now (in_table c.args.gated.now) (summary_of c.args.sums.now) c.args.f =
    by_accesses c.args.p.now (in_table c.args.gated.now) (summary_of c.args.sums.now) c.args.f c.function.result.now.params c.in-Some.accesses.items some
    (params_are c.args.p.now c.args.f c.function.result.now c.function.ensures.at) in
    rw (← eq) (rw c.as_slice-in-Some.ensures.value at c.seen_by_callers.ensures)
