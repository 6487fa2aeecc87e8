use Rattle.std.proofs.Common.{◌+◌, ◌/◌, arith}
use Rattle.pg_run_memory.specs.declared.pages.TheConstants.{PAGE_GRANULES}
use Rattle.pg_run_memory.proofs.Paging.{zero_pages, zero_paged}
use Rattle.pg_run_memory.proofs.pages.Pages.zeros.Goals as goal

pub invariant_of-result : goal.invariant_of-result
invariant_of-result c =
    zero_pages c.in_ok-zeros.field-0 c.in_ok-zeros-2.field-0 (c.args.count / PAGE_GRANULES) (c.args.count + PAGE_GRANULES) c.in_ok-zeros.ensures c.in_ok-zeros-2.ensures
    (omega (arith, c.requires.whole)) (omega (arith, c.requires.small))

pub returns : goal.returns
returns c =
    zero_paged c.in_ok-zeros.field-0 c.in_ok-zeros-2.field-0 (c.args.count / PAGE_GRANULES) (c.args.count + PAGE_GRANULES) c.args.count c.in_ok-zeros.ensures c.in_ok-zeros-2.ensures
    (omega (arith, c.requires.whole))
