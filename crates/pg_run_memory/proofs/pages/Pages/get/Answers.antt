use Rattle.std.proofs.Common.{◌≡◌, ◌/◌, ap, ◌∙◌, slice_index}
use Rattle.pg_run_memory.specs.declared.pages.TheConstants.{PAGE_GRANULES}
use Rattle.pg_run_memory.specs.Pages.{paged}
use Rattle.pg_run_memory.proofs.Paging.{paged_read, slot_small}
use Rattle.pg_run_memory.proofs.pages.Pages.get.Goals as goal

pub place_of-requires : goal.place_of-requires
place_of-requires c =
    let p = c.self.inside in
    slot_small p.table p.arena p.used (c.args.granule / PAGE_GRANULES) c.self.invariant

pub returns : goal.returns
returns c =
    let p = c.self.inside in
    let e : slice_index p.arena c.place_of.result ≡ slice_index (paged p.table p.arena) c.args.granule =
    rw c.place_of.ensures (paged_read p.table p.arena p.used c.args.granule c.self.invariant) in
    c.get.ensures ∙ e ∙ ap (λ u. slice_index u c.args.granule) c.self.view_is
