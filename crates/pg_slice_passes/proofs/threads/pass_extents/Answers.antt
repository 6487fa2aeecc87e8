use Rattle.std.proofs.Common.{◌<◌, ◌≤◌, length, slice_index_or, sym, subst, arith}
use Rattle.std.proofs.lemmas.Result.{on_ok_weaker}
use Rattle.pg_slice_rules.specs.Extents.{open_after}
use Rattle.pg_slice_rules.specs.Known.{no_thread}
use Rattle.pg_slice_decisions.specs.declared.open.OpenExtents.{OpenExtents}
use Rattle.pg_slice_decisions.specs.Open.{AreOpen}
use Rattle.pg_slice_decisions.specs.Places.{open_at}
use Rattle.pg_slice_passes.proofs.ThreadLists.{found_open, opens_change, opens_past}
use Rattle.pg_slice_passes.proofs.threads.pass_extents.Goals as goal

pub returns-then-t-len : goal.returns-then-t-len
returns-then-t-len c =
    let opens = c.args.extents.now.items in
    let t = c.args.t in
    let lt : t < length opens = omega (arith, c.if-t-len.true, c.len.ensures) in
    on_ok_weaker c.pass.result (λ f. λ pinned n region ks free each.
    let es = (slice_index_or ks t no_thread).extents in
    opens_change pinned ks opens t (open_after n c.args.depth region c.args.edge es) c.pass.new.self lt each
    (f pinned es n region (subst (λ (o : OpenExtents). AreOpen pinned es (open_at o)) (sym (c.index_mut-open.ensures.value)) (found_open pinned ks opens t _ lt each)) free)) c.pass.ensures

pub returns-else-t-len : goal.returns-else-t-len
returns-else-t-len c pinned n region ks free each =
    let past : length c.args.extents.now.items ≤ c.args.t = omega (arith, c.if-t-len.false, c.len.ensures) in
    opens_past pinned ks c.args.extents.now.items c.args.t (open_after n c.args.depth region c.args.edge (slice_index_or ks c.args.t no_thread).extents) past each
