use Rattle.std.proofs.Common.{List, sym, subst}
use Rattle.pg_slice_rules.specs.Known.{SymbolicThread, threads_after}
use Rattle.pg_slice_decisions.specs.declared.open.OpenExtents.{OpenExtents}
use Rattle.pg_slice_passes.specs.State.{KnowsThreads}
use Rattle.pg_slice_passes.proofs.ThreadLists.{created, none_created}
use Rattle.pg_slice_passes.proofs.threads.with_created.Goals as goal

pub returns-in_ok-push-clause-value : goal.returns-in_ok-push-clause-value
returns-in_ok-push-clause-value c pinned ks k =
    let old = c.args.nodes.now in
    let new = c.after_create.new.nodes in
    let p = c.args.p.now in
    let e = c.args.e in
    let after = c.after_create.new.threads.items in
    subst (λ (os : List OpenExtents). KnowsThreads new pinned after os (threads_after p e e.kind ks)) (sym c.in_ok-push.ensures.items)
    (created old new pinned p e c.args.threads.now.items after c.args.extents.now.items c.new.result ks c.in-Create.is (λ es h. c.in_ok-after_create.ensures.value es h) (c.new.ensures pinned) k)

pub returns-in_default-clause-value : goal.returns-in_default-clause-value
returns-in_default-clause-value c pinned ks k =
    let p = c.args.p.now in
    let e = c.args.e in
    subst (λ (xs : List SymbolicThread). KnowsThreads c.args.nodes.now pinned c.args.threads.now.items c.args.extents.now.items xs) (sym (none_created p e e.kind ks c.in_default.not-Create)) k
