use Rattle.std.proofs.Common.{◌≡◌, ◌<◌, ◌≤◌, List, length, slice_index_or, ap, sym, ◌∙◌, subst, arith}
use Rattle.pg_slice_rules.specs.Extents.{is_live}
use Rattle.pg_slice_rules.specs.Known.{thread_of}
use Rattle.pg_slice_decisions.specs.declared.open.OpenExtents.{OpenExtents}
use Rattle.pg_slice_decisions.specs.Open.{AreOpen}
use Rattle.pg_slice_decisions.specs.Places.{open_at}
use Rattle.pg_slice_passes.proofs.ThreadLists.{found_open, no_open}
use Rattle.pg_slice_passes.proofs.state.SymbolicRun.is_live.Goals as goal

pub returns-in-Some : goal.returns-in-Some
returns-in-Some c p ns pinned k h =
    let os = c.args.self.now.extents.items in
    let t = c.args.t in
    let here = c.in-Some.open.now in
    let found = c.in-Some.ensures.lookup in
    let items : c.deref.result.now ≡ os = c.deref.ensures.value in
    let below = found.3.0 in
    let lt : t < length os = omega (arith, below, ap (λ (xs : List OpenExtents). length xs) items) in
    let at : here ≡ slice_index_or os t here = found.3.1 here ∙ ap (λ (xs : List OpenExtents). slice_index_or xs t here) items in
    let es = (thread_of k t).extents in
    c.is_live.ensures pinned es (subst (λ (o : OpenExtents). AreOpen pinned es (open_at o)) (sym at) (found_open pinned k.threads os t here lt h.extents))

pub returns-in-None : goal.returns-in-None
returns-in-None c p ns pinned k h =
    let os = c.args.self.now.extents.items in
    let t = c.args.t in
    let items : c.deref.result.now ≡ os = c.deref.ensures.value in
    let past = c.in-None.ensures.lookup.3 in
    let le : length os ≤ t = omega (arith, past, ap (λ (xs : List OpenExtents). length xs) items) in
    sym (ap (is_live pinned) (no_open pinned k.threads os t h.extents le))
