use Rattle.std.proofs.Common.{sym, subst}
use Rattle.std.specs.Prelude.{slice_index_or}
use Rattle.pg_slice_decisions.specs.Steps.{taken_by}
use Rattle.pg_slice.specs.Settled.{AreLive}
use Rattle.pg_slice_walk.specs.Settled.{ArePinned, AreSettled}
use Rattle.pg_slice.proofs.MoreDecisions.{live_stays}
use Rattle.pg_slice_walk.proofs.SettledWithMore.{pinned_more, settled_stays}
use Rattle.pg_slice.proofs.spread.spread_step.Goals as goal

pub take_asked-requires-clause-asked : goal.take_asked-requires-clause-asked
take_asked-requires-clause-asked c =
    let hs = c.args.holders.now in
    let d = taken_by c.args.decisions.now in
    let here : ArePinned hs d (slice_index_or hs c.args.number 0) = subst (λ h. ArePinned hs d h) c.holder_at.ensures
    (c.is_settled.ensures.pinned c.if-not-is_settled.false hs d (subst (λ l. AreSettled hs d l) (sym c.as_slice.ensures.value) c.requires.settled)) in
    record {
      count = c.requires.count;
      intervals = c.requires.intervals;
      number = c.requires.number;
      live = c.mark_live.ensures.live hs d here c.requires.live;
      here = here;
    }

pub returns-clause-live : goal.returns-clause-live
returns-clause-live c =
    let hs = c.args.holders.now in
    let old = taken_by c.args.decisions.now in
    let new = taken_by c.take_asked.new.decisions in
    let here = subst (λ h. ArePinned hs old h) c.holder_at.ensures
    (c.is_settled.ensures.pinned c.if-not-is_settled.false hs old (subst (λ l. AreSettled hs old l) (sym c.as_slice.ensures.value) c.requires.settled)) in
    subst (λ l. AreLive hs new l) (sym c.mark_settled.ensures.live) (live_stays hs old new c.mark_live.new.s.live.items c.take_asked.ensures.kept
    (c.mark_live.ensures.live hs old here c.requires.live))

pub returns-clause-settled : goal.returns-clause-settled
returns-clause-settled c =
    let hs = c.args.holders.now in
    let old = taken_by c.args.decisions.now in
    let new = taken_by c.take_asked.new.decisions in
    let here = subst (λ h. ArePinned hs old h) c.holder_at.ensures
    (c.is_settled.ensures.pinned c.if-not-is_settled.false hs old (subst (λ l. AreSettled hs old l) (sym c.as_slice.ensures.value) c.requires.settled)) in
    c.mark_settled.ensures.settled hs (pinned_more hs old new (slice_index_or hs c.args.number 0) c.take_asked.ensures.kept here)
    (settled_stays hs old new c.mark_live.new.s.settled.items c.take_asked.ensures.kept (subst (λ l. AreSettled hs old l) (sym c.mark_live.ensures.settled) c.requires.settled))
