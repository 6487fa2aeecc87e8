use Rattle.std.proofs.Common.{arith}
use Rattle.pg_slice_replay.proofs.PathsAgain.{leads_all, leads_next}
use Rattle.pg_slice_replay.proofs.follow.lead_to.Goals as goal

pub loop-i-preserved : goal.loop-i-preserved
loop-i-preserved c =
    leads_next c.args.p.now c.args.machine.now.state c.args.t.0 c.args.accesses.now c.loop-i.i c.rooted_at-access.result c.args.ats.now c.place_at-at.result c.rooted_at-access.ensures
    c.place_at-at.ensures (c.leads_to-leads.ensures c.if-not-leads.false) c.loop-i.invariant

pub returns : goal.returns
returns c = λ e.
    leads_all c.args.p.now c.args.machine.now.state c.args.t.0 c.args.accesses.now c.loop-i.i c.args.ats.now (omega (arith, c.loop-i-test.false)) c.requires c.loop-i.invariant
