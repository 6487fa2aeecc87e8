use Rattle.std.proofs.lemmas.Bool.{not-true}
use Rattle.pg_slice_replay.proofs.PathsAgain.{apart_again}
use Rattle.pg_slice_replay.proofs.share.lead_apart.Goals as goal

pub returns : goal.returns
returns c = λ e.
    apart_again c.args.p.now c.args.machine.now.state c.args.t.0 c.args.accesses.now c.args.ats.now c.store_on_loads-stored.result (c.lead_to-lead.ensures c.if-not-lead.false)
    c.store_on_loads-stored.ensures (not-true c.store_on_loads-stored.result e)
