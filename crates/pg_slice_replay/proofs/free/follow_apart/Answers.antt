use Rattle.std.proofs.Common.{◌∙◌}
use Rattle.pg_slice_replay.proofs.FreeableSteps.{apart_added, apart_cut}
use Rattle.pg_slice_replay.proofs.free.follow_apart.Goals as goal

pub try_apart-requires : goal.try_apart-requires
try_apart-requires c = c.len-first.ensures ∙ c.args.ats.now.ok.0

pub returns-then-apart : goal.returns-then-apart
returns-then-apart c = apart_added c.args.p.now c.args.machine.now.state c.args.t.0 c.args.accesses.now c.args.ats.now.items c.in_ok-apart.apart c.try_apart.new.ats.items c.if-apart.true
    c.in_ok-apart.ensures

pub returns : goal.returns
returns c =
    apart_cut c.args.p.now c.args.machine.now.state c.args.t.0 c.args.accesses.now c.args.ats.now.items c.in_ok-apart.apart c.try_apart.new.ats.items c.cut.new.ats.items c.len-first.result
    c.if-apart.false (c.len-first.ensures ∙ c.args.ats.now.ok.0) c.cut.ensures c.in_ok-apart.ensures
