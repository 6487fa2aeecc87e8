use Rattle.std.proofs.Common.{◌∙◌, ap, drop}
use Rattle.pg_slice_replay.proofs.FreeableSteps.{added_count, tried, tried_none}
use Rattle.pg_slice_replay.proofs.free.try_apart.Goals as goal

pub returns-then-not-followed : goal.returns-then-not-followed
returns-then-not-followed c = tried_none c.args.p.now c.args.machine.now.state c.args.t.0 c.args.accesses.now c.args.ats.now.items c.in_ok-followed.followed c.follow_each.new.ats.items
    c.if-not-followed.true c.in_ok-followed.ensures

pub store_on_loads-stored-requires : goal.store_on_loads-stored-requires
store_on_loads-stored-requires c =
    added_count c.args.p.now c.args.machine.now.state c.args.t.0 c.args.accesses.now c.args.ats.now.items c.in_ok-followed.followed c.follow_each.new.ats.items c.from-added.result.now
    c.args.first c.if-not-followed.false c.requires
    (c.from-added.ensures ∙ ap (drop c.args.first) c.as_slice.ensures.value) c.in_ok-followed.ensures

pub returns : goal.returns
returns c =
    tried c.args.p.now c.args.machine.now.state c.args.t.0 c.args.accesses.now c.args.ats.now.items c.in_ok-followed.followed c.store_on_loads-stored.result c.follow_each.new.ats.items
    c.from-added.result.now c.args.first c.if-not-followed.false c.requires
    (c.from-added.ensures ∙ ap (drop c.args.first) c.as_slice.ensures.value) c.in_ok-followed.ensures c.store_on_loads-stored.ensures
