use Rattle.std.proofs.Common.{◌∙◌, ap, option_map}
use Rattle.pg_region_paths.specs.Paths.{offsets_of}
use Rattle.pg_slice_replay.specs.Paths.{along}
use Rattle.pg_slice_replay.proofs.FollowedPaths.{followed_next, followed_none}
use Rattle.pg_slice_replay.proofs.follow.follow_each.Goals as goal

pub returns-in-None : goal.returns-in-None
returns-in-None c =
    followed_none c.args.p.now c.args.machine.now.state c.args.t.0 c.args.accesses.now c.loop-i.i c.rooted_at-access.result c.args.ats.now.items c.loop-i.ats.items c.rooted_at-access.ensures
    (c.follow.ensures ∙ ap (option_map (along (offsets_of c.rooted_at-access.result.path.loads))) c.in-None.is) c.loop-i.invariant

pub loop-i-preserved : goal.loop-i-preserved
loop-i-preserved c =
    followed_next c.args.p.now c.args.machine.now.state c.args.t.0 c.args.accesses.now c.loop-i.i c.rooted_at-access.result c.args.ats.now.items c.loop-i.ats.items c.push.new.self.items
    c.in-Some.at c.rooted_at-access.ensures
    (c.follow.ensures ∙ ap (option_map (along (offsets_of c.rooted_at-access.result.path.loads))) c.in-Some.is) c.in_ok-push-in-Some.ensures.items c.loop-i.invariant
