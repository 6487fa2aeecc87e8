use Rattle.std.proofs.Common.{◌∙◌, ap, option_map}
use Rattle.pg_region_paths.specs.Paths.{offsets_of}
use Rattle.pg_slice_replay.specs.Paths.{along}
use Rattle.pg_slice_replay.proofs.PathsAgain.{plain_path}
use Rattle.pg_slice_replay.proofs.follow.leads_to.Goals as goal

pub returns-then-never_loads : goal.returns-then-never_loads
returns-then-never_loads c = λ e.
    plain_path c.args.p.now c.args.machine.now.state c.args.t.0 c.args.path c.args.at.now (c.never_loads.ensures c.if-never_loads.true) (c.is_root.ensures e)

pub returns : goal.returns
returns c = λ e. c.follow-found.ensures ∙ ap (option_map (along (offsets_of c.args.path.loads))) (c.is_same.ensures e)
