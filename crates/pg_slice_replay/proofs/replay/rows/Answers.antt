use Rattle.std.proofs.Common.{◌∙◌, ap, subst, sym}
use Rattle.pg_law_effects.specs.pg_run.Bound.{BoundState}
use Rattle.pg_slice_replay.specs.Landmarks.{landmark_with, told_along}
use Rattle.pg_slice_replay.specs.Sought.{freed_in}
use Rattle.pg_slice_replay.specs.Targets.{AreTargets}
use Rattle.pg_slice_replay.proofs.replay.rows.Goals as goal

pub replay-requires-clause-targets : goal.replay-requires-clause-targets
replay-requires-clause-targets c = subst (λ (m : BoundState). AreTargets c.args.p.now c.in_ok-targets.targets.kept.items m.state) (sym c.in_ok-machine.ensures.state)
    (c.in_ok-targets.ensures c.args.p.now)

pub returns : goal.returns
returns c =
    c.in_ok-replay.ensures.rows
    ∙ ap (λ (m : BoundState). told_along (λ s x. landmark_with c.args.p.now (freed_in c.args.p.now c.args.regions.now.blocks.items c.args.regions.now.regions.items s x) s x) m.gated
    c.args.p.now m.input m.state c.args.t.now.steps) c.in_ok-machine.ensures.state
