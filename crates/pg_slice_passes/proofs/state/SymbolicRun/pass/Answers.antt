use Rattle.std.proofs.Common.{refl}
use Rattle.std.proofs.lemmas.Result.{on_ok_weaker}
use Rattle.pg_slice_decisions.specs.Steps.{taken_by}
use Rattle.pg_slice_replay.specs.Kept.{landmark_at}
use Rattle.pg_slice_passes.proofs.KeptKnowledge.{if_some_from}
use Rattle.pg_slice_passes.proofs.LiveSteps.{passed_known}
use Rattle.pg_slice_passes.proofs.state.SymbolicRun.pass.Goals as goal

pub returns-clause-value : goal.returns-clause-value
returns-clause-value c p ns k h =
    if_some_from (landmark_at c.args.r.now c.args.n) _ (λ l e.
    on_ok_weaker c.pass_extents.result (λ f.
    passed_known p ns (taken_by c.args.d.now).pinned c.args.self.now _ k c.args.t c.args.n l c.depth.result c.edge.result c.left_join-free.result h
    (rw e at c.depth.ensures.depth) (rw e at c.edge.ensures.edge) (rw e at c.left_join-free.ensures) refl refl refl f) c.pass_extents.ensures)
