use Rattle.std.proofs.Common.{◌≡◌, ℕ, Some, slice_get, ap, sym, ◌∙◌, subst}
use Rattle.std.proofs.lemmas.Result.{on_ok_weaker}
use Rattle.pg_slice_rules.specs.Extents.{is_live, open_after}
use Rattle.pg_slice_rules.specs.Known.{SymbolicState, thread_of, with_extents}
use Rattle.pg_slice_rules.specs.Moments.{instr_in, thread_in}
use Rattle.pg_slice_decisions.specs.Steps.{taken_by}
use Rattle.pg_slice_replay.specs.Landmarks.{landmark_of}
use Rattle.pg_run_trace.specs.declared.step.Step.{Step}
use Rattle.pg_slice_passes.specs.State.{Knows}
use Rattle.pg_slice_passes.proofs.LiveSteps.{live_if, step_is}
use Rattle.pg_slice_passes.proofs.state.SymbolicRun.step.Goals as goal

pub returns-clause-is : goal.returns-clause-is
returns-clause-is c = on_ok_weaker c.pass.result (λ f. f _ c.in_ok-live_if.ensures.is) c.pass.ensures.kept

pub returns-clause-value : goal.returns-clause-value
returns-clause-value c R m k e land did i h =
    let p = c.args.s.now.p.now in
    let d = taken_by c.args.s.now.d.now in
    let new = c.live_if.new.nodes in
    let n = c.args.s.now.n in
    let l = landmark_of p R.regions m in
    let z : SymbolicState = live_if p R.regions d n m k (is_live d.pinned (thread_of k (thread_in m)).extents) in
    let instr : instr_in p m ≡ Some c.args.s.now.x.now = ap (λ (y : Step). slice_get p.instrs y.instr.0) did ∙ i in
    let known = c.in_ok-live_if.ensures.value m R.regions k land did instr h in
    let passed = rw land at (c.pass.ensures.value p new z known) in
    on_ok_weaker c.pass.result (λ q.
    subst (λ (y : SymbolicState). Knows p new d.pinned c.pass.new.self y) (step_is R p d n m k e)
    (subst (λ (t : ℕ). Knows p new d.pinned c.pass.new.self
    (let y : SymbolicState = record z { threads = with_extents t (open_after n l.depth l.region l.edge (thread_of z t).extents) z.threads } in y)) (sym (ap (λ (y : Step). y.thread.0) did)) q)) passed
