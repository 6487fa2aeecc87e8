use Rattle.std.proofs.Common.{◌≡◌, Bool, true, false, ap, sym, ◌∙◌, subst}
use Rattle.std.proofs.lemmas.Result.{on_ok_weaker}
use Rattle.pg_slice_rules.specs.Extents.{is_live}
use Rattle.pg_slice_rules.specs.Known.{thread_of}
use Rattle.pg_slice_rules.specs.Moments.{thread_in}
use Rattle.pg_slice_decisions.specs.Steps.{taken_by}
use Rattle.pg_run_trace.specs.declared.step.Step.{Step}
use Rattle.pg_slice_passes.specs.State.{Knows}
use Rattle.pg_slice_passes.proofs.LiveSteps.{live_if}
use Rattle.pg_slice_passes.proofs.state.SymbolicRun.live_if.Goals as goal

pub returns-then-is_live-clause-value : goal.returns-then-is_live-clause-value
returns-then-is_live-clause-value c m regions k land did i h =
    let p = c.args.s.now.p.now in
    let d = taken_by c.args.s.now.d.now in
    let old = c.args.nodes.now in
    let live : is_live d.pinned (thread_of k (thread_in m)).extents ≡ true =
    ap (λ (y : Step). is_live d.pinned (thread_of k y.thread.0).extents) did ∙ sym (c.is_live.ensures p old d.pinned k h) ∙ c.if-is_live.true in
    on_ok_weaker c.live.result (λ q. subst (λ (b : Bool). Knows p c.live.new.nodes d.pinned c.live.new.self (live_if p regions d c.args.s.now.n m k b)) (sym live) q)
    (c.live.ensures.value m regions k land did i h)

pub returns-else-is_live-clause-value : goal.returns-else-is_live-clause-value
returns-else-is_live-clause-value c m regions k land did i h =
    let p = c.args.s.now.p.now in
    let d = taken_by c.args.s.now.d.now in
    let old = c.args.nodes.now in
    let live : is_live d.pinned (thread_of k (thread_in m)).extents ≡ false =
    ap (λ (y : Step). is_live d.pinned (thread_of k y.thread.0).extents) did ∙ sym (c.is_live.ensures p old d.pinned k h) ∙ c.if-is_live.false in
    subst (λ (b : Bool). Knows p old d.pinned c.args.self.now (live_if p regions d c.args.s.now.n m k b)) (sym live) h
