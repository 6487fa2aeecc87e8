use Rattle.std.proofs.Common.{◌≡◌, ap, sym, ◌∙◌, subst}
use Rattle.std.proofs.lemmas.Result.{on_ok_weaker}
use Rattle.pg_slice_rules.specs.Known.{SymbolicState, function_in, region_of}
use Rattle.pg_slice_rules.specs.Moments.{instr_in}
use Rattle.pg_slice_decisions.specs.Steps.{taken_by}
use Rattle.pg_run_trace.specs.declared.step.Step.{Step}
use Rattle.pg_run_trace.specs.declared.step.StepKind.TheVariants as kinds
use Rattle.pg_slice_passes.specs.State.{Knows}
use Rattle.pg_slice_passes.proofs.LiveSteps.{live_is}
use Rattle.pg_slice_passes.proofs.state.SymbolicRun.live.Goals as goal

pub returns-in-Access-clause-value : goal.returns-in-Access-clause-value
returns-in-Access-clause-value c m regions k land did i h =
    let p = c.args.s.now.p.now in
    let d = taken_by c.args.s.now.d.now in
    let new = c.live_access.new.nodes in
    let region = region_of p regions m (instr_in p m) in
    let kind : m.did.did.kind ≡ kinds.Access c.in-Access.a = ap (λ (y : Step). y.kind) did ∙ c.in-Access.is in
    on_ok_weaker c.live_access.result (λ q. subst (λ (z : SymbolicState). Knows p new d.pinned c.live_access.new.self z)
    (live_is p d c.args.s.now.n m region c.args.s.now.x.now (kinds.Access c.in-Access.a) k i kind) q)
    (c.live_access.ensures.value d m region k (sym c.is_exact.ensures) (ap (λ (y : Step). y.thread.0) did) h)

pub returns-in-Event-clause-value : goal.returns-in-Event-clause-value
returns-in-Event-clause-value c m regions k land did i h =
    let p = c.args.s.now.p.now in
    let d = taken_by c.args.s.now.d.now in
    let new = c.live_event.new.nodes in
    let region = region_of p regions m (instr_in p m) in
    let kind : m.did.did.kind ≡ kinds.Event c.in-Event.e = ap (λ (y : Step). y.kind) did ∙ c.in-Event.is in
    let function : function_in m.calls ≡ c.function.result = sym (rw land at c.function.ensures.function) in
    on_ok_weaker c.live_event.result (λ q. subst (λ (z : SymbolicState). Knows p new d.pinned c.live_event.new.self z)
    (live_is p d c.args.s.now.n m region c.args.s.now.x.now (kinds.Event c.in-Event.e) k i kind) q)
    (c.live_event.ensures.value d c.args.s.now.n m region k function (ap (λ (y : Step). y.thread.0) did) h)
