use Rattle.std.proofs.Common.{◌≡◌, ℕ, ◌<◌, true, Option, Some, None, IfSome, refl, sym, subst}
use Rattle.pg_slice_passes.specs.pg_slice_decisions.declared.steps.DecisionSet.{DecisionSet}
use Rattle.pg_slice_passes.specs.pg_slice_decisions.Steps.{AreOf, step_of, taken_by}
use Rattle.pg_slice_rules.specs.declared.decision.Decision.{Decision}
use Rattle.pg_slice_passes.specs.pg_slice_replay.Landmarks.{landmark_of}
use Rattle.pg_law_demands.specs.Along.{known_at}
use Rattle.pg_law_demands.proofs.StepBack.{seen_with}
use Rattle.pg_slice_back.proofs.Dispatch.{call_is, landmark_is, own_met, region_met}
use Rattle.pg_slice_back.proofs.live.back_live.Goals as goal

due_fits : (o : Option Decision) (n : ℕ) (d : DecisionSet) → IfSome o (λ (z : Decision). step_of z ≡ n) → (k : ℕ) × AreOf k d
    × (n < k) → IfSome o (λ (z : Decision). (k : ℕ) × AreOf k d × (step_of z < k))
due_fits None n d h f = tt
due_fits (Some z) n d h f = (f.0, f.1, subst (λ (i : ℕ). i < f.0) (sym h) f.2)

pub take_due-requires : goal.take_due-requires
take_due-requires c = due_fits c.in_ok-due.due c.args.s.now.number c.args.decisions.now c.in_ok-due.ensures.step c.requires.size

pub returns-clause-back : goal.returns-clause-back
returns-clause-back c = λ R e m st within met.
    let n = c.args.s.now.number in
    let p = c.args.s.now.program.now in
    let r = c.args.s.now.reference.now in
    let x = c.args.s.now.instr.now in
    let step = c.args.s.now.step.now in
    let counts = c.args.s.now.counts in
    let at = c.call_of-at.result in
    let call = call_is R e p r x step counts n m st at c.call_of-at.ensures.thread c.call_of-at.ensures.depth in
    let b = c.in_ok-due.ensures.back R e m st call met in
    let more = c.take_due.ensures.within e b.1 within in
    let s = known_at R e n in
    let y = seen_with R n m true s in
    let t = sym call.thread in
    let k = sym call.depth in (
      c.in_ok-put_region.ensures (landmark_of R.program R.regions m) s y (landmark_is R e p r x step counts n m st) t k (region_met R e p r x step counts n m st)
          (c.in_ok-put_own.ensures s y t k refl (own_met R e p r x step counts n m st (taken_by c.take_due.new.decisions) more) b.0),
      more,
    )
