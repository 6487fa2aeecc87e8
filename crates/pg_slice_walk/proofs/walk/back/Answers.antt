use Rattle.std.proofs.Common.{◌≡◌, ◌+◌, suc, sym, ap, subst, arith}
use Rattle.std.specs.Prelude.{slice_index_or}
use Rattle.pg_slice_back.specs.pg_slice_decisions.Steps.{AreOf, taken_by}
use Rattle.pg_run_trace.specs.declared.step.Step.{Step}
use Rattle.pg_slice_back.specs.pg_law_demands.Along.{known_at}
use Rattle.pg_slice_walk.specs.Words.{AreWordsMet}
use Rattle.pg_slice_walk.specs.Settled.{ArePinned}
use Rattle.pg_slice_walk.specs.Walks.{Walks}
use Rattle.pg_slice_walk.proofs.WalkSteps.{if_none, live_walks, same_step}
use Rattle.pg_slice_walk.proofs.SettledWithMore.{settled_stays}
use Rattle.pg_slice_walk.proofs.walk.back.Goals as goal

pub settle_open-requires-clause-size : goal.settle_open-requires-clause-size
settle_open-requires-clause-size c = subst (λ k. AreOf k c.args.decisions.now) (sym c.requires.count) c.requires.size

pub settle_open-requires-clause-number : goal.settle_open-requires-clause-number
settle_open-requires-clause-number c = omega (arith, c.requires.count, c.requires.number)

pub returns-in-Some-clause-walks : goal.returns-in-Some-clause-walks
returns-in-Some-clause-walks c = λ R e m told program closed q at words a.
    let own = ap (λ (z : Step). z.thread.0) (same_step c.args.walk.now.trace.now.steps c.args.number c.step-step.result m.did.did c.step-step.ensures at) in
    let w = (rw c.in-Some.is at c.in_ok-passed.ensures.passed) R e m told q own a in
    let v = (rw c.in-Some.is at c.in_ok-passed.ensures.words) R e m told q own c.args.words.now.items words in
    let z : suc c.in-Some.b ≡ c.in-Some.b + 1 = omega arith in (
      subst (λ k. Walks R e k c.settle_open.new.demanded (taken_by c.settle_open.new.decisions)) z w,
      subst (λ k. AreWordsMet (known_at R e k) c.args.words.now.items) z v,
    )

pub returns-in_ok-back_one-in-None-clause-walks : goal.returns-in_ok-back_one-in-None-clause-walks
returns-in_ok-back_one-in-None-clause-walks c = λ R e m told program closed q at words a.
    let own = same_step c.args.walk.now.trace.now.steps c.args.number c.step-step.result m.did.did c.step-step.ensures at in
    let w = c.in_ok-passed.ensures.behind R e m told q (ap (λ (z : Step). z.thread.0) own) a in
    let p = if_none c.in_ok-passed.passed (ArePinned c.args.walk.now.holders.now (taken_by c.settle_open.new.decisions) (slice_index_or c.args.walk.now.holders.now c.args.number 0)) c.in-None.is c.in_ok-passed.ensures.live in
    live_walks R c.args.walk.now.program.now c.args.walk.now.reference.now c.args.walk.now.holders.now c.args.walk.now.counts.now told program c.args.number m q c.step-step.result own c.instr-instr.result.now c.instr-instr.ensures.at c.counts_at-count.result
    c.counts_at-count.ensures c.settle_open.new.demanded c.back_one.new.demanded c.args.words.now.items c.back_one.new.words.items
    (taken_by c.settle_open.new.decisions) (taken_by c.back_one.new.decisions) e closed c.in_ok-back_one-in-None.ensures.back p words w

pub returns-in_ok-back_one-in-None-clause-settled : goal.returns-in_ok-back_one-in-None-clause-settled
returns-in_ok-back_one-in-None-clause-settled c =
    settled_stays c.args.walk.now.holders.now (taken_by c.settle_open.new.decisions) (taken_by c.back_one.new.decisions) c.settle_open.new.settled.items c.back_one.ensures.kept c.in_ok-passed.ensures.settled
