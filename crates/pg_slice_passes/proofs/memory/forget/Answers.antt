use Rattle.std.proofs.Common.{◌≤◌, length, refl, sym, ◌∙◌, arith}
use Rattle.pg_slice_rules.specs.declared.decision.Decision.TheVariants.{Pinned}
use Rattle.pg_slice_replay.specs.Kept.{landmark_at}
use Rattle.pg_slice_checks.specs.pg_slice_memory.Changes.{symbolics_of}
use Rattle.pg_slice_passes.proofs.StoredBytes.{none_left}
use Rattle.pg_slice_passes.proofs.KeptKnowledge.{if_some_all, if_some_from}
use Rattle.pg_slice_passes.proofs.memory.forget.Goals as goal

pub loop-k-init : goal.loop-k-init
loop-k-init c = record {
  is = λ j a. a;
  value = λ p ns. if_some_all (landmark_at c.args.r.now c.args.n) _ (λ l. if_some_all l.region _ (λ f. refl));
}

pub loop-k-preserved : goal.loop-k-preserved
loop-k-preserved c = record {
  is = λ j a. c.in_ok-forget_next.ensures.is j (c.loop-k.invariant.is j a);
  value = λ p ns. if_some_from (landmark_at c.args.r.now c.args.n) _ (λ l e. if_some_from l.region _ (λ f q.
      rw q at (rw e at (c.in_ok-forget_next.ensures.value p ns)) ∙ rw q at (rw e at (c.loop-k.invariant.value p ns))));
}

pub returns-clause-value : goal.returns-clause-value
returns-clause-value c p ns =
    let k = c.loop-k.k in
    if_some_from (landmark_at c.args.r.now c.args.n) _ (λ l e. if_some_from l.region _ (λ f q.
    let count = rw q at (rw e at c.access_count-k-end.ensures.count) in
    let all : length f.accesses ≤ k = omega (arith, count, c.loop-k-test.false) in
    sym (none_left f.accesses k (Pinned c.args.n) (symbolics_of p ns c.loop-k.memory) all) ∙ rw q at (rw e at (c.loop-k.invariant.value p ns))))
