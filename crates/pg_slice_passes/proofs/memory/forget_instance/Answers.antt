use Rattle.std.proofs.Common.{sym, ◌∙◌}
use Rattle.pg_slice_replay.specs.Kept.{landmark_at}
use Rattle.pg_slice_checks.specs.pg_slice_memory.Changes.{symbolics_of}
use Rattle.pg_slice_passes.proofs.StoredBytes.{instance_freed, none_freed}
use Rattle.pg_slice_passes.proofs.KeptKnowledge.{if_some_from}
use Rattle.pg_slice_passes.proofs.memory.forget_instance.Goals as goal

pub returns-then-is_instance-clause-value : goal.returns-then-is_instance-clause-value
returns-then-is_instance-clause-value c p ns b =
    let s = c.args.step in
    if_some_from (landmark_at c.args.r.now c.args.n) _ (λ l e free.
    instance_freed c.forget.result s.freed s.pinned c.args.n l.region (symbolics_of p ns c.args.memory.now) (symbolics_of p ns c.forget.new.memory) b
    (sym c.is_instance.ensures ∙ c.if-is_instance.true) free (rw e at (c.forget.ensures.value p ns)))

pub returns-else-is_instance-clause-value : goal.returns-else-is_instance-clause-value
returns-else-is_instance-clause-value c p ns b =
    let s = c.args.step in
    if_some_from (landmark_at c.args.r.now c.args.n) _ (λ l e free.
    none_freed s.freed s.pinned c.args.n l.region (symbolics_of p ns c.args.memory.now) b (sym c.is_instance.ensures ∙ c.if-is_instance.false) free)
