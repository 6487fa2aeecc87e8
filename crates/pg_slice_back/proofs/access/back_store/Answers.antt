use Rattle.std.proofs.Common.{sym, ◌∙◌}
use Rattle.pg_slice_rules.specs.SymbolicValues.{is_within}
use Rattle.pg_run_trace.specs.Steps.{range_of}
use Rattle.pg_slice_back.specs.Bytes.{is_in}
use Rattle.pg_slice_back.specs.Leaves.{none}
use Rattle.pg_slice_back.proofs.NeedsBackOverSteps.{leaves_like}
use Rattle.pg_slice_back.proofs.access.back_store.Goals as goal

pub returns-clause-met : goal.returns-clause-met
returns-clause-met c = λ e after before l f g m. (
  c.in_ok-back_stored.ensures after before
      (leaves_like c.args.at.thread.0 c.args.at.depth none (is_within (range_of c.args.a)) (is_in c.own_bytes.result) after before c.own_bytes.ensures.is l)
      (λ b q h. f b (sym (c.own_bytes.ensures.is b) ∙ q) h) m,
  c.store_fixed-due.ensures.fixed e after g m,
)
