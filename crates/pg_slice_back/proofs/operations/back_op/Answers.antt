use Rattle.std.proofs.Common.{sym, ◌∙◌}
use Rattle.std.proofs.lemmas.Result.{on_ok_weaker}
use Rattle.pg_slice_back.proofs.Dispatch.{result_back}
use Rattle.pg_slice_back.proofs.operations.back_op.Goals as goal

pub returns-then-sets_result : goal.returns-then-sets_result
returns-then-sets_result c = on_ok_weaker c.back_result.result (λ h R e step m st call kind met.
    result_back R e c.args.s.now.program.now c.args.s.now.reference.now c.args.s.now.instr.now step c.args.s.now.counts c.args.s.now.number m st c.args.at call kind c.args.demanded.now c.back_result.new.demanded
    (sym c.sets_result.ensures ∙ c.if-sets_result.true) c.held.result c.held.ensures h met) c.back_result.ensures
