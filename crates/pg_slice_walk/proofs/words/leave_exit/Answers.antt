use Rattle.std.proofs.Common.{sym, ◌∙◌}
use Rattle.std.proofs.lemmas.Result.{on_ok_weaker}
use Rattle.pg_slice_walk.proofs.words.leave_exit.Goals as goal

pub returns-in-Some-clause-met : goal.returns-in-Some-clause-met
returns-in-Some-clause-met c = on_ok_weaker c.put_optional.result (λ h s asked met.
    h s met (c.exit_operand.ensures s c.args.at.depth c.in-Some.whole (asked c.in-Some.whole (sym c.leave_word.ensures.was ∙ c.in-Some.is)))) c.put_optional.ensures
