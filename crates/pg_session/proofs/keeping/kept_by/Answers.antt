use Rattle.std.proofs.Common.{◌∙◌, ap, arith, sym}
use Rattle.pg_session.proofs.WrittenSessions.{few_all, keeps, keeps_last, no_line, some_line, stands_after_all}
use Rattle.pg_session.proofs.SessionEnds.{no_limit, no_read, same_fault}
use Rattle.pg_session.proofs.keeping.kept_by.Goals as goal

pub returns-in_err-take_all-clause-input_limit : goal.returns-in_err-take_all-clause-input_limit
returns-in_err-take_all-clause-input_limit g c = λ x.
    let more = c.in_err-take_all.ensures.input_limit (same_fault _ _ _ c.from_residual.ensures.1 x) in
    (more.0, more.1, more.2.beyond)

pub returns-in_err-end_line-clause-input_limit : goal.returns-in_err-end_line-clause-input_limit
returns-in_err-end_line-clause-input_limit g c = no_limit _ _ c.from_residual-in_err-end_line.ensures.1

pub returns-in_err-end_line-clause-read_fault_within : goal.returns-in_err-end_line-clause-read_fault_within
returns-in_err-end_line-clause-read_fault_within g c = no_read _ _ c.from_residual-in_err-end_line.ensures.1

pub end_line-requires-clause-stands : goal.end_line-requires-clause-stands
end_line-requires-clause-stands g c = λ _ _. stands_after_all _ _ _ _ _ _ _ _ _ (ap g.R.Runner.runs c.in_ok-take_all.ensures.stays) c.requires.stands c.in_ok-take_all.ensures.all

pub end_line-requires-clause-count : goal.end_line-requires-clause-count
end_line-requires-clause-count g c = λ _ _.
    let few = few_all _ _ _ _ _ _ _ _ c.in_ok-take_all.ensures.all in
    omega (arith, few, c.requires.few)

pub returns-then-is_empty-clause-done : goal.returns-then-is_empty-clause-done
returns-then-is_empty-clause-done g c = keeps _ _ _ _ _ _ _ _ (no_line _ _ c.take_all.new.session.line.ok.0 (sym c.is_empty.ensures ∙ c.if-is_empty.true)) c.in_ok-take_all.ensures.all

pub returns-clause-done : goal.returns-clause-done
returns-clause-done g c =
    keeps_last _ _ _ _ _ _ _ _ _ _ _ (ap g.R.Runner.runs c.in_ok-take_all.ensures.stays)
    (some_line _ _ c.take_all.new.session.line.ok.0 (sym c.is_empty.ensures ∙ c.if-is_empty.false)) c.in_ok-take_all.ensures.all c.in_ok-end_line.ensures.answered
