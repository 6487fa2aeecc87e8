use Rattle.std.proofs.Common.{◌∙◌, ap, arith, refl, sym, inl, inr}
use Rattle.pg_session.proofs.WrittenSessions.{few_all, no_line, served, served_cut, served_last, some_line, stands_after_all}
use Rattle.pg_session.proofs.SessionEnds.{no_limit, no_read, of_write, rose_from, same_count, same_fault, write_count}
use Rattle.pg_session.proofs.TakenBytes.{not-fault}
use Rattle.pg_session.proofs.serving.serve.Goals as goal

-- the source could not be taken

pub returns-in_err-take_all-clause-input_limit : goal.returns-in_err-take_all-clause-input_limit
returns-in_err-take_all-clause-input_limit g c = λ x. c.in_err-take_all.ensures.input_limit (same_fault _ _ _ c.from_residual.ensures.1 x)

pub returns-in_err-take_all-clause-read_fault : goal.returns-in_err-take_all-clause-read_fault
returns-in_err-take_all-clause-read_fault g c = λ x. c.in_err-take_all.ensures.read_fault (same_fault _ _ _ c.from_residual.ensures.1 x)

pub returns-in_err-take_all-clause-write_fault_cuts : goal.returns-in_err-take_all-clause-write_fault_cuts
returns-in_err-take_all-clause-write_fault_cuts g c = λ x. c.in_err-take_all.ensures.cut (inl (same_fault _ _ _ c.from_residual.ensures.1 x))

pub returns-in_err-take_all-clause-out_of_memory_cuts : goal.returns-in_err-take_all-clause-out_of_memory_cuts
returns-in_err-take_all-clause-out_of_memory_cuts g c = λ x. c.in_err-take_all.ensures.cut (inr (same_fault _ _ _ c.from_residual.ensures.1 x))

pub returns-in_err-take_all-clause-read_count : goal.returns-in_err-take_all-clause-read_count
returns-in_err-take_all-clause-read_count g c = same_count _ _ _ _ _ _ c.from_residual.ensures.1 refl c.in_err-take_all.ensures.read_count

pub returns-in_err-take_all-clause-write_count : goal.returns-in_err-take_all-clause-write_count
returns-in_err-take_all-clause-write_count g c = same_count _ _ _ _ _ _ c.from_residual.ensures.1 refl c.in_err-take_all.ensures.write_count

-- no line has begun

pub returns-then-is_empty-clause-done : goal.returns-then-is_empty-clause-done
returns-then-is_empty-clause-done g c = served _ _ _ _ _ _ _ _ (no_line _ _ c.take_all.new.session.line.ok.0 (sym c.is_empty.ensures ∙ c.if-is_empty.true)) c.in_ok-take_all.ensures.all

pub returns-then-is_empty-clause-read_count : goal.returns-then-is_empty-clause-read_count
returns-then-is_empty-clause-read_count g c = inr (not-fault _ _ c.in_ok-take_all.ensures.read_count)

pub returns-then-is_empty-clause-write_count : goal.returns-then-is_empty-clause-write_count
returns-then-is_empty-clause-write_count g c = inr (not-fault _ _ c.in_ok-take_all.ensures.write_count)

-- the end of the source ends a line

pub end_line-requires-clause-stands : goal.end_line-requires-clause-stands
end_line-requires-clause-stands g c = λ _ _. stands_after_all _ _ _ _ _ _ _ _ _ (ap g.R.Runner.runs c.in_ok-take_all.ensures.stays) c.requires.stands c.in_ok-take_all.ensures.all

pub end_line-requires-clause-count : goal.end_line-requires-clause-count
end_line-requires-clause-count g c = λ _ _.
    let few = few_all _ _ _ _ _ _ _ _ c.in_ok-take_all.ensures.all in
    omega (arith, few, c.requires.few)

pub returns-in_err-end_line-clause-input_limit : goal.returns-in_err-end_line-clause-input_limit
returns-in_err-end_line-clause-input_limit g c = no_limit _ _ c.from_residual-in_err-end_line.ensures.1

pub returns-in_err-end_line-clause-read_fault : goal.returns-in_err-end_line-clause-read_fault
returns-in_err-end_line-clause-read_fault g c = no_read _ _ c.from_residual-in_err-end_line.ensures.1

pub returns-in_err-end_line-clause-write_fault_cuts : goal.returns-in_err-end_line-clause-write_fault_cuts
returns-in_err-end_line-clause-write_fault_cuts g c = λ _.
    served_cut _ _ _ _ _ _ _ _ _ _ (ap g.R.Runner.runs c.in_ok-take_all.ensures.stays)
    (some_line _ _ c.take_all.new.session.line.ok.0 (sym c.is_empty.ensures ∙ c.if-is_empty.false)) c.in_ok-take_all.ensures.all c.in_err-end_line.ensures.cut

pub returns-in_err-end_line-clause-out_of_memory_cuts : goal.returns-in_err-end_line-clause-out_of_memory_cuts
returns-in_err-end_line-clause-out_of_memory_cuts g c = λ _.
    served_cut _ _ _ _ _ _ _ _ _ _ (ap g.R.Runner.runs c.in_ok-take_all.ensures.stays)
    (some_line _ _ c.take_all.new.session.line.ok.0 (sym c.is_empty.ensures ∙ c.if-is_empty.false)) c.in_ok-take_all.ensures.all c.in_err-end_line.ensures.cut

pub returns-in_err-end_line-clause-read_cause : goal.returns-in_err-end_line-clause-read_cause
returns-in_err-end_line-clause-read_cause g c = no_read _ _ c.from_residual-in_err-end_line.ensures.1

pub returns-in_err-end_line-clause-read_fault_within : goal.returns-in_err-end_line-clause-read_fault_within
returns-in_err-end_line-clause-read_fault_within g c = no_read _ _ c.from_residual-in_err-end_line.ensures.1

pub returns-in_err-end_line-clause-read_count : goal.returns-in_err-end_line-clause-read_count
returns-in_err-end_line-clause-read_count g c = inr (not-fault _ _ c.in_ok-take_all.ensures.read_count)

pub returns-in_err-end_line-clause-write_cause : goal.returns-in_err-end_line-clause-write_cause
returns-in_err-end_line-clause-write_cause g c = λ x.
    rose_from _ _ _ (not-fault _ _ c.in_ok-take_all.ensures.write_count) (c.in_err-end_line.ensures.cause (of_write _ _ c.from_residual-in_err-end_line.ensures.1 x))

pub returns-in_err-end_line-clause-write_count : goal.returns-in_err-end_line-clause-write_count
returns-in_err-end_line-clause-write_count g c =
    write_count _ _ _ _ _ c.from_residual-in_err-end_line.ensures.1 (not-fault _ _ c.in_ok-take_all.ensures.write_count) c.in_err-end_line.ensures.count_stays

pub returns-clause-done : goal.returns-clause-done
returns-clause-done g c =
    served_last _ _ _ _ _ _ _ _ _ _ _ (ap g.R.Runner.runs c.in_ok-take_all.ensures.stays)
    (some_line _ _ c.take_all.new.session.line.ok.0 (sym c.is_empty.ensures ∙ c.if-is_empty.false)) c.in_ok-take_all.ensures.all c.in_ok-end_line.ensures.answered

pub returns-clause-read_count : goal.returns-clause-read_count
returns-clause-read_count g c = inr (not-fault _ _ c.in_ok-take_all.ensures.read_count)

pub returns-clause-write_count : goal.returns-clause-write_count
returns-clause-write_count g c = inr (not-fault _ _ c.in_ok-end_line.ensures.count_stays ∙ not-fault _ _ c.in_ok-take_all.ensures.write_count)

pub returns-clause-stays : goal.returns-clause-stays
returns-clause-stays g c = c.in_ok-end_line.ensures.stays ∙ c.in_ok-take_all.ensures.stays
