use Rattle.std.proofs.Common.{◌∙◌, arith, inr}
use Rattle.pg_session.proofs.WrittenSessions.{all_of, all_of_full, answered_of, front_of, limit_of, taken_of}
use Rattle.pg_session.proofs.SessionEnds.{no_fault, no_faults, rose_from, same_count, same_fault, same_faults, takes_then, takes_within}
use Rattle.pg_session.proofs.TakenBytes.{not-fault}
use Rattle.pg_session.proofs.serving.take_all.Goals as goal

-- a piece could not be taken

pub returns-in_err-ended-clause-input_limit : goal.returns-in_err-ended-clause-input_limit
returns-in_err-ended-clause-input_limit g c = λ x. absurd (c.in_err-ended.ensures.within (same_fault _ _ _ c.from_residual.ensures.1 x))

pub returns-in_err-ended-clause-read_fault : goal.returns-in_err-ended-clause-read_fault
returns-in_err-ended-clause-read_fault g c = λ x. answered_of _ _ _ _ _ _ _ (c.in_err-ended.ensures.read_fault (same_fault _ _ _ c.from_residual.ensures.1 x))

pub returns-in_err-ended-clause-cut : goal.returns-in_err-ended-clause-cut
returns-in_err-ended-clause-cut g c = λ x. front_of _ _ _ _ _ _ _ (c.in_err-ended.ensures.cut (same_faults _ _ _ _ c.from_residual.ensures.1 x))

pub returns-in_err-ended-clause-takes : goal.returns-in_err-ended-clause-takes
returns-in_err-ended-clause-takes g c = takes_within _ _ _ _ (omega arith) c.take_pieces.ensures.takes

-- the source ended

pub returns-then-ended-clause-all : goal.returns-then-ended-clause-all
returns-then-ended-clause-all g c = all_of _ _ _ _ _ _ _ _ _ _ c.if-ended.true c.in_ok-ended.ensures.taken

pub returns-then-ended-clause-cut : goal.returns-then-ended-clause-cut
returns-then-ended-clause-cut g c = no_fault _ _ _

pub returns-then-ended-clause-takes : goal.returns-then-ended-clause-takes
returns-then-ended-clause-takes g c = takes_within _ _ _ _ (omega arith) c.take_pieces.ensures.takes

pub returns-then-ended-clause-read_count : goal.returns-then-ended-clause-read_count
returns-then-ended-clause-read_count g c = inr (not-fault _ _ c.in_ok-ended.ensures.read_count)

pub returns-then-ended-clause-write_count : goal.returns-then-ended-clause-write_count
returns-then-ended-clause-write_count g c = inr (not-fault _ _ c.in_ok-ended.ensures.write_count)

-- it has another byte, or that could not be read

pub returns-in_err-must_end-clause-input_limit : goal.returns-in_err-must_end-clause-input_limit
returns-in_err-must_end-clause-input_limit g c = λ x.
    limit_of _ _ _ _ _ _ _ _ _ _ c.if-ended.false (c.in_err-must_end.ensures.more (same_fault _ _ _ c.from_residual-in_err-must_end.ensures.1 x)) c.in_ok-ended.ensures.taken

pub returns-in_err-must_end-clause-read_fault : goal.returns-in_err-must_end-clause-read_fault
returns-in_err-must_end-clause-read_fault g c = λ x.
    taken_of _ _ _ _ _ _ _ _ _ _ _ (c.in_err-must_end.ensures.fault_takes_none (same_fault _ _ _ c.from_residual-in_err-must_end.ensures.1 x)) c.in_ok-ended.ensures.taken

pub returns-in_err-must_end-clause-cut : goal.returns-in_err-must_end-clause-cut
returns-in_err-must_end-clause-cut g c = no_faults _ _ _ _ c.from_residual-in_err-must_end.ensures.1 c.in_err-must_end.ensures.no_write c.in_err-must_end.ensures.no_memory

pub returns-in_err-must_end-clause-takes : goal.returns-in_err-must_end-clause-takes
returns-in_err-must_end-clause-takes g c = takes_then _ _ _ _ _ _ (omega arith) c.take_pieces.ensures.takes c.must_end.ensures.takes

pub returns-in_err-must_end-clause-read_within : goal.returns-in_err-must_end-clause-read_within
returns-in_err-must_end-clause-read_within g c = λ x.
    takes_then _ _ _ _ _ _ (omega arith) c.take_pieces.ensures.takes (c.in_err-must_end.ensures.fault_takes_none (same_fault _ _ _ c.from_residual-in_err-must_end.ensures.1 x))

pub returns-in_err-must_end-clause-read_cause : goal.returns-in_err-must_end-clause-read_cause
returns-in_err-must_end-clause-read_cause g c = λ x.
    rose_from _ _ _ (not-fault _ _ c.in_ok-ended.ensures.read_count) (c.in_err-must_end.ensures.cause (same_fault _ _ _ c.from_residual-in_err-must_end.ensures.1 x))

pub returns-in_err-must_end-clause-read_count : goal.returns-in_err-must_end-clause-read_count
returns-in_err-must_end-clause-read_count g c =
    same_count _ _ _ _ _ _ c.from_residual-in_err-must_end.ensures.1 (not-fault _ _ c.in_ok-ended.ensures.read_count) c.in_err-must_end.ensures.count

pub returns-in_err-must_end-clause-write_cause : goal.returns-in_err-must_end-clause-write_cause
returns-in_err-must_end-clause-write_cause g c = λ x. absurd (c.in_err-must_end.ensures.no_write (same_fault _ _ _ c.from_residual-in_err-must_end.ensures.1 x))

pub returns-in_err-must_end-clause-write_count : goal.returns-in_err-must_end-clause-write_count
returns-in_err-must_end-clause-write_count g c = inr (not-fault _ _ c.in_ok-ended.ensures.write_count)

-- it has as many bytes as a session takes

pub returns-clause-all : goal.returns-clause-all
returns-clause-all g c = all_of_full _ _ _ _ _ _ _ _ _ _ c.in_ok-must_end.ensures.ended c.in_ok-ended.ensures.taken

pub returns-clause-cut : goal.returns-clause-cut
returns-clause-cut g c = no_fault _ _ _

pub returns-clause-takes : goal.returns-clause-takes
returns-clause-takes g c = takes_then _ _ _ _ _ _ (omega arith) c.take_pieces.ensures.takes c.must_end.ensures.takes

pub returns-clause-read_count : goal.returns-clause-read_count
returns-clause-read_count g c = inr (not-fault _ _ c.in_ok-must_end.ensures.count ∙ not-fault _ _ c.in_ok-ended.ensures.read_count)

pub returns-clause-write_count : goal.returns-clause-write_count
returns-clause-write_count g c = inr (not-fault _ _ c.in_ok-ended.ensures.write_count)
