use Rattle.pg_law_demands.specs.Back.{is_target}
use Rattle.pg_slice_back.specs.Leaves.{none}
use Rattle.pg_slice_back.proofs.NeedsBackOverSteps.{without_met}
use Rattle.pg_slice_back.proofs.access.back_loaded.Goals as goal

pub returns-in_ok-put_bytes-in-Some-clause-met : goal.returns-in_ok-put_bytes-in-Some-clause-met
returns-in_ok-put_bytes-in-Some-clause-met c = λ after before l f m.
    let t = c.args.at.thread.0 in
    let k = c.args.at.depth in
    let was = c.in-Some.ensures.was in
    c.in_ok-put_bytes-in-Some.ensures before (without_met t k (is_target c.args.target) none after before c.args.demanded.now c.leave.new.demanded l c.in-Some.ensures.without m)
    (f was.0 c.in-Some.field-0 was.1 (m.registers t k was.0 c.in-Some.field-0 was.2))
