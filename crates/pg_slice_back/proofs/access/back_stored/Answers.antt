use Rattle.pg_slice_back.specs.Bytes.{is_in}
use Rattle.pg_slice_back.specs.Leaves.{none}
use Rattle.pg_slice_back.proofs.NeedsBackOverSteps.{cleared, in_is, none_stored, without_met}
use Rattle.pg_slice_back.proofs.access.back_stored.Goals as goal

pub returns-in_ok-put_value-in-Some : goal.returns-in_ok-put_value-in-Some
returns-in_ok-put_value-in-Some c = λ after before l f m.
    let t = c.args.at.thread.0 in
    let k = c.args.at.depth in
    let own = c.args.own in
    let b = c.in-Some.field-0 in
    let found = c.in-Some.ensures.some in
    let gone = cleared t k own c.args.demanded.now c.leave-was.new.demanded c.clear_bytes.new.self c.leave-was.ensures.without c.clear_bytes.ensures.registers c.clear_bytes.ensures.bytes in
    c.in_ok-put_value-in-Some.ensures before (without_met t k none (is_in own) after before c.args.demanded.now c.clear_bytes.new.self l gone m)
    (f b (in_is own b found.0 found.1) (m.bytes b (c.leave-was.ensures.without.bytes b found.2).0))

pub returns-in-None : goal.returns-in-None
returns-in-None c = λ after before l f m.
    let t = c.args.at.thread.0 in
    let k = c.args.at.depth in
    let own = c.args.own in
    without_met t k none (is_in own) after before c.args.demanded.now c.leave-was.new.demanded l (none_stored t k own c.args.demanded.now c.leave-was.new.demanded c.leave-was.ensures.without c.in-None.ensures.none) m
