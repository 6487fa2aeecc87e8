use Rattle.std.proofs.Common.{arith}
use Rattle.pg_session_runner.proofs.along.ran_along.Goals as goal

pub run-requires-clause-can : goal.run-requires-clause-can
run-requires-clause-can g c = λ _ _. c.requires.can_run c.args.input.now (omega (arith, c.requires.few))

pub run-requires-clause-good : goal.run-requires-clause-good
run-requires-clause-good g c = λ _ _.
    c.each_entry_serves_what_it_admits.ensures.good c.args.p.now c.requires.entry.0 c.args.input.now c.args.entry.now
    (c.requires.can_run c.args.entry.now.input c.own_input_is_small.ensures) c.requires.entry.1 (omega (arith, c.requires.few)) c.requires.admitted

pub run-requires-clause-served : goal.run-requires-clause-served
run-requires-clause-served g c = λ _ _.
    c.each_entry_serves_what_it_admits.ensures.served c.args.p.now c.requires.entry.0 c.args.input.now c.args.entry.now
    (c.requires.can_run c.args.entry.now.input c.own_input_is_small.ensures) c.requires.entry.1 (omega (arith, c.requires.few)) c.requires.admitted
