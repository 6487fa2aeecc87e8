use Rattle.std.proofs.Common.{rules, Ok, refl, ◌<◌, ◌^◌, ap, length, arith}
use Rattle.pg_run.specs.State.{next_of}
use Rattle.pg_run.proofs.StepsBegin.{may_do, ready_made}
use Rattle.pg_run.proofs.Steps.{trapped_is}
use Rattle.pg_run.proofs.StatesAfterAnswers.{local_is, seen, may_go_on, stands, taken_is, taken_more}
use Rattle.pg_run.proofs.state.MachineState.take.Goals as goal

pub answer-requires : goal.answer-requires
answer-requires c = rw c.requires.take.0 (may_do c.args.run.now.program.now c.args.self.now c.args.t.0 c.facts.ensures.holds c.requires.of
    (ready_made c.args.run.now.program.now c.args.self.now c.args.t.0 c.requires.take.1) c.requires.take.1)

pub advance-number-requires : goal.advance-number-requires
advance-number-requires c = may_go_on c.args.run.now.program.now c.args.run.now.input.now c.args.self.now c.answer.new.self c.args.t.0 c.in-Ok.answer c.requires.of c.requires.take.1
    (seen _ _ _ _ _ _ _ _ c.requires.take.0 c.in_ok-name.ensures.answer c.in-Ok.is)

pub returns-in-Err-clause-trap : goal.returns-in-Err-clause-trap
returns-in-Err-clause-trap c = trapped_is c.args.run.now.program.now c.args.run.now.input.now c.args.self.now c.answer.new.self c.args.t.0 c.in-Err.name
    (next_of c.args.run.now.program.now c.args.self.now c.args.t.0) (seen _ _ _ _ _ _ _ _ c.requires.take.0 c.in_ok-name.ensures.answer c.in-Err.is)

pub returns-in-Err-clause-of : goal.returns-in-Err-clause-of
returns-in-Err-clause-of c = rw (returns-in-Err-clause-trap c) c.requires.of

pub returns-in-Err-clause-more : goal.returns-in-Err-clause-more
returns-in-Err-clause-more c = omega (arith, ap (λ s. length s.locals) (returns-in-Err-clause-trap c))

pub returns-in-Ok-clause-state : goal.returns-in-Ok-clause-state
returns-in-Ok-clause-state c =
    rw c.advance-number.ensures.state (taken_is c.args.run.now.program.now c.args.run.now.input.now c.args.self.now c.answer.new.self c.args.t.0 c.in-Ok.answer c.requires.take.1
    (seen _ _ _ _ _ _ _ _ c.requires.take.0 c.in_ok-name.ensures.answer c.in-Ok.is))

pub returns-in-Ok-clause-of : goal.returns-in-Ok-clause-of
returns-in-Ok-clause-of c =
    let small : c.in-Ok.answer < 2 ^ 64 = search rules in
    rw c.advance-number.ensures.state (stands c.args.run.now.program.now c.args.run.now.input.now c.args.self.now c.answer.new.self c.args.t.0 c.in-Ok.answer c.facts.ensures.holds c.requires.of
    c.requires.take.1 small (seen _ _ _ _ _ _ _ _ c.requires.take.0 c.in_ok-name.ensures.answer c.in-Ok.is))

pub returns-in-Ok-clause-more : goal.returns-in-Ok-clause-more
returns-in-Ok-clause-more c =
    rw c.advance-number.ensures.state (taken_more c.args.run.now.program.now c.args.run.now.input.now c.args.self.now c.answer.new.self c.args.t.0 c.in-Ok.answer
    (seen _ _ _ _ _ _ _ _ c.requires.take.0 c.in_ok-name.ensures.answer c.in-Ok.is))

pub returns-in-Ok-clause-number : goal.returns-in-Ok-clause-number
returns-in-Ok-clause-number c = rw (
  c.advance-number.ensures.number,
  local_is c.args.run.now.program.now c.args.run.now.input.now c.args.self.now c.answer.new.self c.args.t.0 (Ok c.in-Ok.answer) c.requires.take.1
      (seen _ _ _ _ _ _ _ _ c.requires.take.0 c.in_ok-name.ensures.answer c.in-Ok.is),
) refl
