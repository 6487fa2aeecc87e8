use Rattle.std.proofs.Common.{◌≡◌, ◌∙◌, ◌++◌, ap, arith, refl, rules, drop, take, inr}
use Rattle.std.proofs.lemmas.Grind.{common_steps}
use Rattle.pg_session.proofs.SessionEnds.{no_fault, no_limit, no_read, of_write, read_cuts_none, rose_from, write_count}
use Rattle.pg_session.proofs.TakenBytes.{far_begin, far_cut, far_ended, far_few, far_full, far_kept, far_line, far_more, far_read, far_stands, far_takes, none_taken, not-fault}
use Rattle.pg_session.proofs.serving.take_pieces.Goals as goal

pub loop-taken-init : goal.loop-taken-init
loop-taken-init g c = record {
  far = far_begin _ _ _ _ _ _ _ refl c.requires.line;
  within = search rules;
  read_count = search rules;
  write_count = search rules;
  subject = search rules;
}

-- the source has ended

pub returns-in-Ok-eq0-clause-taken : goal.returns-in-Ok-eq0-clause-taken
returns-in-Ok-eq0-clause-taken g c =
    let none : c.in-Ok-eq0.field-0 ≡ 0 = search rules in
    far_ended _ _ _ _ _ _ _ _ _ _ _ c.loop-taken.invariant.far c.loop-taken.invariant.within (c.in-Ok-eq0.ensures.at_end (search rules)) c.read.ensures.tells
    (none_taken _ _ c.in-Ok-eq0.field-0 _ none c.in-Ok-eq0.ensures.takes)

pub returns-in-Ok-eq0-clause-cut : goal.returns-in-Ok-eq0-clause-cut
returns-in-Ok-eq0-clause-cut g c = no_fault _ _ _

pub returns-in-Ok-eq0-clause-takes : goal.returns-in-Ok-eq0-clause-takes
returns-in-Ok-eq0-clause-takes g c =
    let none : c.in-Ok-eq0.field-0 ≡ 0 = search rules in
    let within = c.loop-taken.invariant.within in
    far_takes _ _ _ _ _ _ _ _ _ _ _ _ _ c.loop-taken.invariant.far c.in-Ok-eq0.ensures.takes c.in-Ok-eq0.ensures.bound (omega (arith, none, within))

-- a piece came

pub take_piece-requires-clause-stands : goal.take_piece-requires-clause-stands
take_piece-requires-clause-stands g c = λ _ _. far_stands _ _ _ _ _ _ _ _ _ _ _ (ap g.R.Runner.runs c.loop-taken.invariant.subject) c.requires.stands c.loop-taken.invariant.far

pub take_piece-requires-clause-count : goal.take_piece-requires-clause-count
take_piece-requires-clause-count g c = λ _ _.
    let few = far_few _ _ _ _ _ _ _ _ _ _ c.loop-taken.invariant.far in
    grind (arith, common_steps, few, c.requires.few, c.in-Ok.ensures.bound)

pub take_piece-requires-clause-line : goal.take_piece-requires-clause-line
take_piece-requires-clause-line g c = λ _ _. far_line _ _ _ _ _ _ _ _ _ _ c.loop-taken.invariant.far

pub returns-in_err-take_piece-in-Ok-clause-read_fault : goal.returns-in_err-take_piece-in-Ok-clause-read_fault
returns-in_err-take_piece-in-Ok-clause-read_fault g c = no_read _ _ c.from_residual.ensures.1

pub returns-in_err-take_piece-in-Ok-clause-cut : goal.returns-in_err-take_piece-in-Ok-clause-cut
returns-in_err-take_piece-in-Ok-clause-cut g c = λ _.
    far_cut _ _ _ _ _ _ _ _ _ _ _ _ _ c.in-Ok.n (take c.in-Ok.n (c.read.new.buf ++ drop c.min-room.result c.loop-taken.piece)) c.read.new.buf (ap g.R.Runner.runs c.loop-taken.invariant.subject)
    c.loop-taken.invariant.far c.in-Ok.ensures.takes c.in_err-take_piece-in-Ok.ensures.cut (grind (arith, common_steps, c.in-Ok.ensures.bound))

pub returns-in_err-take_piece-in-Ok-clause-within : goal.returns-in_err-take_piece-in-Ok-clause-within
returns-in_err-take_piece-in-Ok-clause-within g c = no_limit _ _ c.from_residual.ensures.1

pub returns-in_err-take_piece-in-Ok-clause-takes : goal.returns-in_err-take_piece-in-Ok-clause-takes
returns-in_err-take_piece-in-Ok-clause-takes g c =
    far_takes _ _ _ _ _ _ _ _ _ _ _ _ _ c.loop-taken.invariant.far c.in-Ok.ensures.takes c.in-Ok.ensures.bound (grind (arith, common_steps, c.in-Ok.ensures.bound))

pub returns-in_err-take_piece-in-Ok-clause-read_cause : goal.returns-in_err-take_piece-in-Ok-clause-read_cause
returns-in_err-take_piece-in-Ok-clause-read_cause g c = no_read _ _ c.from_residual.ensures.1

pub returns-in_err-take_piece-in-Ok-clause-read_count : goal.returns-in_err-take_piece-in-Ok-clause-read_count
returns-in_err-take_piece-in-Ok-clause-read_count g c = inr (c.in-Ok.ensures.count_stays ∙ c.loop-taken.invariant.read_count)

pub returns-in_err-take_piece-in-Ok-clause-write_cause : goal.returns-in_err-take_piece-in-Ok-clause-write_cause
returns-in_err-take_piece-in-Ok-clause-write_cause g c = λ x.
    rose_from _ _ _ c.loop-taken.invariant.write_count (c.in_err-take_piece-in-Ok.ensures.cause (of_write _ _ c.from_residual.ensures.1 x))

pub returns-in_err-take_piece-in-Ok-clause-write_count : goal.returns-in_err-take_piece-in-Ok-clause-write_count
returns-in_err-take_piece-in-Ok-clause-write_count g c =
    write_count _ _ _ _ _ c.from_residual.ensures.1 c.loop-taken.invariant.write_count c.in_err-take_piece-in-Ok.ensures.count_stays

pub loop-taken-preserved : goal.loop-taken-preserved
loop-taken-preserved g c = record {
  far = far_more _ _ _ _ _ _ _ _ _ _ _ _ _ _ _ c.in-Ok.n (take c.in-Ok.n (c.read.new.buf ++ drop c.min-room.result c.loop-taken.piece)) c.read.new.buf (ap g.R.Runner.runs c.loop-taken.invariant.subject)
      c.in-Ok.ensures.bound c.loop-taken.invariant.far c.in-Ok.ensures.takes c.in_ok-take_piece-in-Ok.ensures.answered c.in_ok-take_piece-in-Ok.ensures.line
      (grind (arith, common_steps, c.in-Ok.ensures.bound));
  within = grind (arith, common_steps, c.in-Ok.ensures.bound);
  read_count = c.in-Ok.ensures.count_stays ∙ c.loop-taken.invariant.read_count;
  write_count = not-fault _ _ c.in_ok-take_piece-in-Ok.ensures.count_stays ∙ c.loop-taken.invariant.write_count;
  subject = c.in_ok-take_piece-in-Ok.ensures.stays ∙ c.loop-taken.invariant.subject;
}

-- a read failed

pub returns-in-Err-clause-read_fault : goal.returns-in-Err-clause-read_fault
returns-in-Err-clause-read_fault g c = λ _. far_read _ _ _ _ _ _ _ _ _ _ _ c.loop-taken.invariant.far c.loop-taken.invariant.within c.in-Err.ensures.keeps

pub returns-in-Err-clause-cut : goal.returns-in-Err-clause-cut
returns-in-Err-clause-cut g c = read_cuts_none

pub returns-in-Err-clause-takes : goal.returns-in-Err-clause-takes
returns-in-Err-clause-takes g c = far_kept _ _ _ _ _ _ _ _ _ _ _ c.loop-taken.invariant.far c.loop-taken.invariant.within c.in-Err.ensures.keeps

pub returns-in-Err-clause-read_cause : goal.returns-in-Err-clause-read_cause
returns-in-Err-clause-read_cause g c = λ _. rose_from _ _ _ c.loop-taken.invariant.read_count c.in-Err.ensures.cause

-- as many bytes came as a session takes

pub returns-clause-taken : goal.returns-clause-taken
returns-clause-taken g c = far_full _ _ _ _ _ _ _ _ _ _ c.loop-taken.invariant.far c.loop-taken.invariant.within c.loop-taken-test.false

pub returns-clause-cut : goal.returns-clause-cut
returns-clause-cut g c = no_fault _ _ _

pub returns-clause-takes : goal.returns-clause-takes
returns-clause-takes g c = (c.loop-taken.invariant.far.bytes, c.loop-taken.invariant.far.consumed, grind (arith, c.loop-taken.invariant.far.count))
