use Rattle.std.proofs.Common.{◌∙◌, sym}
use Rattle.std.specs.Prelude.{nat_le}
use Rattle.std.proofs.lemmas.Bool.{lt-leb}
use Rattle.pg_law_course.specs.pg_num.declared.limits.TheConstants.{GUIDED_STEP_LIMIT}
use Rattle.pg_law_course.specs.pg_run.Bound.{next_step}
use Rattle.pg_law_course.specs.pg_run.Permitted.{has_turn}
use Rattle.pg_locked.proofs.NextTurns.{may_event, may_other, tells_event, tells_other}
use Rattle.pg_locked.proofs.due.due.Goals as goal

pub returns-in-None : goal.returns-in-None
returns-in-None c =
    let p = c.args.p.now in
    let m = c.args.machine.now in
    let us = c.args.left.now in
    let t = c.args.t.0 in
    record {
      refused = tt;
      may = may_event (next_step p m t) (has_turn t us) (nat_le GUIDED_STEP_LIMIT c.args.taken) us c.in-Event.ensures.next (sym c.has_turn.ensures ∙ c.if-not-has_turn.false)
          (lt-leb GUIDED_STEP_LIMIT c.args.taken c.if-taken-ge-GUIDED_STEP_LIMIT.false) (sym c.in-None.ensures);
      event = tells_event p m t c.in-Event.ensures.next;
    }

pub returns-in-Other : goal.returns-in-Other
returns-in-Other c =
    let p = c.args.p.now in
    let m = c.args.machine.now in
    let us = c.args.left.now in
    let t = c.args.t.0 in
    record {
      refused = tt;
      may = may_other (next_step p m t) (has_turn t us) (nat_le GUIDED_STEP_LIMIT c.args.taken) us c.in-Other.ensures.next (sym c.has_turn.ensures ∙ c.if-not-has_turn.false)
          (lt-leb GUIDED_STEP_LIMIT c.args.taken c.if-taken-ge-GUIDED_STEP_LIMIT.false);
      event = tells_other p m t c.in-Other.ensures.next;
    }
