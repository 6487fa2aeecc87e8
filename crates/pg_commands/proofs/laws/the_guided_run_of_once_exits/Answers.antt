use Rattle.pg_session_book.specs.pg_run_trace.Races.{schedule_of}
use Rattle.pg_session_book.specs.pg_run.Rotation.{rotation_of}
use Rattle.pg_commands.proofs.GuidedTexts.{all_turns, guided_end}
use Rattle.pg_commands.proofs.laws.the_guided_run_of_once_exits.Goals as goal

pub returns-clause-end : goal.returns-clause-end
returns-clause-end c p input quantum value can e =
    let law = c.the_schedule_of_a_rotation_run_is_good.ensures in
    guided_end p input (rotation_of p input quantum) value (law.recorded p input quantum value e).1 (law.good p input quantum value can e)

pub returns-clause-printed : goal.returns-clause-printed
returns-clause-printed c p input quantum value can e = (c.the_schedule_of_a_rotation_run_is_good.ensures.good p input quantum value can e).printed

pub returns-clause-turns : goal.returns-clause-turns
returns-clause-turns c p input quantum value can e =
    let s = schedule_of (rotation_of p input quantum).trace in
    all_turns p input s.turns s.gated value (c.a_guided_run_that_exits_is_full.ensures p input s.turns s.gated value (returns-clause-end c p input quantum value can e)).1
    (c.a_guided_run_is_a_run.ensures.events p input s.turns s.gated)
