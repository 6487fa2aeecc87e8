use Rattle.std.proofs.Common.{◌++◌, length, codes, to_z-of_z, FitsSigned, w32, rules}
use Rattle.pg_session_texts.specs.declared.reply.ReplyKind.TheVariants.{Recorded}
use Rattle.pg_session_texts.specs.Replies.{reply_line}
use Rattle.pg_session_texts.specs.Shows.{turn_lines, race_lines, decision_lines, exit_line}
use Rattle.pg_session_texts.proofs.Joined.{joined}
use Rattle.pg_session_texts.proofs.show.show_text.Goals as goal

pub returns : goal.returns
returns c =
    let fits : FitsSigned w32 c.args.value = search rules in
    rw (c.in_ok-add_run.ensures, to_z-of_z fits, c.as_slice.ensures.items, c.in_ok-add_decisions-2.ensures, c.in_ok-add_decisions.ensures, c.in_ok-text.ensures)
    (joined (reply_line (Recorded 0)) (turn_lines 0 c.args.schedule.now.turns) (race_lines c.args.races.now)
    (decision_lines (codes "pinned") c.args.ids.now c.args.pinned.now) (decision_lines (codes "exact") c.args.ids.now c.args.exact.now)
    (c.args.output.now ++ exit_line c.args.value (length c.args.schedule.now.turns)))
