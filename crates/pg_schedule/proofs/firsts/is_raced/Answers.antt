use Rattle.std.proofs.Common.{arith, sym, ◌∙◌}
use Rattle.pg_run_trace.specs.Races as races
use Rattle.pg_schedule.proofs.RaceTable.{first_holds, marks_before, marks_behind, none_holds, raced_is, second_decides}
use Rattle.pg_schedule.proofs.firsts.is_raced.Goals as goal

pub mark_at-earlier-requires : goal.mark_at-earlier-requires
mark_at-earlier-requires c = let l = marks_before races.asked c.args.t.now.steps c.args.before.now c.requires.before in omega (arith, l, c.requires.within)

pub mark_at-later-requires : goal.mark_at-later-requires
mark_at-later-requires c = let l = marks_behind races.asked c.args.t.now.steps c.args.behind.now c.requires.behind in omega (arith, l, c.requires.within)

pub returns-then-earlier : goal.returns-then-earlier
returns-then-earlier c =
    let b = c.mark_at-earlier.result in
    let d = c.mark_at-later.result in
    first_holds (races.is_access c.step-step.result.kind) b d (sym c.is_access.ensures ∙ c.if-is_access.true) c.if-earlier.true
    ∙ sym (raced_is c.args.t.now.steps c.args.i c.step-step.result c.step-step.ensures c.args.before.now c.args.behind.now b d c.requires.before c.requires.behind c.mark_at-earlier.ensures
    c.mark_at-later.ensures)

pub returns-else-earlier : goal.returns-else-earlier
returns-else-earlier c =
    let b = c.mark_at-earlier.result in
    let d = c.mark_at-later.result in
    second_decides (races.is_access c.step-step.result.kind) b d (sym c.is_access.ensures ∙ c.if-is_access.true) c.if-earlier.false
    ∙ sym (raced_is c.args.t.now.steps c.args.i c.step-step.result c.step-step.ensures c.args.before.now c.args.behind.now b d c.requires.before c.requires.behind c.mark_at-earlier.ensures
    c.mark_at-later.ensures)

pub returns-else-is_access : goal.returns-else-is_access
returns-else-is_access c =
    let b = c.mark_at-earlier.result in
    let d = c.mark_at-later.result in
    c.is_access.ensures ∙ none_holds (races.is_access c.step-step.result.kind) b d (sym c.is_access.ensures ∙ c.if-is_access.false)
    ∙ sym (raced_is c.args.t.now.steps c.args.i c.step-step.result c.step-step.ensures c.args.before.now c.args.behind.now b d c.requires.before c.requires.behind c.mark_at-earlier.ensures
    c.mark_at-later.ensures)
