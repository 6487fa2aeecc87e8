use Rattle.std.proofs.Common.{◌∷◌, [], ◌++◌, sym, ap, ◌∙◌, append-nil}
use Rattle.std.specs.Option.{option_to_list}
use Rattle.pg_run_trace.specs.Races as defs
use Rattle.pg_schedule.proofs.LoopsSoFar.{below_none, below_more}
use Rattle.pg_schedule.proofs.fast.races_from.Goals as goal
use Rattle.pg_schedule.proofs.fast.races_from.Goals.{in-Some+in_ok-push, in_default}

pub loop-id-init : goal.loop-id-init
loop-id-init c = c.new-races.ensures.items ∙ sym (below_none (defs.timed_by defs.asked c.args.t.now.steps))

pub loop-id-preserved : goal.loop-id-preserved
loop-id-preserved c =
    let ys = defs.timed_by defs.asked c.args.t.now.steps in
    elim c.match-race_linked.branch [
      | in-Some+in_ok-push w ↦ ap (λ v. v.items) w.races-is ∙ w.in_ok-push.ensures.items ∙ ap (λ l. l ++ w.in-Some.race ∷ []) c.loop-id.invariant
          ∙ sym (below_more ys c.loop-id.id ∙ ap (λ o. defs.races_below ys c.loop-id.id ++ option_to_list o) (sym c.race_linked.ensures ∙ w.in-Some.is))
      | in_default w ↦ ap (λ v. v.items) w.races-is ∙ c.loop-id.invariant ∙ sym (append-nil (defs.races_below ys c.loop-id.id))
          ∙ sym (below_more ys c.loop-id.id ∙ ap (λ o. defs.races_below ys c.loop-id.id ++ option_to_list o) (sym c.race_linked.ensures ∙ w.in_default.is))
    ]
