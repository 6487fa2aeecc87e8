use Rattle.std.proofs.Common.{List, length, take, ap, arith, ◌∙◌}
use Rattle.pg_room.specs.pg_run_trace.declared.turn.Turn.{Turn}
use Rattle.pg_room.specs.pg_law_course.Prints.{output_along}
use Rattle.pg_room.specs.pg_worker.Standing.{end_by, run_in, table_in}
use Rattle.pg_room.proofs.of_pg_crew.WorkerLists.{default_is, some_worker}
use Rattle.pg_rounds.specs.Prints.{numbers_of}
use Rattle.pg_rounds.proofs.Results.{few_turns, held_end, held_few, held_output, next_last, take_count, turns_are}
use Rattle.pg_rounds.proofs.run.held.Goals as goal

pub slice_bounds-turns-end : goal.slice_bounds-turns-end
slice_bounds-turns-end c =
    let items = ap length c.as_slice.ensures.items in
    let few = held_few (run_in c.args.shared.now) (table_in c.args.shared.now) c.args.workers.now (some_worker (run_in c.args.shared.now) (table_in c.args.shared.now) c.args.workers.now c.requires.workers) c.requires.workers c.requires.paused c.requires.over c.args.owner c.args.number c.requires.next in
    take_count c.args.number c.as_slice.result.now (omega (arith, items, few))

pub overflow_cast-result : goal.overflow_cast-result
overflow_cast-result c =
    let last = next_last (run_in c.args.shared.now) (table_in c.args.shared.now) c.args.workers.now (some_worker (run_in c.args.shared.now) (table_in c.args.shared.now) c.args.workers.now c.requires.workers) c.requires.workers c.requires.paused c.requires.over c.args.owner c.args.number c.requires.next in
    let few = few_turns (run_in c.args.shared.now) (table_in c.args.shared.now) c.args.workers.now (some_worker (run_in c.args.shared.now) (table_in c.args.shared.now) c.args.workers.now c.requires.workers) c.requires.workers c.requires.paused c.requires.over in
    omega (arith, last, few)

pub returns-clause-output : goal.returns-clause-output
returns-clause-output c =
    c.merge-output.ensures
    ∙ ap (λ (us : List Turn). output_along c.args.shared.now.program.now (take c.args.number us) (numbers_of c.args.workers.now)) c.as_slice.ensures.items
    ∙ held_output (run_in c.args.shared.now) (table_in c.args.shared.now) c.args.workers.now (some_worker (run_in c.args.shared.now) (table_in c.args.shared.now) c.args.workers.now c.requires.workers) c.requires.workers c.requires.paused c.requires.over c.args.owner c.args.number c.requires.next

pub returns-clause-end : goal.returns-clause-end
returns-clause-end c =
    c.end.ensures
    ∙ ap (end_by c.args.shared.now.program.now) (c.index-workers-owner.is ∙ default_is c.args.workers.now c.args.owner c.index-workers-owner.result (some_worker (run_in c.args.shared.now) (table_in c.args.shared.now) c.args.workers.now c.requires.workers) c.requires.next.within)
    ∙ held_end (run_in c.args.shared.now) (table_in c.args.shared.now) c.args.workers.now (some_worker (run_in c.args.shared.now) (table_in c.args.shared.now) c.args.workers.now c.requires.workers) c.requires.workers c.requires.paused c.requires.over c.args.owner c.args.number c.requires.next

pub returns-clause-turns : goal.returns-clause-turns
returns-clause-turns c =
    next_last (run_in c.args.shared.now) (table_in c.args.shared.now) c.args.workers.now (some_worker (run_in c.args.shared.now) (table_in c.args.shared.now) c.args.workers.now c.requires.workers) c.requires.workers c.requires.paused c.requires.over c.args.owner c.args.number c.requires.next
    ∙ turns_are (run_in c.args.shared.now) (table_in c.args.shared.now) c.args.workers.now (some_worker (run_in c.args.shared.now) (table_in c.args.shared.now) c.args.workers.now c.requires.workers) c.requires.workers c.requires.paused c.requires.over
