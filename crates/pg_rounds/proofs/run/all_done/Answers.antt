use Rattle.std.proofs.Common.{List, FitsSigned, length, ap, arith, rules, to_z-of_z, w32, ◌∙◌}
use Rattle.pg_room.specs.pg_run.declared.guided_end.GuidedEnd.TheVariants as ends
use Rattle.pg_room.specs.pg_run_trace.declared.turn.Turn.{Turn}
use Rattle.pg_room.specs.pg_law_course.Prints.{output_along}
use Rattle.pg_room.specs.pg_worker.Standing.{run_in, table_in}
use Rattle.pg_room.proofs.of_pg_crew.WorkerLists.{some_worker}
use Rattle.pg_rounds.specs.Prints.{numbers_of}
use Rattle.pg_rounds.proofs.Results.{done_end, done_output, done_turns, few_turns, turns_are}
use Rattle.pg_rounds.proofs.run.all_done.Goals as goal

pub exit_value-requires : goal.exit_value-requires
exit_value-requires c = c.requires.workers.main

pub overflow_cast-result : goal.overflow_cast-result
overflow_cast-result c =
    let items = ap length c.as_slice-turns.ensures.items in
    let turns = done_turns (run_in c.args.shared.now) (table_in c.args.shared.now) c.args.workers.now (some_worker (run_in c.args.shared.now) (table_in c.args.shared.now) c.args.workers.now c.requires.workers) c.requires.workers c.requires.paused c.requires.over c.requires.done in
    let few = few_turns (run_in c.args.shared.now) (table_in c.args.shared.now) c.args.workers.now (some_worker (run_in c.args.shared.now) (table_in c.args.shared.now) c.args.workers.now c.requires.workers) c.requires.workers c.requires.paused c.requires.over in
    omega (arith, items, turns, few)

pub returns-clause-output : goal.returns-clause-output
returns-clause-output c =
    c.merge-output.ensures
    ∙ ap (λ (us : List Turn). output_along c.args.shared.now.program.now us (numbers_of c.args.workers.now)) c.as_slice-turns.ensures.items
    ∙ done_output (run_in c.args.shared.now) (table_in c.args.shared.now) c.args.workers.now (some_worker (run_in c.args.shared.now) (table_in c.args.shared.now) c.args.workers.now c.requires.workers) c.requires.workers c.requires.paused c.requires.over c.requires.done

pub returns-clause-end : goal.returns-clause-end
returns-clause-end c =
    let fits : FitsSigned w32 c.exit_value.result = search rules in
    ap (λ v. ends.Exit v) (to_z-of_z fits ∙ c.exit_value.ensures)
    ∙ done_end (run_in c.args.shared.now) (table_in c.args.shared.now) c.args.workers.now (some_worker (run_in c.args.shared.now) (table_in c.args.shared.now) c.args.workers.now c.requires.workers) c.requires.workers c.requires.paused c.requires.over c.requires.done

pub returns-clause-turns : goal.returns-clause-turns
returns-clause-turns c =
    ap length c.as_slice-turns.ensures.items
    ∙ done_turns (run_in c.args.shared.now) (table_in c.args.shared.now) c.args.workers.now (some_worker (run_in c.args.shared.now) (table_in c.args.shared.now) c.args.workers.now c.requires.workers) c.requires.workers c.requires.paused c.requires.over c.requires.done
    ∙ turns_are (run_in c.args.shared.now) (table_in c.args.shared.now) c.args.workers.now (some_worker (run_in c.args.shared.now) (table_in c.args.shared.now) c.args.workers.now c.requires.workers) c.requires.workers c.requires.paused c.requires.over
