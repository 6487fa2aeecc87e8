use Rattle.std.proofs.Common.{ap, subst, sym, ◌∙◌}
use Rattle.pg_ir.specs.Program.{NumberedProgram}
use Rattle.pg_session_book.specs.pg_session.Progress.{Stands}
use Rattle.pg_session_book.specs.Runs.{Way, runs_by, tested}
use Rattle.pg_commands.specs.Commands.{CrewsMake}
use Rattle.pg_commands.specs.Sessions.{nothing_told}
use Rattle.pg_commands.proofs.SessionsEnd.{done_plain, ends_of}
use Rattle.pg_commands.proofs.serve.serve_tested.Goals as goal

pub serve-ended-requires-clause-stands : goal.serve-ended-requires-clause-stands
serve-ended-requires-clause-stands g c = λ _ _.
    subst (λ (v : Way). Stands (runs_by c.new-runner.result.subject.program v) c.args.first) (sym c.new-runner.ensures.way)
    (subst (λ (q : NumberedProgram). Stands (runs_by q tested) c.args.first) (sym c.new-runner.ensures.program) c.requires.stands)

pub returns : goal.returns
returns g c =
    ends_of (CrewsMake nothing_told _) c.new-runner.result.subject _ _ _ _ _ _ c.new-runner.ensures.program c.new-runner.ensures.way (record {
      done = done_plain c.args.form c.new-runner.result.subject _ _ _ _ _ _ _ _
          (record { first = c.new-runner.ensures.turns ∙ ap g.C.Crew.turns c.replace.ensures.value; last = c.into_crew.ensures }) c.serve-ended.ensures.done;
      input_limit = c.serve-ended.ensures.input_limit;
      read_fault = c.serve-ended.ensures.read_fault;
      write_fault = c.serve-ended.ensures.write_fault_cuts;
      out_of_memory = c.serve-ended.ensures.out_of_memory_cuts;
      read_cause = c.serve-ended.ensures.read_cause;
      read_within = c.serve-ended.ensures.read_fault_within;
      read_count = c.serve-ended.ensures.read_count;
      write_cause = c.serve-ended.ensures.write_cause;
      write_count = c.serve-ended.ensures.write_count;
      takes = c.serve-ended.ensures.takes;
    })
