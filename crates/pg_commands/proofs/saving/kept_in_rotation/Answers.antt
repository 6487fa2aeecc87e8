use Rattle.std.proofs.Common.{ap, ◌∙◌}
use Rattle.pg_commands.specs.Commands.{CrewsMake}
use Rattle.pg_commands.specs.Sessions.{nothing_told}
use Rattle.pg_commands.proofs.SavingsEnd.{done_plain, saving_of}
use Rattle.pg_commands.proofs.saving.kept_in_rotation.Goals as goal

pub returns : goal.returns
returns g c =
    saving_of (CrewsMake nothing_told _) c.new-runner.result.subject _ _ _ _ c.new-runner.ensures.program c.new-runner.ensures.way (record {
      done = done_plain c.new-runner.result.subject _ _ _ _ _ _ c.in_ok-first.ensures
          (record { first = c.new-runner.ensures.turns ∙ ap g.C.Crew.turns c.replace.ensures.value; last = c.into_crew.ensures }) c.kept_by-kept.ensures.done;
      no_write = c.kept_by-kept.ensures.no_write;
      input_limit = c.kept_by-kept.ensures.input_limit;
      read_cause = c.kept_by-kept.ensures.read_cause;
      read_within = c.kept_by-kept.ensures.read_fault_within;
      read_count = c.kept_by-kept.ensures.read_count;
      takes = c.kept_by-kept.ensures.takes;
    })
