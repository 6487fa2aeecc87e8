use Rattle.std.proofs.Common.{subst, ◌∙◌}
use Rattle.pg_commands.specs.Programs.{IsLoaded}
use Rattle.pg_commands.specs.Texts.{IsAccepted}
use Rattle.pg_commands.proofs.trial.trial_reply.Goals as goal

-- the text that was loaded is that of the trial's program
pub returns-in_ok-trial_text-in-Accepted-clause-reply : goal.returns-in_ok-trial_text-in-Accepted-clause-reply
returns-in_ok-trial_text-in-Accepted-clause-reply g c =
    let p = c.in-Accepted.program in
    let loaded = subst (IsLoaded c.as_bytes.result.now) c.in-Accepted.is c.in_ok-program.ensures in
    record {
      program = p;
      accepted = subst (λ t. IsAccepted t p) (c.as_bytes.ensures.value ∙ c.trial_program.ensures) loaded.0;
      tells = c.in_ok-trial_text-in-Accepted.ensures.0;
      makes = c.in_ok-trial_text-in-Accepted.ensures.1;
    }
