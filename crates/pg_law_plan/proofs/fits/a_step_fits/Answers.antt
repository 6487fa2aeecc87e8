use Rattle.pg_law_plan.proofs.UnbegunThreads.{starts_are_fresh}
use Rattle.pg_law_plan.proofs.StepFits as law
use Rattle.pg_law_plan.proofs.fits.a_step_fits.Goals as goal

pub returns : goal.returns
returns c r d input turns u a g e o plain closed admitted small has single m alike mine =
    law.unit_fits r d input o plain small closed admitted u has (starts_are_fresh r d o plain) single turns a g e m alike mine
