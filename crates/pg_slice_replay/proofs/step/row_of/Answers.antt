use Rattle.pg_slice_replay.proofs.FreeableSteps.{function_at}
use Rattle.pg_slice_replay.proofs.step.row_of.Goals as goal

pub returns-clause-function : goal.returns-clause-function
returns-clause-function c = function_at c.args.run.now.program.now c.args.step.now.instr.0 c.instr.result.now c.block.result.now c.instr.ensures.at c.block.ensures.at
