use Rattle.std.proofs.Common.{arith}
use Rattle.std.proofs.lemmas.Grind.{common_steps}
use Rattle.std.proofs.lemmas.Option.{gets}
use Rattle.pg_ir.proofs.program.Program.function.Goals as goal

pub returns-clause-fits : goal.returns-clause-fits
returns-clause-fits c = rw (← c.self.view_is) (c.self.invariant.program.functions c.args.f _ (grind (arith, common_steps, gets)))
