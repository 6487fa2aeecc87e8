use Rattle.std.proofs.Common.{arith}
use Rattle.std.proofs.lemmas.Grind.{common_steps}
use Rattle.std.proofs.lemmas.Option.{gets}
use Rattle.pg_ir.proofs.Globals.{global_fits}
use Rattle.pg_ir.proofs.program.Program.global.Goals as goal

pub returns-clause-fits : goal.returns-clause-fits
returns-clause-fits c = global_fits 1 c.self.inside.globals.items c.args.g _ c.self.invariant.program.globals (grind (arith, common_steps, gets))
