use Rattle.pg_ir.proofs.Globals.{global_fits}
use Rattle.pg_ir.proofs.laws.a_program_has_these_bounds.Goals as goal

pub returns-clause-size : goal.returns-clause-size
returns-clause-size c = λ p g x h e. (global_fits 1 p.globals g x h.globals e).size

pub returns-clause-granules : goal.returns-clause-granules
returns-clause-granules c = λ p g x h e. (global_fits 1 p.globals g x h.globals e).below
