use Rattle.std.proofs.Common.{sym}
use Rattle.pg_run_memory.specs.Initial.{initial, initial_byte}
use Rattle.pg_run_memory.proofs.Places.{memory_of_is}
use Rattle.pg_run_memory.proofs.memory.Memory.new.Goals as goal

pub returns : goal.returns
unfolding initial
returns c = sym (memory_of_is (initial_byte c.args.p.now.globals) c.lay_globals.new.memory c.facts.ensures (λ b. sym (c.lay_globals.ensures b)))
