use Rattle.std.proofs.Common.{sym}
use Rattle.pg_run_memory.proofs.Places.{read_is_part}
use Rattle.pg_run_memory.proofs.memory.Memory.get.Goals as goal

pub returns-clause-value : goal.returns-clause-value
returns-clause-value c =
    rw (c.part.ensures.value, c.word.ensures, c.granule.ensures.value, c.first.ensures.value, c.bytes.ensures.value)
    (sym (read_is_part c.args.self.now c.args.at (rw (← c.first.ensures.value) c.first.ensures.in_granule)))
