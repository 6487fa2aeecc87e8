use Rattle.std.proofs.Common.{arith}
use Rattle.pg_run_memory.proofs.Padding.{low_parts, high_parts}
use Rattle.pg_run_memory.proofs.memory.Memory.put_word.Goals as goal

pub invariant_of-self : goal.invariant_of-self
invariant_of-self c =
    low_parts c.self.inside.globals c.self.inside.threads c.set.new.self c.args.granule c.args.word c.self.invariant c.if-granule-lt-GLOBALS_END.true c.ranges.word.fits c.set.ensures

pub invariant_of-self-else-granule-lt-GLOBALS_END : goal.invariant_of-self-else-granule-lt-GLOBALS_END
invariant_of-self-else-granule-lt-GLOBALS_END c =
    high_parts c.self.inside.globals c.self.inside.threads c.set-else-granule-lt-GLOBALS_END.new.self c.args.granule c.args.word c.self.invariant
    (omega (arith, c.if-granule-lt-GLOBALS_END.false)) c.requires c.ranges.word.fits c.set-else-granule-lt-GLOBALS_END.ensures
