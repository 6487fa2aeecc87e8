use Rattle.std.proofs.Common.{arith}
use Rattle.pg_slice_memory.proofs.ByteChanges.{more_stamps}
use Rattle.pg_slice_memory.proofs.memory.SymbolicMemory.change.Goals as goal

pub invariant_of-self-in-Ok : goal.invariant_of-self-in-Ok
invariant_of-self-in-Ok c =
    more_stamps c.self.inside.changes.items c.push.new.self.items c.args.change c.in_ok-push.ensures.items c.self.inside.stamps c.stamp.new.self c.len.result
    c.self.invariant c.requires.end c.requires.places (omega (arith, c.len.ensures, c.push.new.self.ok)) c.in-Ok.ensures.stamped
