use Rattle.std.proofs.Common.{◌+◌, arith}
use Rattle.pg_slice_back.proofs.NeedsBackOverSteps.{byte_met, byte_of}
use Rattle.pg_slice_back.proofs.access.put_bytes.Goals as goal

pub loop-i-preserved : goal.loop-i-preserved
loop-i-preserved c = λ s m h.
    byte_met s c.loop-i.demanded c.put_byte.new.self (c.args.start + c.loop-i.i) (byte_of s c.args.start c.args.count c.loop-i.i (omega (arith, c.loop-i.auto.i-end, c.loop-i-test.true)) h)
    c.in_ok-put_byte.ensures.registers c.in_ok-put_byte.ensures.bytes (c.loop-i.invariant s m h)
