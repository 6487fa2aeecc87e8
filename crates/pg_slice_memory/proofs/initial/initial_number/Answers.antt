use Rattle.std.proofs.Common.{arith, sym, ◌+◌, ◌-◌}
use Rattle.pg_run_memory.specs.Initial.{initial_byte}
use Rattle.pg_slice_memory.proofs.ByteNumbers.{digit_next, digit_small, digits_small}
use Rattle.pg_slice_memory.proofs.LoadedNumbers.{bytes_none}
use Rattle.pg_slice_memory.proofs.initial.initial_number.Goals as goal

pub loop-k-init : goal.loop-k-init
loop-k-init c = record {
  value = sym (bytes_none (initial_byte c.args.p.now.globals) (c.args.start + (c.args.count - 0)));
  small = omega arith;
}

pub overflow_mul-number : goal.overflow_mul-number
overflow_mul-number c = let s = digits_small c.loop-k.number c.loop-k.k (omega arith) c.loop-k.invariant.small in omega (arith, s)

pub overflow_add-number : goal.overflow_add-number
overflow_add-number c = let s = digits_small c.loop-k.number c.loop-k.k (omega arith) c.loop-k.invariant.small in omega (arith, s, c.initial_byte-byte.type_inv)

pub loop-k-preserved : goal.loop-k-preserved
loop-k-preserved c = record {
  value = digit_next (initial_byte c.args.p.now.globals) c.args.start c.args.count c.loop-k.k c.loop-k.number c.initial_byte-byte.result
      (omega arith) c.loop-k.invariant.value c.initial_byte-byte.ensures;
  small = digit_small c.loop-k.number c.initial_byte-byte.result c.loop-k.k c.loop-k.invariant.small (omega (arith, c.initial_byte-byte.type_inv));
}
