use Rattle.std.proofs.Common.{◌≡◌, ◌+◌, ◌-◌, ◌*◌, arith, sym, ◌∙◌, drop}
use Rattle.pg_run_memory.specs.Initial.{initial_byte}
use Rattle.pg_run_memory.specs.Memory.{byte_at}
use Rattle.pg_run_memory.proofs.InitialBytes.{initial_more, with_bytes_at_same}
use Rattle.pg_run_memory.proofs.globals.lay_globals.Goals as goal

pub loop-left-preserved : goal.loop-left-preserved
loop-left-preserved c =
    let k : c.loop-left.left - 1 + 1 ≡ c.loop-left.left = omega arith in
    record {
      within = omega arith;
      bytes = λ b.
          c.lay.ensures b
          ∙ rw c.as_slice.ensures.items (with_bytes_at_same (c.global-global.result.now.start * 8) c.global-global.result.now.bytes (byte_at c.loop-left.memory)
          (initial_byte (drop (c.loop-left.left - 1 + 1) c.args.p.now.globals)) b (rw k (c.loop-left.invariant.bytes b)))
          ∙ sym (initial_more c.args.p.now.globals (c.loop-left.left - 1) c.global-global.result.now b c.global-global.ensures.at);
    }
