use Rattle.std.proofs.Common.{slice_index, ◌∙◌, arith}
use Rattle.std.proofs.lemmas.List.{length-set}
use Rattle.std.proofs.lemmas.Option.{slice_get-get_or}
use Rattle.pg_run_memory.specs.Memory.{read}
use Rattle.pg_slice_replay.proofs.FollowedPaths.{led_end, led_next}
use Rattle.pg_slice_replay.proofs.follow.follow_from.Goals as goal

pub loop-i-preserved : goal.loop-i-preserved
loop-i-preserved c = record {
  led = led_next (read c.args.machine.now.state.memory) c.args.word c.args.offsets.now c.loop-i.i c.loop-i.pointers c.loop-i.last (slice_index c.args.offsets.now c.loop-i.i) c.in_ok-last.last
      (omega (arith, c.loop-i.invariant.size, c.requires, c.loop-i-test.true)) (omega (arith, c.loop-i-test.true))
      (slice_get-get_or c.args.offsets.now c.loop-i.i 0 (omega (arith, c.loop-i-test.true))) c.in_ok-last.ensures c.loop-i.invariant.led;
  size = length-set c.loop-i.pointers c.loop-i.i c.loop-i.last ∙ c.loop-i.invariant.size;
}

pub returns : goal.returns
returns c =
    led_end (read c.args.machine.now.state.memory) c.args.word c.args.offsets.now c.loop-i.i c.loop-i.pointers c.loop-i.last (omega (arith, c.loop-i-test.false, c.loop-i.auto.i-end))
    (omega (arith, c.loop-i.invariant.size, c.requires, c.loop-i.auto.i-end)) c.loop-i.invariant.led
