use Rattle.std.proofs.Common.{◌≡◌, ℕ, ◌+◌, ◌-◌, ◌^◌, ◌<◌, arith, drop, slice_index, subst, sym}
use Rattle.pg_law_runs.specs.pg_law_effects.Reached.{HoldBytes}
use Rattle.pg_law_order.proofs.GlobalBytes.{hold_more}
use Rattle.pg_law_order.proofs.running.globals_hold_bytes.Goals as goal

pub loop-left-preserved : goal.loop-left-preserved
loop-left-preserved c =
    let k : c.loop-left.left - 1 + 1 ≡ c.loop-left.left = omega arith in
    let small : (i : ℕ) → slice_index c.global-global.result.now.bytes i < 2 ^ 8 = λ i. rw (sym c.as_slice.ensures.items) (c.bytes_are_small.ensures i) in
    record {
      within = omega arith;
      bytes = hold_more c.args.p.now.globals (c.loop-left.left - 1) c.global-global.result.now c.global-global.ensures.at small
          (subst (λ n. HoldBytes (drop n c.args.p.now.globals)) (sym k) c.loop-left.invariant.bytes);
    }
