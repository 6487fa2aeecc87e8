use Rattle.std.proofs.Common.{◌≡◌, ◌+◌, [], ◌∷◌, ◌++◌, ◌∙◌, ap, arith, length, length-append, subst, sym}
use Rattle.pg_crew.specs.pg_worker.Unseated.{IsUnseated}
use Rattle.pg_room.specs.Threads.{AreUnseated}
use Rattle.pg_room.proofs.SeatLists.{one_unseated}
use Rattle.pg_room.proofs.threads.unseated.Goals as goal

pub loop-number-preserved : goal.loop-number-preserved
loop-number-preserved c =
    let m = length-append c.loop-number.threads.items (c.in_ok-thread.thread ∷ []) in
    record {
      count = ap (λ ts. length ts) c.push_reserved.ensures.items ∙ (let k : length (c.loop-number.threads.items ++ c.in_ok-thread.thread ∷ []) ≡ c.loop-number.number + 1 = omega (arith, m, c.loop-number.invariant.count) in k);
      room = (let k = c.push_reserved.ensures.capacity in omega (arith, k, c.loop-number.invariant.room));
      each = subst (AreUnseated c.args.p.now c.args.s.now) (sym c.push_reserved.ensures.items)
          (one_unseated c.args.p.now c.args.s.now c.loop-number.threads.items c.in_ok-thread.thread c.loop-number.invariant.each
          (subst (λ n. IsUnseated c.args.p.now c.args.s.now n c.in_ok-thread.thread) (sym c.loop-number.invariant.count) c.in_ok-thread.ensures));
    }
