use Rattle.std.proofs.Common.{rules, ◌≡◌, ◌<◌, ◌+◌, ◌-◌, length, arith, refl, sym, ap, ◌∙◌, subst}
use Rattle.std.proofs.lemmas.List.{get_or-replicate}
use Rattle.pg_schedule.specs.Intervals.{view_of}
use Rattle.pg_schedule.proofs.IntervalWalk.{Backward, backward_start, backward_event, backward_plain, due_event, found, get_found, items_length}
use Rattle.pg_schedule.proofs.interval.intervals.Goals as goal
use Rattle.pg_schedule.proofs.interval.intervals.Goals.{then-has, else-has}

pub loop-k-init : goal.loop-k-init
loop-k-init c =
    let e : length c.args.t.now.steps - 0 ≡ length c.args.t.now.steps = omega arith in
    rw e (backward_start (view_of c.args.turns) c.args.t.now.steps c.in_ok-intervals.intervals.items c.in_ok-intervals.total _ c.in_ok-intervals.ensures.0 c.in_ok-intervals.ensures.1 refl
    (λ u h. get_or-replicate 256 u c.in_ok-intervals.total 0 h))

pub overflow_sub-due : goal.overflow_sub-due
overflow_sub-due c =
    let e : length c.args.t.now.steps - c.loop-k.k ≡ (c.len.result - 1 - c.loop-k.k) + 1 = omega arith in
    due_event (view_of c.args.turns) c.args.t.now.steps (c.len.result - 1 - c.loop-k.k) c.step-step.result c.loop-k.intervals.items c.loop-k.due c.loop-k.next c.step-step.ensures
    (sym c.if-has.ensures)
    (subst (λ n. Backward (view_of c.args.turns) c.args.t.now.steps n c.loop-k.intervals.items c.loop-k.due c.loop-k.next) e c.loop-k.invariant)

pub index_mut-requires : goal.index_mut-requires
index_mut-requires c =
    let l = items_length (view_of c.args.turns) c.args.t.now.steps (length c.args.t.now.steps - c.loop-k.k) c.loop-k.intervals.items c.loop-k.due c.loop-k.next c.loop-k.invariant in
    first_of (omega (arith, l), search (rules, l))

pub loop-k-preserved : goal.loop-k-preserved
loop-k-preserved c =
    let lt : c.step-step.result.thread.0 < 256 = first_of (omega arith, search rules) in
    let n = c.len.result - 1 - c.loop-k.k in
    let e : length c.args.t.now.steps - c.loop-k.k ≡ n + 1 = omega arith in
    let q : length c.args.t.now.steps - (c.loop-k.k + 1) ≡ n = omega arith in
    let V = view_of c.args.turns in
    let b = subst (λ m. Backward V c.args.t.now.steps m c.loop-k.intervals.items c.loop-k.due c.loop-k.next) e c.loop-k.invariant in
    let f = found V c.args.t.now.steps n c.step-step.result c.step-step.ensures c.loop-k.intervals.items c.loop-k.due c.loop-k.next b in
    let low = ap (λ z. z.low) (c.index_mut.ensures.value ∙ get_found c.loop-k.intervals.items n _ _ f) in
    elim c.if-has.branch [
      | then-has w ↦ rw (
        q,
        low,
        w.next-is,
        w.due-is,
      ) (backward_event V c.args.t.now.steps n c.step-step.result c.step-step.ensures c.loop-k.intervals.items c.loop-k.due c.loop-k.next (sym w.if-has.ensures) lt b)
      | else-has w ↦ rw (
        q,
        low,
        w.next-is,
        w.due-is,
      ) (backward_plain V c.args.t.now.steps n c.step-step.result c.step-step.ensures c.loop-k.intervals.items c.loop-k.due c.loop-k.next (sym w.if-has.ensures) lt b)
    ]
