use Rattle.std.proofs.Common.{◌≡◌, ◌+◌, List, [], ◌∷◌, ◌++◌, length, arith, ap, sym, ◌∙◌, subst}
use Rattle.std.specs.List.{All}
use Rattle.pg_run_trace.specs.declared.cell.Cell.{Cell}
use Rattle.pg_run_trace.specs.declared.cell.CellKind.TheVariants as cells
use Rattle.pg_run_trace.specs.declared.step.StepKind.{StepKind}
use Rattle.pg_run_trace.specs.Cells.{Names, event_or_other, steps_in}
use Rattle.pg_run_trace.specs.declared.step.Step.{Step}
use Rattle.pg_run_trace.proofs.Kept.{all_names_more, all_with, has_room, longer, last, with_event}
use Rattle.pg_run_trace.proofs.trace.Trace.push_event.Goals as goal

pub push_reserved-requires : goal.push_reserved-requires
push_reserved-requires c =
    let s = c.self.inside in
    omega (arith, has_room s.events.items s.cells.items s.room c.args.self.now c.self.view_is c.requires, c.self.invariant.1, c.self.invariant.4)

pub push_reserved-requires-2 : goal.push_reserved-requires-2
push_reserved-requires-2 c =
    let s = c.self.inside in
    omega (arith, has_room s.events.items s.cells.items s.room c.args.self.now c.self.view_is c.requires, c.self.invariant.3)

pub invariant_of-self : goal.invariant_of-self
invariant_of-self c =
    let s = c.self.inside in
    let below = has_room s.events.items s.cells.items s.room c.args.self.now c.self.view_is c.requires in
    let one_more = longer s.events.items c.args.event in
    let more : length c.push_reserved.new.self.items ≡ length s.events.items + 1 = rw c.push_reserved.ensures.items one_more in
    let x : Cell = record { first = c.len-index.result; second = 0; instr = c.args.instr; thread = c.args.thread; kind = cells.Event; bytes = 0 } in
    let n : length c.push_reserved-2.new.self.items ≡ length s.cells.items + 1 = rw c.push_reserved-2.ensures.items (longer s.cells.items x) in
    let named : Names (length c.push_reserved.new.self.items) x = omega (arith, more, c.len-index.ensures) in
    let kept = all_with (length c.push_reserved.new.self.items) s.cells.items x
    (all_names_more (length s.events.items) (length c.push_reserved.new.self.items) s.cells.items (omega (arith, more)) c.self.invariant.0) named in (
      subst (λ (cs : List Cell). All (Names (length c.push_reserved.new.self.items)) cs) (sym c.push_reserved-2.ensures.items) kept,
      omega (arith, more, n, c.self.invariant.1),
      omega (arith, n, below),
      omega (arith, c.push_reserved-2.ensures.capacity, c.self.invariant.3),
      omega (arith, c.push_reserved.ensures.capacity, c.self.invariant.4),
    )

pub returns : goal.returns
returns c =
    let s = c.self.inside in
    let at : c.len-index.result ≡ length s.events.items = omega (arith, c.len-index.ensures) in
    rw (← c.self.view_is, c.push_reserved.ensures.items, c.push_reserved-2.ensures.items)
    (ap (λ (xs : List Step). record { steps = xs; room = s.room })
    (with_event s.events.items c.args.event s.cells.items _ c.self.invariant.0
    ∙ ap (λ (k : StepKind). steps_in s.events.items s.cells.items ++ record { thread = c.args.thread; instr = c.args.instr; kind = k } ∷ [])
    (rw at (ap event_or_other (last s.events.items c.args.event)))))
