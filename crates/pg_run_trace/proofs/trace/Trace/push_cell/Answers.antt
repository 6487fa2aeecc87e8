use Rattle.std.proofs.Common.{◌≡◌, ◌+◌, List, length, arith, ap, sym, subst}
use Rattle.std.specs.List.{All}
use Rattle.pg_run_trace.specs.declared.cell.Cell.{Cell}
use Rattle.pg_run_trace.specs.declared.step.Step.{Step}
use Rattle.pg_run_trace.specs.Cells.{Names}
use Rattle.pg_run_trace.proofs.Kept.{all_with, has_room, longer, names_more, with_cell}
use Rattle.pg_run_trace.proofs.trace.Trace.push_cell.Goals as goal

pub push_reserved-requires : goal.push_reserved-requires
push_reserved-requires c =
    let s = c.self.inside in
    omega (arith, has_room s.events.items s.cells.items s.room c.args.self.now c.self.view_is c.requires.room, c.self.invariant.3)

pub invariant_of-self : goal.invariant_of-self
invariant_of-self c =
    let s = c.self.inside in
    let below = has_room s.events.items s.cells.items s.room c.args.self.now c.self.view_is c.requires.room in
    let more = longer s.cells.items c.args.cell in
    let kept = all_with (length s.events.items) s.cells.items c.args.cell c.self.invariant.0 (names_more 0 (length s.events.items) c.args.cell c.args.cell.kind (omega arith) c.requires.plain) in
    let n : length c.push_reserved.new.self.items ≡ length s.cells.items + 1 = rw c.push_reserved.ensures.items more in (
      subst (λ (cs : List Cell). All (Names (length s.events.items)) cs) (sym c.push_reserved.ensures.items) kept,
      omega (arith, n, c.self.invariant.1),
      omega (arith, n, below),
      omega (arith, c.push_reserved.ensures.capacity, c.self.invariant.3),
      c.self.invariant.4,
    )

pub returns : goal.returns
returns c =
    let s = c.self.inside in
    rw (← c.self.view_is, c.push_reserved.ensures.items)
    (ap (λ (xs : List Step). record { steps = xs; room = s.room }) (with_cell s.events.items s.cells.items c.args.cell c.requires.plain))
