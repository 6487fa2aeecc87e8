use Rattle.std.proofs.Common.{sym, ap, ◌∙◌}
use Rattle.pg_slice_back.specs.Edges.{held_by}
use Rattle.pg_law_demands.specs.Along.{known_at}
use Rattle.pg_slice_back.proofs.Dispatch.{event_back, print_back}
use Rattle.pg_slice_back.proofs.event.back_event.Goals as goal

pub returns-then-printed : goal.returns-then-printed
returns-then-printed c = λ R e p r step counts n m st call kind count met.
    let x = c.args.instr.now in
    let at = c.args.at in
    let v = c.args.event.now in
    let asked = c.asks_printed-printed.ensures c.if-printed.true in
    c.in_ok-put_argument.ensures (known_at R e n)
    (print_back R e p r x step counts n m st at call v kind asked.2 asked.0 asked.1 (ap (held_by x.result) count
    ∙ (sym c.held.ensures ∙ asked.3)) (met.registers at.thread.0 at.depth asked.0 asked.1 asked.4))
    (event_back R e p r x step counts n m st at call v kind c.args.demanded.now c.leave_event.new.demanded c.leave_event.ensures met)

pub returns : goal.returns
returns c = λ R e p r step counts n m st call kind count met.
    event_back R e p r c.args.instr.now step counts n m st c.args.at call c.args.event.now kind c.args.demanded.now c.leave_event.new.demanded c.leave_event.ensures met
