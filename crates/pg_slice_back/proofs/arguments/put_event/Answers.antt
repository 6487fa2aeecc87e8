use Rattle.pg_run_trace.specs.Steps.{access_by}
use Rattle.pg_law_demands.specs.Cells.{IsMet}
use Rattle.pg_law_demands.specs.Demands.{checked_demands, write_demands}
use Rattle.pg_slice_back.proofs.NeedsBackOverSteps.{all_left, all_right}
use Rattle.pg_slice_back.proofs.arguments.put_event.Goals as goal

pub returns : goal.returns
returns c = λ d s y th dp h m.
    let x = c.args.instr.now in
    let one = checked_demands y x c.args.event.now.kind in
    let two = write_demands y x (access_by c.args.event.now.write) in
    c.in_ok-put_written.ensures s y th dp (all_right (IsMet s) one two h) (c.in_ok-put_called.ensures s y th dp (all_left (IsMet s) one two h) m)
