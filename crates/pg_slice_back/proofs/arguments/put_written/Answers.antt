use Rattle.std.proofs.Common.{ℕ, false, Option, sym, subst}
use Rattle.std.specs.List.{AllByRecursion}
use Rattle.pg_law_demands.specs.Cells.{IsMet}
use Rattle.pg_run_trace.specs.declared.step.Write.{Write}
use Rattle.pg_run_trace.specs.Steps.{access_by}
use Rattle.pg_law_demands.specs.Demands.{write_demands}
use Rattle.pg_law_demands.specs.Back.{of_operand}
use Rattle.pg_slice_rules.specs.Rules.{write_index}
use Rattle.pg_slice_back.proofs.EventOperands.{operand_there}
use Rattle.pg_slice_back.proofs.arguments.put_written.Goals as goal

pub returns-in_ok-put_argument-in-Some : goal.returns-in_ok-put_argument-in-Some
returns-in_ok-put_argument-in-Some c = λ s y th dp h m.
    let x = c.args.instr.now in
    let t = c.args.at.thread.0 in
    let k = c.args.at.depth in
    c.in_ok-put_argument-in-Some.ensures s (subst (λ (i : ℕ). AllByRecursion (IsMet s) (of_operand t k false x.op i)) (sym c.write_index.ensures)
    (operand_there s y x t k false (write_index x.op) th dp (subst (λ (o : Option Write). AllByRecursion (IsMet s) (write_demands y x (access_by o))) c.in-Some.is h))) m
