use Rattle.std.proofs.Common.{◌≡◌, true}
use Rattle.std.specs.List.{AllByRecursion}
use Rattle.pg_slice_rules.specs.Known.{SymbolicState, Seen}
use Rattle.pg_slice_rules.specs.Moments.{thread_in}
use Rattle.pg_slice_rules.specs.Rules.{all_of, checked_of}
use Rattle.pg_law_least.specs.Keeps.{depth_of}
use Rattle.pg_law_demands.specs.Cells.{IsMet}
use Rattle.pg_law_demands.specs.Demands.{operand_demands}
use Rattle.pg_slice_back.specs.Met.{AreMet}
use Rattle.pg_slice_back.proofs.arguments.put_checked.Given as goal

abbrev pub invariant-loop-i : goal.invariant-loop-i
invariant-loop-i l =
    (s : SymbolicState) (y : Seen) → thread_in y.moment ≡ l.at.thread.0 → depth_of y ≡ l.at.depth
    → AllByRecursion (IsMet s) (all_of (operand_demands y l.instr true) (checked_of l.instr.op)) → AreMet s l.initial.demanded →
    AreMet s l.demanded
