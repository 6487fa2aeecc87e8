use Rattle.std.proofs.Common.{◌≡◌, ◌-◌, ◌<◌, ℕ, Bool, Some, length, drop}
use Rattle.std.specs.List.{AllByRecursion}
use Rattle.pg_ir.specs.declared.instr.Instr.{Instr}
use Rattle.pg_ir.specs.Edges.{incoming_from, incoming_of}
use Rattle.pg_slice_rules.specs.Known.{SymbolicState}
use Rattle.pg_law_demands.specs.Cells.{IsMet}
use Rattle.pg_law_demands.specs.Back.{last_phi, of_optional}
use Rattle.pg_slice_demands.specs.Asked.{asked_of}
use Rattle.pg_slice_back.specs.Edges.{phis_set}
use Rattle.pg_slice_back.specs.Leaves.{Without, none}
use Rattle.pg_slice_back.specs.Wanted.{AreWanted}
use Rattle.pg_slice_back.proofs.phis.back_phis.Given as goal

abbrev pub invariant-loop-j : goal.invariant-loop-j
invariant-loop-j l =
    Without l.at.thread.0 l.at.depth (phis_set (drop (length l.phis - l.j) l.phis)) none l.fn.demanded l.demanded
    × ((s : SymbolicState) → ((i : ℕ) (v : Bool) (x : Instr) → i < l.count → last_phi l.phis i ≡ Some x → asked_of l.fn.demanded l.at.thread.0 l.at.depth i ≡ Some v →
    AllByRecursion (IsMet s) (of_optional l.at.thread.0 l.at.depth v (incoming_from (incoming_of x.op) l.from))) → AreWanted s l.at.thread.0 l.at.depth l.wanted.items)
