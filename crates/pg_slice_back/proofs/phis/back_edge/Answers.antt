use Rattle.std.proofs.Common.{ℕ, Option, List, sym, subst}
use Rattle.std.specs.List.{AllByRecursion}
use Rattle.pg_ir.specs.declared.instr.Instr.{Instr}
use Rattle.pg_law_demands.specs.Cells.{IsMet}
use Rattle.pg_law_demands.specs.Back.{back_edge}
use Rattle.pg_slice_back.specs.Edges.{edge_sets, phis_set}
use Rattle.pg_slice_back.specs.Leaves.{Leaves, none}
use Rattle.pg_slice_back.proofs.EnteredPhis.{edge_phis}
use Rattle.pg_slice_back.proofs.phis.back_edge.Goals as goal

pub returns-in_ok-back_phis-in-Some : goal.returns-in_ok-back_phis-in-Some
returns-in_ok-back_phis-in-Some c = λ after before l f m.
    let t = c.args.at.thread.0 in
    let k = c.args.at.depth in
    let p = c.args.program.now in
    let xs = c.phis.result.now in
    let to = c.in-Some.to in
    c.in_ok-back_phis-in-Some.ensures after before
    (subst (λ (xs : List Instr). Leaves t k (phis_set xs) none after before) (sym c.phis.ensures.phis) (subst (λ (o : Option ℕ). Leaves t k (edge_sets p o) none after before) c.in-Some.is l))
    (λ i v x g h a. edge_phis p t k c.args.from to before xs c.phis.ensures.phis i v x h
    (subst (λ (o : Option ℕ). AllByRecursion (IsMet before) (back_edge p t k c.args.from o i v)) c.in-Some.is (f i v g a))) m
