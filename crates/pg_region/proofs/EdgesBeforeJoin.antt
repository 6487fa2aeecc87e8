-- Edges from the blocks before a join, and from the branch.
use Rattle.std.proofs.Common.{◌≡◌, ℕ, Bool, List, Option, inl, inr, ◌⊎◌}
use Rattle.std.specs.Prelude.{Contains}
use Rattle.std.proofs.lemmas.Bool.{cases_eq}
use Rattle.pg_cfg.specs.Graphs.{Edge}
use Rattle.pg_cfg.specs.Graphs.Walk.{first, then}
use Rattle.pg_ir.specs.Program.{NumberedProgram}
use Rattle.pg_region_accesses.specs.Accesses.{RootedList}
use Rattle.pg_region.specs.Regions.{flow_of, IsJoin}
use Rattle.pg_region.specs.Laws.{EdgesStayOrJoin}

pub edges_stay : (p : NumberedProgram) (gated : ℕ → Bool) (sums : ℕ → Option RootedList) (c j : ℕ) (blocks : List ℕ) (accesses : RootedList)
    → IsJoin p gated sums c j blocks accesses → EdgesStayOrJoin p c j blocks
edges_stay p gated sums c j blocks accesses h = record { inside = λ x y m e. go x y m e (cases_eq y j); first = λ y e. begin y e (cases_eq y j) }
  where
    go : (x y : ℕ) → Contains blocks x → Edge (flow_of p) x y → (y ≡ j) ⊎ (y ≡ j → ⊥) → (y ≡ j) ⊎ Contains blocks y
    go x y m e (inl q) = inl q
    go x y m e (inr q) = inr ((h.before.exact y).1 (then ((h.before.exact x).0 m) e q))

    begin : (y : ℕ) → Edge (flow_of p) c y → (y ≡ j) ⊎ (y ≡ j → ⊥) → (y ≡ j) ⊎ Contains blocks y
    begin y e (inl q) = inl q
    begin y e (inr q) = inr ((h.before.exact y).1 (first e q))
