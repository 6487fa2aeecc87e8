use Rattle.std.proofs.Common.{ℕ, sym, subst}
use Rattle.std.specs.List.{AllByRecursion}
use Rattle.pg_law_demands.specs.Cells.{IsMet}
use Rattle.pg_law_demands.specs.Back.{of_bytes}
use Rattle.pg_slice_back.proofs.paths.put_cell.Goals as goal

pub returns : goal.returns
returns c = λ s h m. c.in_ok-put_bytes.ensures s m (subst (λ (start : ℕ). AllByRecursion (IsMet s) (of_bytes start 8)) (sym c.cell_start.ensures) h)
