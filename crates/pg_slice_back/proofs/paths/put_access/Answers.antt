use Rattle.std.proofs.Common.{◌≡◌, ℕ, ◌≤◌, Bool, List, length, take, arith, sym, ap, ◌∙◌, subst}
use Rattle.std.specs.Prelude.{nat_lt}
use Rattle.std.specs.List.{AllByRecursion}
use Rattle.pg_region_paths.specs.Paths.{offsets_of}
use Rattle.pg_law_demands.specs.Cells.{IsMet}
use Rattle.pg_law_demands.specs.Demands.{root_demands}
use Rattle.pg_slice_back.specs.Cells.{AreCellsMet}
use Rattle.pg_slice_back.proofs.RegionPathNeeds.{path_cells, path_root}
use Rattle.pg_slice_back.proofs.paths.put_access.Goals as goal

pub returns : goal.returns
returns c = λ s y th dp h m.
    let access = c.args.access.now in
    let ks = offsets_of access.path.loads in
    let ws = take (length ks) access.pointers in
    let word = root_demands y access.path.root in
    let count : c.offsets-count.result.1 ≡ length ks = c.offsets-count.ensures.count in
    let p : c.first-pointers.result.now ≡ ws = c.first-pointers.ensures.words ∙ ap (λ (k : ℕ). take k access.pointers) count in
    let o : c.first-at_offsets.result.now ≡ ks = c.first-at_offsets.ensures.words ∙ c.offsets-count.ensures.offsets in
    let many : length ws ≡ c.offsets-count.result.1 = ap (λ (xs : List ℕ). length xs) (sym p) ∙ c.first-pointers.ensures.count in
    let l : length ks ≤ length ws = omega (arith, many, count) in
    let b : c.has_loads.result ≡ nat_lt 0 (length ks) = c.has_loads.ensures ∙ ap (λ (k : ℕ). nat_lt 0 k) count in
    c.in_ok-put_cells.ensures s
    (subst (λ (ws : List ℕ). AreCellsMet s ws c.first-at_offsets.result.now) (sym p) (subst (λ (ks : List ℕ). AreCellsMet s ws ks) (sym o) (path_cells s word ks ws h)))
    (c.in_ok-put_root.ensures s y th dp (subst (λ (b : Bool). AllByRecursion (IsMet s) (word b)) (sym b) (path_root s word ks ws l h)) m)
