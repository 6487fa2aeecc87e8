-- What the paths of a region's accesses ask.
use Rattle.std.proofs.Common.{◌≡◌, ℕ, zero, suc, ◌≤◌, Bool, true, List, [], ◌∷◌, length, Option, Some, None, refl, sym, ap, ◌∙◌, subst, arith}
use Rattle.std.specs.Prelude.{IfSome, is_some, nat_lt, option_map, slice_get}
use Rattle.std.specs.List.{AllByRecursion}
use Rattle.std.proofs.lemmas.Bool.{lt-ltb, true≢false}
use Rattle.pg_num.specs.Places.{ByteRange}
use Rattle.pg_region_paths.specs.declared.path.Root.{Root}
use Rattle.pg_region_paths.specs.declared.path.Root.TheVariants as root
use Rattle.pg_slice_rules.specs.Freeable.{FreeRegion}
use Rattle.pg_slice_rules.specs.Known.{SymbolicState, Seen}
use Rattle.pg_slice_rules.specs.Moments.{thread_in}
use Rattle.pg_law_least.specs.Keeps.{depth_of}
use Rattle.pg_slice_passes.specs.pg_slice_replay.declared.run.FreeAccess as declared
use Rattle.pg_slice_passes.specs.pg_slice_replay.Given.{access_as}
use Rattle.pg_slice_passes.specs.pg_slice_replay.Landmarks.{Landmark}
use Rattle.pg_slice_passes.specs.pg_slice_replay.Paths.{cell_of, cells_of}
use Rattle.pg_law_demands.specs.Cells.{Demand, IsMet}
use Rattle.pg_law_demands.specs.Back.{of_bytes, register_demand}
use Rattle.pg_law_demands.specs.Demands.{path_demands, root_demands}
use Rattle.pg_slice_back.specs.Cells.{AreCellsMet}
use Rattle.pg_slice_back.proofs.NeedsBackOverSteps.{all_left, all_right}

pub root_is : (s : SymbolicState) (y : Seen) (o : Root) (r : ℕ) (whole : Bool) (t k : ℕ) → o ≡ root.Register r → thread_in y.moment ≡ t
    → depth_of y ≡ k → AllByRecursion (IsMet s) (root_demands y o whole) →
    IsMet s (register_demand t k r whole)
root_is s y o r whole t k q a b h =
    let z : AllByRecursion (IsMet s) (root_demands y (root.Register r) whole) = subst (λ (o : Root). AllByRecursion (IsMet s) (root_demands y o whole)) q h in
    subst (λ (t : ℕ). IsMet s (register_demand t k r whole)) a (subst (λ (k : ℕ). IsMet s (register_demand (thread_in y.moment) k r whole)) b z.0)

-- the root, whole where the path loads
pub path_root : (s : SymbolicState) (word : Bool → List Demand) (ks ws : List ℕ) → length ks ≤ length ws → AllByRecursion (IsMet s) (path_demands word ks ws (cells_of ws ks)) →
    AllByRecursion (IsMet s) (word (nat_lt 0 (length ks)))
path_root s word [] ws l h = h
path_root s word (k ∷ ks) [] l h = absurd (omega (arith, l))
path_root s word (k ∷ ks) (w ∷ ws) l h =
    rw (lt-ltb 0 (suc (length ks)) (omega arith)) (all_left (IsMet s) (word true) (path_demands (λ whole. of_bytes (cell_of w k).start 8) ks ws (cells_of ws ks)) h)

first_cell : (s : SymbolicState) (qs : List Demand) (ks ws : List ℕ) (cells : List ByteRange) → AllByRecursion (IsMet s) (path_demands (λ whole. qs) ks ws cells) → AllByRecursion (IsMet s) qs
first_cell s qs [] ws cells h = h
first_cell s qs (k ∷ ks) [] cells h = h
first_cell s qs (k ∷ ks) (w ∷ ws) [] h = h
first_cell s qs (k ∷ ks) (w ∷ ws) (c ∷ cells) h = all_left (IsMet s) qs (path_demands (λ whole. of_bytes c.start 8) ks ws cells) h

-- and the cells from which it loads
pub path_cells : (s : SymbolicState) (word : Bool → List Demand) (ks ws : List ℕ) → AllByRecursion (IsMet s) (path_demands word ks ws (cells_of ws ks)) → AreCellsMet s ws ks
path_cells s word [] ws h i w k p q = absurd cc
path_cells s word (c ∷ ks) [] h i w k p q = absurd cc
path_cells s word (c ∷ ks) (v ∷ ws) h zero w k p q =
    let a : v ≡ w = cc in
    let b : c ≡ k = cc in
    let rest = all_right (IsMet s) (word true) (path_demands (λ whole. of_bytes (cell_of v c).start 8) ks ws (cells_of ws ks)) h in
    subst (λ (w : ℕ). AllByRecursion (IsMet s) (of_bytes (cell_of w k).start 8)) a
    (subst (λ (k : ℕ). AllByRecursion (IsMet s) (of_bytes (cell_of v k).start 8)) b (first_cell s (of_bytes (cell_of v c).start 8) ks ws (cells_of ws ks) rest))
path_cells s word (c ∷ ks) (v ∷ ws) h (suc i) w k p q =
    path_cells s (λ whole. of_bytes (cell_of v c).start 8) ks ws (all_right (IsMet s) (word true) (path_demands (λ whole. of_bytes (cell_of v c).start 8) ks ws (cells_of ws ks)) h) i w k p q

-- an access that is handed out is that of the region
pub got_access : (o : Option Landmark) (l : Landmark) (q : FreeRegion) (k : ℕ) (found : Option declared.FreeAccess) (a : declared.FreeAccess)
    → o ≡ Some l → l.region ≡ Some q → found ≡ Some a →
    IfSome o (λ (l : Landmark). IfSome l.region (λ (q : FreeRegion). option_map access_as found ≡ slice_get q.accesses k)) → slice_get q.accesses k ≡ Some (access_as a)
got_access o l q k found a e f g h =
    let z : IfSome l.region (λ (q : FreeRegion). option_map access_as found ≡ slice_get q.accesses k) =
    subst (λ (o : Option Landmark). IfSome o (λ (l : Landmark). IfSome l.region (λ (q : FreeRegion). option_map access_as found ≡ slice_get q.accesses k))) e h in
    let y : option_map access_as found ≡ slice_get q.accesses k = subst (λ (o : Option FreeRegion). IfSome o (λ (q : FreeRegion). option_map access_as found ≡ slice_get q.accesses k)) f z in
    sym y ∙ ap (option_map access_as) g

pub region_there : (o : Option Landmark) (l : Landmark) (b : Bool) → o ≡ Some l → b ≡ true
    → IfSome o (λ (l : Landmark). b ≡ is_some l.region) → (q : FreeRegion) × (l.region ≡ Some q)
region_there o l b e f h =
    let z : b ≡ is_some l.region = subst (λ (o : Option Landmark). IfSome o (λ (l : Landmark). b ≡ is_some l.region)) e h in
    go l.region refl (sym z ∙ f)
  where
    go : (o : Option FreeRegion) → l.region ≡ o → is_some o ≡ true → (q : FreeRegion) × (l.region ≡ Some q)
    go None q g = absurd (true≢false (sym g))
    go (Some q) is g = (q, is)
