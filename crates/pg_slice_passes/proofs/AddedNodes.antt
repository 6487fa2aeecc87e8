-- What is added for the paths of a region, and for operands, as nodes are added.
use Rattle.std.proofs.Common.{◌≡◌, ℕ, zero, suc, ◌+◌, ◌<◌, ◌≤◌, Bool, true, false, List, [], ◌∷◌, ◌++◌, length, map, take, drop, Option, Some, None, IfSome}
use Rattle.std.proofs.Common.{slice_get, refl, sym, ap, ◌∙◌, subst, arith}
use Rattle.std.specs.Prelude.{is_some}
use Rattle.std.proofs.lemmas.Bool.{false≢true}
use Rattle.pg_ir.specs.Program.{NumberedProgram}
use Rattle.pg_precondition.specs.Nodes.{NodeList}
use Rattle.pg_slice_rules.specs.Freeable.{FreeAccess, FreeRegion}
use Rattle.pg_slice_rules.specs.Known.{Seen}
use Rattle.pg_slice_rules.specs.Rules.{Need, all_of, free_access_needs, path_needs, registers_before, region_needs_in, root_symbolic}
use Rattle.pg_slice_rules.specs.SymbolicValues.{Symbolic}
use Rattle.pg_slice_checks.specs.Asks.{Adds}
use Rattle.pg_slice_checks.specs.Paths.{AreCells}
use Rattle.pg_slice_checks.specs.declared.asked.Asked.{Asked}
use Rattle.pg_slice_checks.proofs.OneNeedMore.{adds_none, adds_then}
use Rattle.pg_region_paths.specs.Paths.{offsets_of}
use Rattle.pg_slice_replay.specs.Given.{access_as}
use Rattle.pg_slice_replay.specs.Landmarks.{Landmark}
use Rattle.pg_slice_replay.specs.Paths.{cells_of}
use Rattle.pg_slice_replay.specs.declared.run.FreeAccess as declared
use Rattle.pg_slice_registers.specs.SymbolicRegisterNodes.{AreSymbolicNodes, registers_by}
use Rattle.pg_slice_registers.proofs.KeptValues.{registers_kept}
use Rattle.pg_slice_values.specs.declared.symbolic_node.SymbolicNode.{SymbolicNode}
use Rattle.pg_slice_values.specs.SymbolicNodes.{Grew, IsSymbolicNode, symbolic_by}
use Rattle.pg_slice_values.proofs.GrowingNodes.{grew_length, grew_then, symbolic_kept, symbolic_node_more}

-- what was read by the registers stays so while nodes are added
pub later : (f : List Symbolic → Symbolic) (first second ns : NodeList) (s : SymbolicNode) (registers : List SymbolicNode) → Grew first second → Grew second ns → IsSymbolicNode (length second) s
    → AreSymbolicNodes (length first) registers →
    symbolic_by second s ≡ f (registers_by first registers) → symbolic_by ns s ≡ f (registers_by ns registers)
later f first second ns s registers g h is are e =
    symbolic_kept second ns s h is ∙ e ∙ ap f (sym (registers_kept first ns registers (grew_then first second ns g h) are))

pub is_later : (second ns : NodeList) (s : SymbolicNode) → Grew second ns → IsSymbolicNode (length second) s → IsSymbolicNode (length ns) s
is_later second ns s g is = symbolic_node_more (length second) (length ns) s (grew_length second ns g) is

-- ---- a path

cells_cut : (ks ws : List ℕ) → length ks ≤ length ws → AreCells ks ws (cells_of ws ks)
cells_cut [] [] h = tt
cells_cut [] (w ∷ ws) h = tt
cells_cut (k ∷ ks) [] h = absurd (omega (arith, h))
cells_cut (k ∷ ks) (w ∷ ws) h = (refl, cells_cut ks ws (omega (arith, h)))

abbrev cut : List ℕ → List ℕ → List ℕ
cut ws ks = take (length ks) ws

pub path_adds : (p : NumberedProgram) (ns : NodeList) (bytes : ℕ → Symbolic) (rs : List Symbolic) (from : Symbolic) (access : declared.FreeAccess) (offsets pointers : List ℕ) (old new : Asked) →
    offsets ≡ offsets_of access.path.loads → pointers ≡ take (length offsets) access.pointers → length offsets ≤ length pointers → from ≡ root_symbolic p rs access.path.root →
    Adds ns (path_needs bytes from offsets pointers (cells_of pointers offsets) access.last) old new → (a : FreeAccess) → access_as access ≡ a →
    Adds ns (path_needs bytes (root_symbolic p rs a.path.root) (offsets_of a.path.loads) a.at.pointers a.at.cells a.at.last) old new
path_adds p ns bytes rs from access offsets pointers old new e f l r h a q =
    subst (λ (y : FreeAccess). Adds ns (path_needs bytes (root_symbolic p rs y.path.root) (offsets_of y.path.loads) y.at.pointers y.at.cells y.at.last) old new) q
    (subst (λ (s : Symbolic). Adds ns (path_needs bytes s (offsets_of access.path.loads) (cut access.pointers (offsets_of access.path.loads))
    (cells_of (cut access.pointers (offsets_of access.path.loads)) (offsets_of access.path.loads)) access.last) old new) r
    (subst (λ (ks : List ℕ). Adds ns (path_needs bytes from ks (cut access.pointers ks) (cells_of (cut access.pointers ks) ks) access.last) old new) e
    (subst (λ (ws : List ℕ). Adds ns (path_needs bytes from offsets ws (cells_of ws offsets) access.last) old new) f h)))

pub cells_are : (ks ws : List ℕ) → length ks ≤ length ws → AreCells ks ws (cells_of ws ks)
cells_are = cells_cut

-- ---- a region

dropped : {A : Type 0} (xs : List A) (i : ℕ) (a : A) → slice_get xs i ≡ Some a → drop i xs ≡ a ∷ drop (i + 1) xs
dropped [] i a h = absurd cc
dropped (x ∷ xs) zero a h = let e : x ≡ a = cc in rw e refl
dropped (x ∷ xs) (suc i) a h = let z : suc i + 1 ≡ suc (i + 1) = omega arith in rw z (dropped xs i a h)

past_all : {A : Type 0} (xs : List A) (i : ℕ) → length xs ≤ i → drop i xs ≡ []
past_all [] zero h = refl
past_all [] (suc i) h = refl
past_all (x ∷ xs) zero h = absurd (omega (arith, h))
past_all (x ∷ xs) (suc i) h = past_all xs i (omega (arith, h))

module _ (p : NumberedProgram) (ns : NodeList) (x : Seen) (bytes : ℕ → Symbolic) (rs : List Symbolic) (read : registers_before x ≡ rs) (known : x.before.bytes ≡ bytes) where
  pub access_more : (f : FreeRegion) (k : ℕ) (a : FreeAccess) (old between done : Asked) → slice_get f.accesses k ≡ Some a →
      Adds ns (path_needs bytes (root_symbolic p rs a.path.root) (offsets_of a.path.loads) a.at.pointers a.at.cells a.at.last) old between →
      Adds ns (all_of (free_access_needs p x) (drop (k + 1) f.accesses)) between done → Adds ns (all_of (free_access_needs p x) (drop k f.accesses)) old done
  access_more f k a old between done e one rest =
      subst (λ (xs : List FreeAccess). Adds ns (all_of (free_access_needs p x) xs) old done) (sym (dropped f.accesses k a e))
      (adds_then ns (free_access_needs p x a) (all_of (free_access_needs p x) (drop (k + 1) f.accesses)) old between done one' rest)
    where
      one' : Adds ns (free_access_needs p x a) old between
      one' =
          subst (λ (b : ℕ → Symbolic). Adds ns (path_needs b (root_symbolic p (registers_before x) a.path.root) (offsets_of a.path.loads) a.at.pointers a.at.cells a.at.last) old between) (sym known)
          (subst (λ (l : List Symbolic). Adds ns (path_needs bytes (root_symbolic p l a.path.root) (offsets_of a.path.loads) a.at.pointers a.at.cells a.at.last) old between) (sym read) one)

pub accesses_end : (p : NumberedProgram) (ns : NodeList) (x : Seen) (f : FreeRegion) (k : ℕ) (old : Asked) → length f.accesses ≤ k
    → Adds ns (all_of (free_access_needs p x) (drop k f.accesses)) old old
accesses_end p ns x f k old h = subst (λ (xs : List FreeAccess). Adds ns (all_of (free_access_needs p x) xs) old old) (sym (past_all f.accesses k h)) (adds_none ns old)

-- a landmark's region
pub region_adds : (p : NumberedProgram) (ns : NodeList) (x : Seen) (q : Option FreeRegion) (f : FreeRegion) (old new : Asked) → q ≡ Some f
    → Adds ns (all_of (free_access_needs p x) f.accesses) old new → Adds ns (region_needs_in p x q) old new
region_adds p ns x q f old new e h = subst (λ (y : Option FreeRegion). Adds ns (region_needs_in p x y) old new) (sym e) h

pub no_region_adds : (p : NumberedProgram) (ns : NodeList) (x : Seen) (q : Option FreeRegion) (old : Asked) → q ≡ None → Adds ns (region_needs_in p x q) old old
no_region_adds p ns x q old e = subst (λ (y : Option FreeRegion). Adds ns (region_needs_in p x y) old old) (sym e) (adds_none ns old)

-- ---- what is said of a landmark

free_none : (q : Option FreeRegion) → false ≡ is_some q → q ≡ None
free_none None h = refl
free_none (Some f) h = absurd (false≢true h)

free_some : (q : Option FreeRegion) → true ≡ is_some q → (f : FreeRegion) × (q ≡ Some f)
free_some None h = absurd (false≢true (sym h))
free_some (Some f) h = (f, refl)

-- where it has no region
pub at_none : (o : Option Landmark) (P : Landmark → Type 0) → ((l : Landmark) → l.region ≡ None → P l) → (b : Bool) → b ≡ false
    → IfSome o (λ (l : Landmark). b ≡ is_some l.region) → IfSome o P
at_none None P f b e h = tt
at_none (Some l) P f b e h = f l (free_none l.region (sym e ∙ h))

-- where it has one
pub at_some : (o : Option Landmark) (P : Landmark → Type 0) → ((l : Landmark) (f : FreeRegion) → o ≡ Some l → l.region ≡ Some f → P l) → (b : Bool) → b ≡ true
    → IfSome o (λ (l : Landmark). b ≡ is_some l.region) → IfSome o P
at_some None P g b e h = tt
at_some (Some l) P g b e h = let s = free_some l.region (sym e ∙ h) in g l s.0 refl s.1

-- what is said of its region
pub said_of : (P : FreeRegion → Type 0) (o : Option Landmark) (f : FreeRegion) → is_some o ≡ true → IfSome o (λ (l : Landmark). l.region ≡ Some f)
    → IfSome o (λ (l : Landmark). IfSome l.region P) → P f
said_of P None f h e a = absurd (false≢true h)
said_of P (Some l) f h e a = subst (λ (y : Option FreeRegion). IfSome y P) e a

-- what is said of each region
pub each_region : (P Q : FreeRegion → Type 0) (o : Option Landmark) → ((f : FreeRegion) → P f → Q f) → IfSome o (λ (l : Landmark). IfSome l.region P)
    → IfSome o (λ (l : Landmark). IfSome l.region Q)
each_region P Q None g h = tt
each_region P Q (Some l) g h = go l.region h
  where
    go : (q : Option FreeRegion) → IfSome q P → IfSome q Q
    go None k = tt
    go (Some f) k = g f k

pub access_there : (xs : List FreeAccess) (k : ℕ) → k < length xs → (a : FreeAccess) × (slice_get xs k ≡ Some a)
access_there [] k h = absurd (omega (arith, h))
access_there (x ∷ xs) zero h = (x, refl)
access_there (x ∷ xs) (suc k) h = access_there xs k (omega (arith, h))

pub same_some : {A : Type 0} (x y : A) → Some x ≡ Some y → x ≡ y
same_some x y h = cc
