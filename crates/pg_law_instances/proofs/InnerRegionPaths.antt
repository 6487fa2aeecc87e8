-- A freeable branch step inside: its region's accesses lead to bounds of the outer region's.
use Rattle.std.proofs.Common.{◌≡◌, ℕ, ◌+◌, Bool, false, List, [], ◌∷◌, ◌++◌, Option, Some, Result, Ok, Err, pos, refl, sym, ap, ◌∙◌, subst, arith, inl, inr, ◌⊎◌}
use Rattle.std.specs.Prelude.{Contains}
use Rattle.std.proofs.lemmas.List.Elements.{Contains-append_cases}
use Rattle.pg_num.specs.Places.{ByteRange}
use Rattle.pg_num.specs.Pointers.{moved_by, place_of}
use Rattle.pg_num.specs.declared.places.PlaceFault.{PlaceFault}
use Rattle.pg_ir.specs.declared.value.Scalar.{Scalar}
use Rattle.pg_ir.specs.declared.instr.Instr.{Instr}
use Rattle.pg_ir.specs.declared.instr.Op.{Op}
use Rattle.pg_ir.specs.declared.instr.Op.TheVariants as op
use Rattle.pg_ir.specs.Program.{NumberedProgram, function_of, types_of, first_of}
use Rattle.pg_ir.specs.Edges.{instrs_of}
use Rattle.pg_ir.specs.WellFormed.{IsProgram}
use Rattle.pg_region_paths.specs.declared.path.Path.{Path}
use Rattle.pg_region_paths.specs.declared.path.Root.{Root}
use Rattle.pg_region_paths.specs.declared.path.Root.TheVariants as root
use Rattle.pg_region_paths.specs.FollowedPaths as followed
use Rattle.pg_region_paths.specs.FollowedPaths.{PathPointers, cell_at, cell_in, followed_from, root_value}
use Rattle.pg_region_paths.specs.Paths.{offsets_of}
use Rattle.pg_region_paths.specs.Registers.{register_path}
use Rattle.pg_region_accesses.specs.declared.rooted.Rooted.{Rooted}
use Rattle.pg_region_accesses.specs.Accesses.{RootedList, gathered, op_accesses, accesses_from, block_accesses, sets, set_accesses}
use Rattle.pg_region_accesses.specs.Laws.{IsOutside}
use Rattle.pg_region_paths.proofs.Elements.{here, there, none_in}
use Rattle.pg_region_accesses.proofs.QuietInParts.{same_part}
use Rattle.pg_region_accesses.proofs.QuietInstructions.{parts, set_outside}
use Rattle.pg_region_summaries.proofs.BlockSpans.{has_block}
use Rattle.pg_region.specs.declared.region.Region.{Region}
use Rattle.pg_region.specs.Regions.{IsJoin}
use Rattle.pg_run_thread.specs.LocalState.{Frame}
use Rattle.pg_slice_replay.specs.pg_slice_rules.Freeable.{FreeAccess, bounds_of}
use Rattle.pg_law_instances.specs.Leads.{IsLoaded, IsReached, IsWithin, Leads, KeepsCells}
use Rattle.pg_law_instances.specs.Inside.{Instance, QuietSet, IsQuietSet, StandsIn, registers_by}
use Rattle.pg_law_instances.proofs.ControlFlow.{walk_fits}
use Rattle.pg_law_instances.proofs.PointerMoves.{bounds_moved}
use Rattle.pg_law_instances.proofs.FollowedPaths.{within_memory, within_bounds, some_bytes, LoadsFirst, loads_first, loads_again}
use Rattle.pg_law_instances.proofs.FramePlaces.{gathered_part}
use Rattle.pg_law_instances.proofs.PathsOfValues.{follows_root, root_follows}
use Rattle.pg_region_summaries.specs.Blocks.{blocks_of}

-- ---- where an access of a list comes from

pub gathered_source : {A : Type 0} (f : A → Option RootedList) (xs : List A) (listed : RootedList) (y : Rooted) → gathered f xs ≡ Some listed → Contains listed y
    → (x : A) × Contains xs x × ((ys : RootedList) × (f x ≡ Some ys) × Contains ys y)
gathered_source f [] listed y e c = let t : [] ≡ listed = cc in absurd (none_in y (subst (λ (l : RootedList). Contains l y) (sym t) c))
gathered_source {A} f (z ∷ zs) listed y e c = go (parts (f z) (gathered f zs) listed e) (λ l q d. gathered_source f zs l y q d)
  where
    go : (ys : RootedList) × (rest : RootedList) × (f z ≡ Some ys) × (gathered f zs ≡ Some rest) × (listed ≡ ys ++ rest) →
        ((l : RootedList) → gathered f zs ≡ Some l → Contains l y → (x : A) × Contains zs x × ((ys : RootedList) × (f x ≡ Some ys) × Contains ys y))
        → (x : A) × Contains (z ∷ zs) x × ((ys : RootedList) × (f x ≡ Some ys) × Contains ys y)
    go h more = pick (Contains-append_cases h.0 h.1 y (subst (λ (l : RootedList). Contains l y) h.4 c))
      where
        pick : Contains h.0 y ⊎ Contains h.1 y → (x : A) × Contains (z ∷ zs) x × ((ys : RootedList) × (f x ≡ Some ys) × Contains ys y)
        pick (inl d) = (z, here z zs, (h.0, h.2, d))
        pick (inr d) = let r = more h.1 h.3 d in (r.0, there z zs r.0 r.1, r.2)

-- ---- where no return stands a set may return as well

op_either : (m : Bool) (gated : ℕ → Bool) (sums : ℕ → Option RootedList) (f : ℕ → Option Path) (i : ℕ) (o : Op) (ys : RootedList) → op_accesses false gated sums f i o ≡ Some ys
    → op_accesses m gated sums f i o ≡ Some ys
op_either m gated sums f i (op.Ret v) ys e = absurd cc
op_either m gated sums f i (op.Load w from) ys e = e
op_either m gated sums f i (op.Store w v at) ys e = e
op_either m gated sums f i (op.Call g args) ys e = e
op_either m gated sums f i (op.CallLibrary k args) ys e = e
op_either m gated sums f i (op.Alloca bytes) ys e = e
op_either m gated sums f i o ys e = e

from_either : (m : Bool) (gated : ℕ → Bool) (sums : ℕ → Option RootedList) (is_set : ℕ → Bool) (types : List Scalar) (before : List Instr) (i : ℕ) (xs : List Instr)
    (ys : RootedList) → accesses_from false gated sums is_set types before i xs ≡ Some ys → accesses_from m gated sums is_set types before i xs ≡ Some ys
from_either m gated sums is_set types before i [] ys e = e
from_either m gated sums is_set types before i (x ∷ xs) ys e =
    let h = parts (op_accesses false gated sums (register_path is_set types before) i x.op) (accesses_from false gated sums is_set types (x ∷ before) (i + 1) xs) ys e in
    rw (op_either m gated sums (register_path is_set types before) i x.op h.0 h.2, from_either m gated sums is_set types (x ∷ before) (i + 1) xs h.1 h.3) (ap (λ (l : RootedList). Some l) (sym h.4))

block_either : (m : Bool) (p : NumberedProgram) (gated : ℕ → Bool) (sums : ℕ → Option RootedList) (is_set : ℕ → Bool) (b : ℕ) (ys : RootedList)
    → block_accesses false p gated sums is_set b ≡ Some ys → block_accesses m p gated sums is_set b ≡ Some ys
unfolding block_accesses
block_either m p gated sums is_set b ys e = from_either m gated sums is_set (types_of p (function_of p b)) [] (first_of p b) (instrs_of p b) ys e

-- what a part of a set accesses the set accesses too
pub part_among : (m : Bool) (p : NumberedProgram) (gated : ℕ → Bool) (sums : ℕ → Option RootedList) (big small : List ℕ) (all some : RootedList)
    → set_accesses m p gated sums big ≡ Some all → set_accesses false p gated sums small ≡ Some some → ((b : ℕ) → Contains small b → Contains big b) → (a : Rooted)
    → Contains some a → Contains all a
part_among m p gated sums big small all some e k h a c =
    let x = gathered_source (block_accesses false p gated sums (sets p small)) small some a k c in
    let y = gathered_part (block_accesses m p gated sums (sets p big)) big all x.0 e (h x.0 x.1) in
    let s : block_accesses m p gated sums (sets p small) x.0 ≡ Some x.2.0 = block_either m p gated sums (sets p small) x.0 x.2.0 x.2.1 in
    let t : Some x.2.0 ≡ Some y.0 = sym s ∙ same_part m p gated sums big small all e h x.0 x.1 ∙ y.1 in
    let u : x.2.0 ≡ y.0 = cc in
    y.2 a (subst (λ (l : RootedList). Contains l a) u x.2.2)

-- ---- a path followed in memory as it is now

placed_by : (o : Result ByteRange PlaceFault) (c : ByteRange) → cell_in o ≡ Some c → o ≡ Ok c
placed_by (Err f) c e = absurd cc
placed_by (Ok r) c e = let q : r ≡ c = cc in ap (λ (z : ByteRange). Ok z) q

-- a path that loads from recorded bounds alone leads to the same pointer
pub same_loads : (xs : List FreeAccess) (before now : ByteRange → ℕ) → KeepsCells xs before now → (ks : List ℕ) (w : ℕ) (at : PathPointers) → followed_from before w ks ≡ Some at
    → ((v : ℕ) → Contains at.pointers v → IsLoaded xs (bounds_of v)) → (f : PathPointers) × (followed_from now w ks ≡ Some f) × (f.last ≡ at.last)
same_loads xs before now keeps [] w at e h = (at, e, refl)
same_loads xs before now keeps (k ∷ ks) w at e h = go (loads_first before w k ks at e) (λ u more q i. same_loads xs before now keeps ks u more q i)
  where
    go : LoadsFirst before w k ks at → ((u : ℕ) (more : PathPointers) → followed_from before u ks ≡ Some more → ((v : ℕ) → Contains more.pointers v → IsLoaded xs (bounds_of v))
        → (f : PathPointers) × (followed_from now u ks ≡ Some f) × (f.last ≡ more.last)) → (f : PathPointers) × (followed_from now w (k ∷ ks) ≡ Some f) × (f.last ≡ at.last)
    go l rest =
        let loaded : IsLoaded xs (bounds_of w) = h w (subst (λ (z : List ℕ). Contains z w) (sym l.pointers) (here w l.more.pointers)) in
        let place : place_of (moved_by w (pos k)) 8 ≡ Ok l.cell = placed_by (place_of (moved_by w (pos k)) 8) l.cell l.is_cell in
        let within : IsWithin l.cell (bounds_of w) = subst (λ (z : ByteRange). IsWithin l.cell z) (bounds_moved w (pos k)) (within_bounds (moved_by w (pos k)) 8 l.cell place) in
        let held : now l.cell ≡ before l.cell = keeps.kept (bounds_of w) l.cell loaded within (some_bytes (moved_by w (pos k)) 8 l.cell (omega arith) place)
        (within_memory (moved_by w (pos k)) 8 l.cell place) in
        let r = rest (before l.cell) l.more l.is_more (λ v c. h v (subst (λ (z : List ℕ). Contains z v) (sym l.pointers) (there w l.more.pointers v c))) in
        let q : followed_from now (now l.cell) ks ≡ Some r.0 = subst (λ (u : ℕ). followed_from now u ks ≡ Some r.0) (sym held) r.1 in
        (record { pointers = w ∷ r.0.pointers; cells = l.cell ∷ r.0.cells; last = r.0.last }, loads_again now w k ks l.cell r.0 l.is_cell q, r.2 ∙ sym l.last)

-- a root that the set doesn't set has the value that it had
root_same : (I : Instance) (a : QuietSet) (f : Frame) → StandsIn I a f → (r : Root) → IsOutside (sets I.program a.blocks) r
    → root_value I.program (registers_by f.registers) r ≡ root_value I.program a.registers r
root_same I a f s (root.Global g) o = refl
root_same I a f s (root.Const n) o = refl
root_same I a f s (root.Register r) o = s.kept r o
root_same I a f s (root.Param k) o = absurd o

-- an access of a part of the set, followed from the frame in memory as it is now, leads to recorded bounds of its kind
pub inner_reached : (I : Instance) (a : QuietSet) (f : Frame) (now : ByteRange → ℕ) (small : List ℕ) (some : RootedList) (x : Rooted) (at : PathPointers) → IsQuietSet I a → StandsIn I a f
    → KeepsCells I.recorded I.memory now → set_accesses false I.program I.gated I.sums small ≡ Some some → ((b : ℕ) → Contains small b → Contains a.blocks b) → Contains some x →
    followed.followed I.program (registers_by f.registers) now x.path ≡ Some at → IsReached I.recorded x.writes (bounds_of at.last)
inner_reached I a f now small some x at q s keeps e h c g =
    let among : Contains a.accesses x = part_among a.returns I.program I.gated I.sums a.blocks small a.accesses some q.quiet e h x c in
    let l : Leads I.program a.registers I.memory I.recorded x = q.leads x among in
    let out = set_outside a.returns I.program I.gated I.sums a.blocks a.accesses q.quiet x among in
    let r = follows_root I.memory (offsets_of x.path.loads) (root_value I.program a.registers x.path.root) l.at l.is in
    let m = same_loads I.recorded I.memory now keeps (offsets_of x.path.loads) r.0 l.at r.2 l.loads in
    let there_is : followed.followed I.program (registers_by f.registers) now x.path ≡ Some m.0 =
    root_follows now (offsets_of x.path.loads) (root_value I.program (registers_by f.registers) x.path.root) r.0 (root_same I a f s x.path.root out ∙ r.1) ∙ m.1 in
    let same : m.0 ≡ at = (let z : Some m.0 ≡ Some at = sym there_is ∙ g in cc) in
    subst (λ (z : ℕ). IsReached I.recorded x.writes (bounds_of z)) (sym m.2 ∙ ap (λ (z : PathPointers). z.last) same) l.last

-- the blocks before a join stand in the function of the branch
pub region_function : (p : NumberedProgram) (gated : ℕ → Bool) (sums : ℕ → Option RootedList) (c : ℕ) (r : Region) → IsProgram p
    → IsJoin p gated sums c r.join r.blocks.items r.accesses.items → (b : ℕ) → Contains r.blocks.items b → Contains (blocks_of p (function_of p c)) b
region_function p gated sums c r program j b m = let w = walk_fits p r.join c b program ((j.before.exact b).0 m) in has_block p (function_of p c) b w.0 w.1
