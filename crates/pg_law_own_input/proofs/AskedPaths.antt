-- What a freeable branch step asks of its region's paths is given.
use Rattle.std.proofs.Common.{◌≡◌, ℕ, ℤ, Bool, true, false, List, [], ◌∷◌, Option, Some, None, Result, Ok, Err, refl, sym, ap, ◌∙◌, subst, pos}
use Rattle.std.specs.Prelude.{nat_lt, option_and_then, if◌then◌else◌}
use Rattle.std.specs.List.{AllByRecursion as AllOf, list_any}
use Rattle.pg_num.specs.Places.{ByteRange}
use Rattle.pg_num.specs.Pointers.{byte_place, moved_by, place_of}
use Rattle.pg_num.specs.declared.layout.TheConstants.{MEMORY_BYTES}
use Rattle.pg_num.specs.declared.places.PlaceFault.{PlaceFault}
use Rattle.pg_num.proofs.Moves.{length-moved_by, start-moved_by}
use Rattle.pg_ir.specs.declared.instr.Instr.{Instr}
use Rattle.pg_ir.specs.declared.value.Value.TheVariants as value
use Rattle.pg_ir.specs.Program.{NumberedProgram}
use Rattle.pg_run_memory.specs.Bytes.{number_of}
use Rattle.pg_precondition.specs.Values.{with_one}
use Rattle.pg_region_paths.specs.declared.path.Root.{Root}
use Rattle.pg_region_paths.specs.declared.path.Root.TheVariants as root
use Rattle.pg_region_paths.specs.FollowedPaths.{PathPointers, behind, cell_at, cell_in, followed, followed_from, root_value}
use Rattle.pg_region_paths.specs.Paths.{offsets_of}
use Rattle.pg_run.proofs.ActionPlaces.{place_is}
use Rattle.pg_slice_rules.specs.Freeable.{BranchRegion, FreeAccess, FreeRegion, RegionAccess, Regions, accesses_at, if_apart, one_access, region_at, registers_by, stores_on}
use Rattle.pg_slice_rules.specs.Known.{Seen, is_branch, region_of}
use Rattle.pg_slice_rules.specs.Moments.{Moment, number_in, registers_in}
use Rattle.pg_slice_rules.specs.Rules.{free_access_needs, moved_symbolic, path_needs, region_needs_in, registers_before, root_symbolic}
use Rattle.pg_slice_rules.specs.SymbolicValues.{Symbolic, Known, Bounded, Unknown, loaded}
use Rattle.pg_law_plan.specs.Likes.{AreLike, HasBoundsOf, IsLike}
use Rattle.pg_law_plan.proofs.AccessFits.{loaded_like}
use Rattle.pg_law_plan.proofs.LikeOperands.{operand_like, valued_like}
use Rattle.pg_law_own_input.proofs.AskedValues.{IsGiven, each_given}
use Rattle.pg_law_plan.proofs.LoadFits.{in_memory}

-- a cell that is read is a place
placed : (word k : ℕ) (cell : ByteRange) → cell_at word k ≡ Some cell → place_of (moved_by word (pos k)) 8 ≡ Ok cell
placed word k cell e = go (place_of (moved_by word (pos k)) 8) refl e
  where
    go : (o : Result ByteRange PlaceFault) → place_of (moved_by word (pos k)) 8 ≡ o → cell_in o ≡ Some cell → place_of (moved_by word (pos k)) 8 ≡ Ok cell
    go (Err fault) q e = absurd cc
    go (Ok r) q e = let same : r ≡ cell = cc in q ∙ ap (λ (z : ByteRange). Ok z) same

-- ---- the regions of a moment

IsFollowed : NumberedProgram → Moment → FreeAccess → Type 0
IsFollowed p m a = followed p (registers_by (registers_in m.calls)) (number_in m) a.path ≡ Some a.at

accesses_follow : (p : NumberedProgram) (m : Moment) (rest : List RegionAccess) (xs : List FreeAccess) → accesses_at p m rest ≡ Some xs → AllOf (IsFollowed p m) xs
unfolding IsFollowed
accesses_follow p m [] xs e = let q : [] ≡ xs = cc in subst (AllOf (IsFollowed p m)) q tt
accesses_follow p m (a ∷ rest) xs e = go (followed p (registers_by (registers_in m.calls)) (number_in m) a.path) refl (accesses_at p m rest) refl e (λ ys q. accesses_follow p m rest ys q)
  where
    go : (f : Option PathPointers) → followed p (registers_by (registers_in m.calls)) (number_in m) a.path ≡ f → (o : Option (List FreeAccess)) → accesses_at p m rest ≡ o
        → one_access a f o ≡ Some xs →
        ((ys : List FreeAccess) → accesses_at p m rest ≡ Some ys → AllOf (IsFollowed p m) ys) → AllOf (IsFollowed p m) xs
    go None q o r e more = absurd cc
    go (Some f) q None r e more = absurd cc
    go (Some f) q (Some ys) r e more =
        let same : record { writes = a.writes; path = a.path; at = f } ∷ ys ≡ xs = cc in
        subst (AllOf (IsFollowed p m)) same (q, more ys r)

apart_follow : (p : NumberedProgram) (m : Moment) (r : BranchRegion) (q : FreeRegion) → if_apart r (accesses_at p m r.accesses) ≡ Some q → AllOf (IsFollowed p m) q.accesses
apart_follow p m r q e = go (accesses_at p m r.accesses) refl e
  where
    chosen : (b : Bool) (xs : List FreeAccess) → Path (Option FreeRegion) (if b then None else Some (record { join = r.join; sets = r.sets; accesses = xs })) (Some q) → xs ≡ q.accesses
    chosen true xs e = absurd cc
    chosen false xs e = let same : Path FreeRegion (record { join = r.join; sets = r.sets; accesses = xs }) q = cc in ap (λ (z : FreeRegion). z.accesses) same

    go : (o : Option (List FreeAccess)) → accesses_at p m r.accesses ≡ o → if_apart r o ≡ Some q → AllOf (IsFollowed p m) q.accesses
    go None h e = absurd cc
    go (Some xs) h e = subst (AllOf (IsFollowed p m)) (chosen (list_any (stores_on xs) xs) xs e) (accesses_follow p m r.accesses xs h)

-- each access of a free region is followed from its moment
region_follows : (p : NumberedProgram) (regions : Regions) (m : Moment) (o : Option Instr) (q : FreeRegion) → region_of p regions m o ≡ Some q → AllOf (IsFollowed p m) q.accesses
region_follows p regions m None q e = absurd cc
region_follows p regions m (Some i) q e = go (is_branch m.did.did.kind) (regions i.block.0) e
  where
    go : (b : Bool) (r : Option BranchRegion) → Path (Option FreeRegion) (if b then region_at p m r else None) (Some q) → AllOf (IsFollowed p m) q.accesses
    go false r e = absurd cc
    go true None e = absurd cc
    go true (Some r) e = apart_follow p m r q e

-- ---- along a path

module _ (input : List ℤ) where
  still_bounded : (k word : ℕ) (o : Option ℕ) → HasBoundsOf o (Some word) → HasBoundsOf o (Some (moved_by word (pos k)))
  still_bounded k word None h = absurd h
  still_bounded k word (Some w) h = record { start = start-moved_by word (pos k) ∙ h.start; length = length-moved_by word (pos k) ∙ h.length }

  moved_given : (k : ℕ) (s : Symbolic) (word : ℕ) → IsLike input s (Some word) → IsLike input (moved_symbolic k s) (Some (moved_by word (pos k)))
  moved_given k (Known f g) word h = (ap (λ (o : Option ℕ). with_one o (λ w. Some (moved_by w (pos k)))) h.0, still_bounded k word (g input) h.1)
  moved_given k (Bounded f x) word h = still_bounded k word (f input) h
  moved_given k (Unknown x) word h = tt

  module _ (bytes : ℕ → Symbolic) (m : ℕ → ℕ) (cells : (c : ℕ) → nat_lt c MEMORY_BYTES ≡ true → IsLike input (bytes c) (Some (m c))) where
    cell_given : (word k : ℕ) (cell : ByteRange) → cell_at word k ≡ Some cell → IsLike input (loaded bytes cell.start 8) (Some (number_of m cell.start cell.bytes))
    cell_given word k cell e =
        let w = moved_by word (pos k) in
        let q = placed word k cell e in
        subst (λ (r : ByteRange). IsLike input (loaded bytes r.start 8) (Some (number_of m r.start r.bytes))) (place_is w 8 cell q)
        (loaded_like input bytes m (byte_place w) 8 (λ c i. cells c (in_memory w 8 cell c q i)))

    abbrev memory : ByteRange → ℕ
    memory r = number_of m r.start r.bytes

    path_given : (offsets : List ℕ) (word : ℕ) (s : Symbolic) (at : PathPointers) → IsLike input s (Some word)
        → followed_from (λ (r : ByteRange). number_of m r.start r.bytes) word offsets ≡ Some at →
        AllOf (IsGiven input) (path_needs bytes s offsets at.pointers at.cells at.last)
    path_given [] word s at h e =
        let q : record { pointers = []; cells = []; last = word } ≡ at = cc in
        subst (λ (a : PathPointers). AllOf (IsGiven input) (path_needs bytes s [] a.pointers a.cells a.last)) q ((word, h, refl), tt)
    path_given (k ∷ ks) word s at h e = go (cell_at word k) refl e (λ cell f r. path_given ks (number_of m cell.start cell.bytes) (loaded bytes cell.start 8) f r)
      where
        go : (o : Option ByteRange) → cell_at word k ≡ o → option_and_then
            (λ cell. behind word cell (followed_from (λ (r : ByteRange). number_of m r.start r.bytes) (number_of m cell.start cell.bytes) ks)) o ≡ Some at →
            ((cell : ByteRange) (f : PathPointers) → IsLike input (loaded bytes cell.start 8) (Some (number_of m cell.start cell.bytes))
            → followed_from (λ (r : ByteRange). number_of m r.start r.bytes) (number_of m cell.start cell.bytes) ks ≡ Some f →
            AllOf (IsGiven input) (path_needs bytes (loaded bytes cell.start 8) ks f.pointers f.cells f.last)) → AllOf (IsGiven input) (path_needs bytes s (k ∷ ks) at.pointers at.cells at.last)
        go None q e more = absurd cc
        go (Some cell) q e more = on (followed_from (λ (r : ByteRange). number_of m r.start r.bytes) (number_of m cell.start cell.bytes) ks) refl e
          where
            on : (f : Option PathPointers) → followed_from (λ (r : ByteRange). number_of m r.start r.bytes) (number_of m cell.start cell.bytes) ks ≡ f → behind word cell f ≡ Some at
                → AllOf (IsGiven input) (path_needs bytes s (k ∷ ks) at.pointers at.cells at.last)
            on None r e = absurd cc
            on (Some f) r e =
                let same : record { pointers = word ∷ f.pointers; cells = cell ∷ f.cells; last = f.last } ≡ at = cc in
                subst (λ (a : PathPointers). AllOf (IsGiven input) (path_needs bytes s (k ∷ ks) a.pointers a.cells a.last)) same (
                  (moved_by word (pos k), moved_given k s word h, (Rattle.std.proofs.lemmas.Bool.eq-eqb (moved_by word (pos k)) (moved_by word (pos k)) refl, tt)),
                  more cell f (cell_given word k cell q) r,
                )

  module _ (p : NumberedProgram) (ks : List Symbolic) (rs : List (Option ℕ)) (alike : AreLike input ks rs) where
    root_given : (r : Root) (word : ℕ) → root_value p (registers_by rs) r ≡ Some word → IsLike input (root_symbolic p ks r) (Some word)
    root_given (root.Register r) word e = subst (λ (o : Option ℕ). IsLike input (root_symbolic p ks (root.Register r)) o) e (operand_like input p ks rs alike (value.Register r))
    root_given (root.Global g) word e = valued_like input (λ i. root_value p (λ k. None) (root.Global g)) (Some word) (sym e)
    root_given (root.Const n) word e = valued_like input (λ i. root_value p (λ k. None) (root.Const n)) (Some word) (sym e)
    root_given (root.Param k) word e = absurd cc

  -- ---- a step

  module _ (p : NumberedProgram) (x : Seen) (alike : AreLike input (registers_before x) (registers_in x.moment.calls))
      (cells : (c : ℕ) → nat_lt c MEMORY_BYTES ≡ true → IsLike input (x.before.bytes c) (Some (x.moment.bytes c))) where
    access_follows : (a : FreeAccess) → IsFollowed p x.moment a → AllOf (IsGiven input) (free_access_needs p x a)
    unfolding IsFollowed
    access_follows a e = go (root_value p (registers_by (registers_in x.moment.calls)) a.path.root) refl e
      where
        go : (o : Option ℕ) → root_value p (registers_by (registers_in x.moment.calls)) a.path.root ≡ o
            → option_and_then (λ word. followed_from (number_in x.moment) word (offsets_of a.path.loads)) o ≡ Some a.at → AllOf (IsGiven input) (free_access_needs p x a)
        go None q e = absurd cc
        go (Some word) q e = path_given x.before.bytes x.moment.bytes cells (offsets_of a.path.loads) word (root_symbolic p (registers_before x) a.path.root) a.at
            (root_given p (registers_before x) (registers_in x.moment.calls) alike a.path.root word q) e

    each_access : (xs : List FreeAccess) → AllOf (IsFollowed p x.moment) xs → AllOf (λ (a : FreeAccess). AllOf (IsGiven input) (free_access_needs p x a)) xs
    each_access [] h = tt
    each_access (a ∷ xs) h = (access_follows a h.0, each_access xs h.1)

    pub region_given : (regions : Regions) (o : Option Instr) → x.region ≡ region_of p regions x.moment o → AllOf (IsGiven input) (region_needs_in p x x.region)
    region_given regions o e = go x.region refl
      where
        go : (z : Option FreeRegion) → x.region ≡ z → AllOf (IsGiven input) (region_needs_in p x z)
        go None q = tt
        go (Some r) q = each_given input (free_access_needs p x) r.accesses (each_access r.accesses (region_follows p regions x.moment o r (sym e ∙ q)))
