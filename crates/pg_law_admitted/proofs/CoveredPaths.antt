-- What a path of a quiet set's access loads is read by an access of that set: each shorter path is that of a load.
use Rattle.std.proofs.Common.{◌≡◌, ℕ, ◌+◌, ◌⊎◌, ◌<◌, ◌≤◌, ◌==◌, zero, suc, Bool, true, false, List, [], ◌∷◌, ◌++◌, length, arith, Option, Some}
use Rattle.std.proofs.Common.{None, refl, sym, ap, ◌∙◌, subst, inl, inr}
use Rattle.std.specs.Prelude.{◌||◌, Contains, option_and_then, option_map, slice_get, if◌then◌else◌}
use Rattle.std.proofs.lemmas.Bool.{cases_eq, eq-eqb, ne_eqb, true≢false}
use Rattle.std.proofs.lemmas.List.Elements.{Contains-append_cases, Contains-append_left, Contains-append_right}
use Rattle.pg_ir.specs.declared.instr.Instr.{Instr}
use Rattle.pg_ir.specs.declared.instr.Op.{Op}
use Rattle.pg_ir.specs.declared.instr.Op.TheVariants as op
use Rattle.pg_ir.specs.declared.library_call.LibraryCall.{LibraryCall}
use Rattle.pg_ir.specs.declared.library_call.LibraryCall.TheVariants as known
use Rattle.pg_ir.specs.declared.value.Scalar.{Scalar}
use Rattle.pg_ir.specs.declared.value.Value.{Value}
use Rattle.pg_ir.specs.declared.value.Value.TheVariants as value
use Rattle.pg_ir.specs.Program.{NumberedProgram, first_of, function_of, parameter_count, types_of}
use Rattle.pg_ir.specs.Edges.{instrs_of}
use Rattle.pg_ir.specs.WellFormed.{IsProgram}
use Rattle.pg_region_paths.specs.declared.path.Loads.{Loads}
use Rattle.pg_region_paths.specs.declared.path.Loads.TheVariants.{Never, Once, Twice, Thrice, FourTimes}
use Rattle.pg_region_paths.specs.declared.path.Path.{Path}
use Rattle.pg_region_paths.specs.declared.path.Root.{Root}
use Rattle.pg_region_paths.specs.declared.path.Root.TheVariants as root
use Rattle.pg_region_paths.specs.declared.path.RootPath.{RootPath}
use Rattle.pg_region_paths.specs.Paths.{each_more, loaded, loaded_at, loads_behind, moved_offset, one_more, path_with, root_path_of, root_path_with, rooted}
use Rattle.pg_region_paths.specs.Registers.{has_pointer, is_register, moved, path_by, register_path, value_path}
use Rattle.pg_region_accesses.specs.declared.rooted.Rooted.{Rooted}
use Rattle.pg_region_accesses.specs.Accesses.{RootedList, accesses_from, behind_argument, behind_path, block_accesses, both, called_access, called_accesses, gathered, known_accesses, one_access}
use Rattle.pg_region_accesses.specs.Accesses.{op_accesses, set_accesses, sets, with_path}
use Rattle.pg_region_paths.proofs.Elements.{cases, here, none_in, only_here, there}
use Rattle.pg_law_instances.proofs.QuietCallAccesses.{summary_is}
use Rattle.pg_law_instances.proofs.FramePlaces.{gathered_part}
use Rattle.pg_law_instances.proofs.InnerRegionPaths.{gathered_source}
use Rattle.pg_region_summaries.specs.Blocks.{blocks_of}
use Rattle.pg_region_summaries.specs.Calls.{CallsReach}
use Rattle.pg_region_summaries.specs.Calls as calls
use Rattle.pg_region_summaries.specs.Calls.CallsReach.{direct, further}
use Rattle.pg_region_summaries.specs.Summaries.{AreSummaries, seen, seen_root, with_root}
use Rattle.pg_ir.proofs.BlockParts.{got_in_block}
use Rattle.pg_region_summaries.proofs.InstructionPlaces.{callee_small, in_block}
use Rattle.pg_law_admitted.specs.Covered.{HasLoad, IsCovered, before_last}

-- ---- the loads of a path

pub some_loads : (l m : Loads) → Some l ≡ Some m → l ≡ m
some_loads l m e = cc

last_load : (l : Loads) (k : ℕ) (L : Loads) → one_more l k ≡ Some L → before_last L ≡ Some l
last_load Never k L e = sym (ap before_last (some_loads (Once k) L e))
last_load (Once a) k L e = sym (ap before_last (some_loads (Twice a k) L e))
last_load (Twice a b) k L e = sym (ap before_last (some_loads (Thrice a b k) L e))
last_load (Thrice a b c) k L e = sym (ap before_last (some_loads (FourTimes a b c k) L e))
last_load (FourTimes a b c d) k L e = absurd cc

-- loads appended to others, the last of them apart
each_snoc : (o : Option Loads) (xs : List ℕ) (k : ℕ) (L : Loads) → each_more o (xs ++ k ∷ []) ≡ Some L → (m : Loads) × (each_more o xs ≡ Some m) × (one_more m k ≡ Some L)
each_snoc None [] k L e = absurd cc
each_snoc None (x ∷ xs) k L e = absurd cc
each_snoc (Some l) [] k L e = go (one_more l k) refl e
  where
    go : (o : Option Loads) → one_more l k ≡ o → each_more o [] ≡ Some L → (m : Loads) × (each_more (Some l) [] ≡ Some m) × (one_more m k ≡ Some L)
    go None q h = absurd cc
    go (Some m) q h = (l, refl, q ∙ h)
each_snoc (Some l) (x ∷ xs) k L e = each_snoc (one_more l x) xs k L e

-- what is left of loads behind others, where the last is left out
abbrev Shorter : Loads → Option ℕ → Loads → Loads → Loads → Type 0
Shorter l k l' L l0 = ((l' ≡ Never) × (l ≡ L)) ⊎ ((m : Loads) × (before_last l' ≡ Some m) × (loads_behind l k m ≡ Some l0))

shorter_by : (l : Loads) (xs : List ℕ) (k : ℕ) (L l0 : Loads) → each_more (Some l) (xs ++ k ∷ []) ≡ Some L → before_last L ≡ Some l0 → each_more (Some l) xs ≡ Some l0
shorter_by l xs k L l0 e b =
    let r = each_snoc (Some l) xs k L e in
    r.1 ∙ sym (last_load r.0 k L r.2) ∙ b

shorter : (l : Loads) (k : Option ℕ) (l' L l0 : Loads) → loads_behind l k l' ≡ Some L → before_last L ≡ Some l0 → Shorter l k l' L l0
shorter l k Never L l0 e b = inl (refl, some_loads l L e)
shorter l None (Once a) L l0 e b = absurd cc
shorter l None (Twice x y) L l0 e b = absurd cc
shorter l None (Thrice x y z) L l0 e b = absurd cc
shorter l None (FourTimes x y z w) L l0 e b = absurd cc
shorter l (Some k) (Once a) L l0 e b = inr (Never, refl, shorter_by l [] (moved_offset k a) L l0 e b)
shorter l (Some k) (Twice x y) L l0 e b = inr (Once x, refl, shorter_by l (moved_offset k x ∷ []) y L l0 e b)
shorter l (Some k) (Thrice x y z) L l0 e b = inr (Twice x y, refl, shorter_by l (moved_offset k x ∷ y ∷ []) z L l0 e b)
shorter l (Some k) (FourTimes x y z w) L l0 e b = inr (Thrice x y z, refl, shorter_by l (moved_offset k x ∷ y ∷ z ∷ []) w L l0 e b)

-- ---- the paths of registers

module _ (all : RootedList) (is_set : ℕ → Bool) (types : List Scalar) where
  -- of each register's path the shorter one is that of a load
  abbrev Sound : List Instr → Type 0
  Sound before = (r : ℕ) (q : Path) → register_path is_set types before r ≡ Some q → (l : Loads) → before_last q.loads ≡ Some l → HasLoad all q.root l

  value_sound : (before : List Instr) → Sound before → (v : Value) (q : Path) → value_path (register_path is_set types before) v ≡ Some q → (l : Loads)
      → before_last q.loads ≡ Some l → HasLoad all q.root l
  value_sound before h (value.Register r) q e l b = h r q e l b
  value_sound before h (value.Const n) q e l b = let i : rooted (root.Const n) ≡ q = cc in absurd (none_before (rooted (root.Const n)) q l i refl b)
    where
      none_before : (p q : Path) (l : Loads) → p ≡ q → before_last p.loads ≡ None → before_last q.loads ≡ Some l → ⊥
      none_before p q l i n b = let z : None ≡ Some l = sym n ∙ ap (λ (w : Path). before_last w.loads) i ∙ b in absurd cc
  value_sound before h (value.Global g) q e l b = let i : rooted (root.Global g) ≡ q = cc in absurd (none_before (rooted (root.Global g)) q l i refl b)
    where
      none_before : (p q : Path) (l : Loads) → p ≡ q → before_last p.loads ≡ None → before_last q.loads ≡ Some l → ⊥
      none_before p q l i n b = let z : None ≡ Some l = sym n ∙ ap (λ (w : Path). before_last w.loads) i ∙ b in absurd cc
  value_sound before h (value.Function g) q e l b = absurd cc

  first_sound : Sound []
  first_sound r q e l b = go (is_set r) e
    where
      go : (s : Bool) → (if s then None else Some (rooted (root.Register r))) ≡ Some q → HasLoad all q.root l
      go true h = absurd cc
      go false h = let i : rooted (root.Register r) ≡ q = cc in let z : None ≡ Some l = ap (λ (w : Path). before_last w.loads) i ∙ b in absurd cc

  -- a getelementptr
  gep_sound : (before : List Instr) → Sound before → (o : Option Path) (is : List Rattle.pg_ir.specs.declared.value.Index.Index) (base : Value) (q : Path)
      → value_path (register_path is_set types before) base ≡ o → option_map (moved is) o ≡ Some q → (l : Loads) → before_last q.loads ≡ Some l → HasLoad all q.root l
  gep_sound before h None is base q e m l b = absurd cc
  gep_sound before h (Some p) is base q e m l b =
      let i : moved is p ≡ q = cc in
      subst (λ (z : Path). HasLoad all z.root l) i (value_sound before h base p e l (ap (λ (z : Path). before_last z.loads) i ∙ b))

  -- a load
  load_sound : (p q : Path) (k : Option ℕ) → loaded_at p k ≡ Some q → HasLoad all p.root p.loads → (l : Loads) → before_last q.loads ≡ Some l → HasLoad all q.root l
  load_sound p q None e h l b = absurd cc
  load_sound p q (Some k) e h l b = go (one_more p.loads k) refl e
    where
      go : (o : Option Loads) → one_more p.loads k ≡ o → path_with p.root o ≡ Some q → HasLoad all q.root l
      go None i m = absurd cc
      go (Some L) i m =
          let w : record { root = p.root; loads = L; added = Some 0 } ≡ q = cc in
          let same : p.loads ≡ l = some_loads p.loads l (sym (last_load p.loads k L i) ∙ ap (λ (z : Path). before_last z.loads) w ∙ b) in
          subst (λ (z : Path). HasLoad all z.root l) w (subst (λ (m : Loads). HasLoad all p.root m) same h)

  module _ (m : Bool) (gated : ℕ → Bool) (sums : ℕ → Option RootedList) where
    -- what a load accesses
    loaded_there : (f : ℕ → Option Path) (i : ℕ) (g : Bool) (o : Option Path) (p : Path) (xs : RootedList) → o ≡ Some p → (if g then None else one_access i false o) ≡ Some xs
        → ((a : Rooted) → Contains xs a → Contains all a) → HasLoad all p.root p.loads
    loaded_there f i true o p xs e h sub = absurd cc
    loaded_there f i false None p xs e h sub = absurd cc
    loaded_there f i false (Some r) p xs e h sub =
        let same : r ≡ p = cc in
        let is : record { instr = record { 0 = i }; writes = false; path = root_path_of r } ∷ [] ≡ xs = cc in (
          record { instr = record { 0 = i }; writes = false; path = root_path_of r },
          sub (record { instr = record { 0 = i }; writes = false; path = root_path_of r })
              (subst (λ (l : RootedList). Contains l (record { instr = record { 0 = i }; writes = false; path = root_path_of r })) is
              (here (record { instr = record { 0 = i }; writes = false; path = root_path_of r }) [])),
          refl,
          ap root_path_of same,
        )

    -- behind one more instruction
    path_sound : (before : List Instr) → Sound before → (i : ℕ) (b : Bool) (o : Op) (xs : RootedList) → op_accesses m gated sums (register_path is_set types before) i o ≡ Some xs
        → ((a : Rooted) → Contains xs a → Contains all a) →
        (q : Path) → path_by (register_path is_set types before) b o ≡ Some q → (l : Loads) → before_last q.loads ≡ Some l → HasLoad all q.root l
    path_sound before h i b (op.Gep base is) xs e sub q p l k = gep_sound before h (value_path (register_path is_set types before) base) is base q refl p l k
    path_sound before h i true (op.Load w from) xs e sub q p l k = go (value_path (register_path is_set types before) from) refl p
      where
        go : (o : Option Path) → value_path (register_path is_set types before) from ≡ o → option_and_then loaded o ≡ Some q → HasLoad all q.root l
        go None u v = absurd cc
        go (Some r) u v = load_sound r q r.added v (loaded_there (register_path is_set types before) i (gated i) (value_path (register_path is_set types before) from) r xs u e sub) l k
    path_sound before h i false (op.Load w from) xs e sub q p l k = absurd cc
    path_sound before h i b o xs e sub q p l k = absurd cc

    next_sound : (before : List Instr) → Sound before → (i : ℕ) (x : Instr) (xs : RootedList) → op_accesses m gated sums (register_path is_set types before) i x.op ≡ Some xs
        → ((a : Rooted) → Contains xs a → Contains all a) → Sound (x ∷ before)
    next_sound before h i x xs e sub r q p l b = go (is_register x.result r) p
      where
        go : (c : Bool) → (if c then path_by (register_path is_set types before) (has_pointer types x.result) x.op else register_path is_set types before r) ≡ Some q → HasLoad all q.root l
        go true v = path_sound before h i (has_pointer types x.result) x.op xs e sub q v l b
        go false v = h r q v l b

    -- ---- accesses

    abbrev Reads : RootedList → Type 0
    Reads xs = (a : Rooted) → Contains xs a → (l : Loads) → before_last a.path.loads ≡ Some l → HasLoad all a.path.root l

    -- a load or a store
    access_sound : (before : List Instr) → Sound before → (i : ℕ) (g w : Bool) (v : Value) (o : Option Path) (xs : RootedList) → value_path (register_path is_set types before) v ≡ o
        → (if g then None else one_access i w o) ≡ Some xs → Reads xs
    access_sound before h i true w v o xs u e a c l b = absurd cc
    access_sound before h i false w v None xs u e a c l b = absurd cc
    access_sound before h i false w v (Some p) xs u e a c l b =
        let is : record { instr = record { 0 = i }; writes = w; path = root_path_of p } ∷ [] ≡ xs = cc in
        let same = only_here (record { instr = record { 0 = i }; writes = w; path = root_path_of p }) a (subst (λ (z : RootedList). Contains z a) (sym is) c) in
        subst (λ (z : Rooted). HasLoad all z.path.root l) same (value_sound before h v p u l (ap (λ (z : Rooted). before_last z.path.loads) same ∙ b))

    -- ---- a call

    module _ (before : List Instr) (h : Sound before) (args : List Value) (ys xs : RootedList) (covered : IsCovered ys)
        (is : gathered (λ (a : Rooted). called_access (register_path is_set types before) args a a.path.root) ys ≡ Some xs) (sub : (a : Rooted) → Contains xs a → Contains all a) where
      abbrev F : ℕ → Option Path
      F r = register_path is_set types before r

      -- an access of the callee that is handed on as it is
      handed : (b : Rooted) → Contains ys b → called_access (λ (r : ℕ). register_path is_set types before r) args b b.path.root ≡ Some (b ∷ []) → Contains all b
      handed b c e =
          let part = gathered_part (λ (a : Rooted). called_access (register_path is_set types before) args a a.path.root) ys xs b is c in
          let same : b ∷ [] ≡ part.0 = (let z : Some (b ∷ []) ≡ Some part.0 = sym e ∙ part.1 in cc) in
          sub b (part.2 b (subst (λ (z : RootedList). Contains z b) same (here b [])))

      -- and one behind an argument
      moved_on : (b : Rooted) (n : ℕ) (v : Value) (p : Path) (L : Loads) → Contains ys b → b.path.root ≡ root.Param n → slice_get args n ≡ Some v
          → value_path (register_path is_set types before) v ≡ Some p → loads_behind p.loads p.added b.path.loads ≡ Some L →
          Contains all (record b { path = record { root = p.root; loads = L } })
      moved_on b n v p L c g s u k =
          let part = gathered_part (λ (a : Rooted). called_access (register_path is_set types before) args a a.path.root) ys xs b is c in
          let z : called_access (register_path is_set types before) args b b.path.root ≡ Some (record b { path = record { root = p.root; loads = L } } ∷ []) =
          ap (called_access (register_path is_set types before) args b) g ∙ ap (behind_argument (register_path is_set types before) b) s ∙ ap (behind_path b) u
          ∙ ap (λ (o : Option Loads). with_path b (root_path_with p.root o)) k in
          let same : record b { path = record { root = p.root; loads = L } } ∷ [] ≡ part.0 =
          (let w : Some (record b { path = record { root = p.root; loads = L } } ∷ []) ≡ Some part.0 = sym z ∙ part.1 in cc) in
          sub (record b { path = record { root = p.root; loads = L } })
          (part.2 (record b { path = record { root = p.root; loads = L } })
          (subst (λ (q : RootedList). Contains q (record b { path = record { root = p.root; loads = L } })) same (here (record b { path = record { root = p.root; loads = L } }) [])))

      -- where an access of the call comes from
      from_argument : (a' a : Rooted) (n : ℕ) (zs : RootedList) → Contains ys a' → a'.path.root ≡ root.Param n
          → behind_argument (register_path is_set types before) a' (slice_get args n) ≡ Some zs → Contains zs a → (l : Loads) → before_last a.path.loads ≡ Some l
          → HasLoad all a.path.root l
      from_argument a' a n zs c g e d l b = by_value (slice_get args n) refl e
        where
          by_loads : (v : Value) (p : Path) → slice_get args n ≡ Some v → value_path (register_path is_set types before) v ≡ Some p → (o : Option Loads)
              → loads_behind p.loads p.added a'.path.loads ≡ o → with_path a' (root_path_with p.root o) ≡ Some zs → HasLoad all a.path.root l
          by_loads v p s u None k f = absurd cc
          by_loads v p s u (Some L) k f =
              let w : record a' { path = record { root = p.root; loads = L } } ∷ [] ≡ zs = cc in
              let same = only_here (record a' { path = record { root = p.root; loads = L } }) a (subst (λ (z : RootedList). Contains z a) (sym w) d) in
              let bl : before_last L ≡ Some l = ap (λ (z : Rooted). before_last z.path.loads) same ∙ b in
              subst (λ (z : Rooted). HasLoad all z.path.root l) same (pick (shorter p.loads p.added a'.path.loads L l k bl) bl)
            where
              pick : Shorter p.loads p.added a'.path.loads L l → before_last L ≡ Some l → HasLoad all p.root l
              pick (inl z) bl = value_sound before h v p u l (ap before_last z.1 ∙ bl)
              pick (inr z) bl =
                  let q = covered a' c z.0 z.1 in
                  let root_same : q.0.path.root ≡ root.Param n = ap (λ (r : RootPath). r.root) q.3 ∙ g in (
                    record q.0 { path = record { root = p.root; loads = l } },
                    moved_on q.0 n v p l q.1 root_same s u (ap (λ (r : RootPath). loads_behind p.loads p.added r.loads) q.3 ∙ z.2),
                    q.2,
                    refl,
                  )

          by_path : (v : Value) → slice_get args n ≡ Some v → (o : Option Path) → value_path (register_path is_set types before) v ≡ o → behind_path a' o ≡ Some zs
              → HasLoad all a.path.root l
          by_path v s None u f = absurd cc
          by_path v s (Some p) u f = by_loads v p s u (loads_behind p.loads p.added a'.path.loads) refl f

          by_value : (o : Option Value) → slice_get args n ≡ o → behind_argument (register_path is_set types before) a' o ≡ Some zs → HasLoad all a.path.root l
          by_value None s f = absurd cc
          by_value (Some v) s f = by_path v s (value_path (register_path is_set types before) v) refl f

      from_root : (a' a : Rooted) (g : Root) (zs : RootedList) → Contains ys a' → a'.path.root ≡ g → called_access (register_path is_set types before) args a' g ≡ Some zs
          → Contains zs a → (l : Loads) → before_last a.path.loads ≡ Some l → HasLoad all a.path.root l
      from_root a' a (root.Param n) zs c g e d l b = from_argument a' a n zs c g e d l b
      from_root a' a (root.Register n) zs c g e d l b = absurd cc
      from_root a' a (root.Global n) zs c g e d l b =
          let w : a' ∷ [] ≡ zs = cc in
          let same = only_here a' a (subst (λ (z : RootedList). Contains z a) (sym w) d) in
          let q = covered a' c l (ap (λ (z : Rooted). before_last z.path.loads) same ∙ b) in
          subst (λ (z : Rooted). HasLoad all z.path.root l) same
          (q.0, handed q.0 q.1 (ap (called_access (register_path is_set types before) args q.0) (ap (λ (r : RootPath). r.root) q.3 ∙ g) ∙ refl), q.2, q.3)
      from_root a' a (root.Const n) zs c g e d l b =
          let w : a' ∷ [] ≡ zs = cc in
          let same = only_here a' a (subst (λ (z : RootedList). Contains z a) (sym w) d) in
          let q = covered a' c l (ap (λ (z : Rooted). before_last z.path.loads) same ∙ b) in
          subst (λ (z : Rooted). HasLoad all z.path.root l) same
          (q.0, handed q.0 q.1 (ap (called_access (register_path is_set types before) args q.0) (ap (λ (r : RootPath). r.root) q.3 ∙ g) ∙ refl), q.2, q.3)

      call_sound : Reads xs
      call_sound a c l b =
          let k = gathered_source (λ (a : Rooted). called_access (register_path is_set types before) args a a.path.root) ys xs a is c in
          from_root k.0 a k.0.path.root k.2.0 k.1 refl k.2.1 k.2.2 l b

    known_none : (k : LibraryCall) (xs : RootedList) → known_accesses k ≡ Some xs → Reads xs
    known_none known.PgIn xs e a c l b = let i : [] ≡ xs = cc in absurd (none_in a (subst (λ (z : RootedList). Contains z a) (sym i) c))
    known_none known.PgInLen xs e a c l b = let i : [] ≡ xs = cc in absurd (none_in a (subst (λ (z : RootedList). Contains z a) (sym i) c))
    known_none k xs e a c l b = absurd cc

    nothing : (xs : RootedList) → Some [] ≡ Some xs → Reads xs
    nothing xs e a c l b = let i : [] ≡ xs = cc in absurd (none_in a (subst (λ (z : RootedList). Contains z a) (sym i) c))

    return_none : (r : Bool) (xs : RootedList) → (if r then Some [] else None) ≡ Some xs → Reads xs
    return_none true xs e = nothing xs e
    return_none false xs e = absurd cc

    called_by : (before : List Instr) → Sound before → (args : List Value) (o : Option RootedList) (xs : RootedList) → called_accesses (register_path is_set types before) args o ≡ Some xs
        → ((ys : RootedList) → o ≡ Some ys → IsCovered ys) → ((a : Rooted) → Contains xs a → Contains all a) → Reads xs
    called_by before h args None xs e k sub = absurd cc
    called_by before h args (Some ys) xs e k sub = call_sound before h args ys xs (k ys refl) e sub

    op_sound : (before : List Instr) → Sound before → (i : ℕ) (o : Op) (xs : RootedList) → op_accesses m gated sums (register_path is_set types before) i o ≡ Some xs
        → ((g : ℕ) (args : List Value) → o ≡ op.Call g args → (ys : RootedList) → sums g ≡ Some ys → IsCovered ys) → ((a : Rooted) → Contains xs a → Contains all a) → Reads xs
    op_sound before h i (op.Load w from) xs e k sub = access_sound before h i (gated i) false from (value_path (register_path is_set types before) from) xs refl e
    op_sound before h i (op.Store w v at) xs e k sub = access_sound before h i (gated i) true at (value_path (register_path is_set types before) at) xs refl e
    op_sound before h i (op.Call g args) xs e k sub = called_by before h args (sums g) xs e (λ ys q. k g args refl ys q) sub
    op_sound before h i (op.CallLibrary c args) xs e k sub = known_none c xs e
    op_sound before h i (op.Alloca n) xs e k sub = absurd cc
    op_sound before h i (op.Ret v) xs e k sub = return_none m xs e
    op_sound before h i o xs e k sub = nothing xs e

    both_parts : (o r : Option RootedList) (zs : RootedList) → both o r ≡ Some zs → (xs : RootedList) × (ys : RootedList) × (o ≡ Some xs) × (r ≡ Some ys) × (xs ++ ys ≡ zs)
    both_parts None r zs e = absurd cc
    both_parts (Some xs) None zs e = absurd cc
    both_parts (Some xs) (Some ys) zs e = (xs, ys, refl, refl, cc)

    block_sound : (before : List Instr) → Sound before → (i : ℕ) (is : List Instr) (zs : RootedList) → accesses_from m gated sums is_set types before i is ≡ Some zs
        → ((x : Instr) → Contains is x → (g : ℕ) (args : List Value) → x.op ≡ op.Call g args → (ys : RootedList) → sums g ≡ Some ys → IsCovered ys)
        → ((a : Rooted) → Contains zs a → Contains all a) → Reads zs
    block_sound before h i [] zs e k sub a c l b = nothing zs e a c l b
    block_sound before h i (x ∷ is) zs e k sub a c l b =
        let q = both_parts (op_accesses m gated sums (register_path is_set types before) i x.op) (accesses_from m gated sums is_set types (x ∷ before) (i + 1) is) zs e in
        let left : (a : Rooted) → Contains q.0 a → Contains all a = λ a d. sub a (subst (λ (z : RootedList). Contains z a) q.4 (Contains-append_left q.0 q.1 a d)) in
        let right : (a : Rooted) → Contains q.1 a → Contains all a = λ a d. sub a (subst (λ (z : RootedList). Contains z a) q.4 (Contains-append_right q.0 q.1 a d)) in
        go q.0 q.1 (op_sound before h i x.op q.0 q.2 (λ g args. k x (here x is) g args) left)
        (block_sound (x ∷ before) (next_sound before h i x q.0 q.2 left) (i + 1) is q.1 q.3 (λ y d. k y (there x is y d)) right)
        (Contains-append_cases q.0 q.1 a (subst (λ (z : RootedList). Contains z a) (sym q.4) c))
      where
        go : (xs ys : RootedList) → Reads xs → Reads ys → Contains xs a ⊎ Contains ys a → HasLoad all a.path.root l
        go xs ys f g (inl d) = f a d l b
        go xs ys f g (inr d) = g a d l b

-- ---- a set of blocks

contains_get : {A : Type 0} (xs : List A) (x : A) → Contains xs x → (k : ℕ) × (slice_get xs k ≡ Some x)
contains_get [] x c = absurd (none_in x c)
contains_get {A} (y ∷ xs) x c = go (cases y xs x c) (λ d. contains_get xs x d)
  where
    go : (y ≡ x) ⊎ Contains xs x → (Contains xs x → (k : ℕ) × (slice_get xs k ≡ Some x)) → (k : ℕ) × (slice_get (y ∷ xs) k ≡ Some x)
    go (inl e) more = (0, ap (λ (z : A). Some z) e)
    go (inr d) more = let r = more d in (suc r.0, r.1)

some_list : (xs ys : RootedList) → Some xs ≡ Some ys → xs ≡ ys
some_list xs ys e = cc

set_covered : (m : Bool) (p : NumberedProgram) (gated : ℕ → Bool) (sums : ℕ → Option RootedList) (blocks : List ℕ) (all : RootedList) → set_accesses m p gated sums blocks ≡ Some all →
    ((b : ℕ) → Contains blocks b → (x : Instr) → Contains (instrs_of p b) x → (g : ℕ) (args : List Value) → x.op ≡ op.Call g args → (ys : RootedList) → sums g ≡ Some ys
    → IsCovered ys) → IsCovered all
unfolding block_accesses
set_covered m p gated sums blocks all e k a c l b =
    let s = gathered_source (block_accesses m p gated sums (sets p blocks)) blocks all a e c in
    let q = gathered_part (block_accesses m p gated sums (sets p blocks)) blocks all s.0 e s.1 in
    block_sound all (sets p blocks) (types_of p (function_of p s.0)) m gated sums [] (first_sound all (sets p blocks) (types_of p (function_of p s.0))) (first_of p s.0) (instrs_of p s.0) q.0 q.1
    (λ x d. k s.0 s.1 x d) q.2 a
    (subst (λ (z : RootedList). Contains z a) (some_list s.2.0 q.0 (sym s.2.1 ∙ q.1)) s.2.2) l b

-- ---- what callers see

seen_covered : (n : ℕ) (ys called : RootedList) → seen n ys ≡ Some called → IsCovered ys → IsCovered called
seen_covered n ys called e covered a c l b = go s.2.0 s.2.1 s.2.2 (seen_root n s.0.path.root) refl
  where
    s : (x : Rooted) × Contains ys x × ((zs : RootedList) × (with_root x (seen_root n x.path.root) ≡ Some zs) × Contains zs a)
    s = gathered_source (λ (x : Rooted). with_root x (seen_root n x.path.root)) ys called a e c

    go : (zs : RootedList) → with_root s.0 (seen_root n s.0.path.root) ≡ Some zs → Contains zs a → (o : Option Root) → seen_root n s.0.path.root ≡ o → HasLoad called a.path.root l
    go zs f d None o = absurd (none_here zs (sym (ap (with_root s.0) o) ∙ f))
      where
        none_here : (zs : RootedList) → None ≡ Some zs → ⊥
        none_here zs h = absurd cc
    go zs f d (Some g) o =
        let is : record s.0 { path = record { root = g; loads = s.0.path.loads } } ∷ [] ≡ zs = some_list _ zs (sym (ap (with_root s.0) o) ∙ f) in
        let same = only_here (record s.0 { path = record { root = g; loads = s.0.path.loads } }) a (subst (λ (z : RootedList). Contains z a) (sym is) d) in
        let r = covered s.0 s.1 l (ap (λ (z : Rooted). before_last z.path.loads) same ∙ b) in
        let part = gathered_part (λ (x : Rooted). with_root x (seen_root n x.path.root)) ys called r.0 e r.1 in
        let there_is : record r.0 { path = record { root = g; loads = r.0.path.loads } } ∷ [] ≡ part.0 =
        some_list _ part.0 (sym (ap (with_root r.0) (ap (λ (q : RootPath). seen_root n q.root) r.3 ∙ o)) ∙ part.1) in
        subst (λ (z : Rooted). HasLoad called z.path.root l) same (
          record r.0 { path = record { root = g; loads = r.0.path.loads } },
          part.2 (record r.0 { path = record { root = g; loads = r.0.path.loads } })
              (subst (λ (z : RootedList). Contains z (record r.0 { path = record { root = g; loads = r.0.path.loads } })) there_is
              (here (record r.0 { path = record { root = g; loads = r.0.path.loads } }) [])),
          r.2,
          ap (λ (q : RootPath). record { root = g; loads = q.loads }) r.3,
        )

-- ---- functions, the callees first

-- how many numbers below n aren't marked
count : (ℕ → Bool) → ℕ → ℕ
count s zero = 0
count s (suc n) = (if s n then 0 else 1) + count s n

abbrev marked : ℕ → (ℕ → Bool) → ℕ → Bool
marked f s i = (i == f) || s i

no_mark : (f : ℕ) (s : ℕ → Bool) (k : ℕ) → (k ≡ f → ⊥) → marked f s k ≡ s k
no_mark f s k h = ap (λ (b : Bool). b || s k) (ne_eqb k f h)

count_same : (f : ℕ) (s : ℕ → Bool) (n : ℕ) → n ≤ f → count (marked f s) n ≡ count s n
unfolding count
count_same f s zero h = refl
count_same f s (suc n) h =
    ap (λ (b : Bool). (if b then 0 else 1) + count (marked f s) n) (no_mark f s n (λ e. absurd (omega (arith, e, h))))
    ∙ ap (λ (k : ℕ). (if s n then 0 else 1) + k) (count_same f s n (omega (arith, h)))

count_less : (f : ℕ) (s : ℕ → Bool) (n : ℕ) → f < n → s f ≡ false → suc (count (marked f s) n) ≡ count s n
unfolding count
count_less f s zero h e = absurd (omega (arith, h))
count_less f s (suc n) h e = go (cases_eq n f) (λ k. count_less f s n k e)
  where
    go : (n ≡ f) ⊎ (n ≡ f → ⊥) → (f < n → suc (count (marked f s) n) ≡ count s n)
        → suc ((if marked f s n then 0 else 1) + count (marked f s) n) ≡ (if s n then 0 else 1) + count s n
    go (inl q) more =
        let a : marked f s n ≡ true = ap (λ (b : Bool). b || s n) (eq-eqb n f q) in
        let b : s n ≡ false = ap s q ∙ e in
        let c = count_same f s n (omega (arith, q)) in
        rw (a, b) (omega (arith, c))
    go (inr q) more =
        let a : marked f s n ≡ s n = no_mark f s n q in
        let c = more (omega (arith, h, q)) in
        rw a (omega (arith, c))

call_of : (g : ℕ) (args : List Value) (o : Op) → o ≡ op.Call g args → calls.IsCallOf g o
call_of g args o e = subst (calls.IsCallOf g) (sym e) refl

module _ (p : NumberedProgram) (gated : ℕ → Bool) (sums : ℕ → Option RootedList) (program : IsProgram p) (summaries : AreSummaries p gated sums) where
  -- a summary is covered; the functions that are marked reach it
  function_covered : (n : ℕ) (s : ℕ → Bool) → count s (length p.functions) ≤ n → (f : ℕ) → f < length p.functions → (xs : RootedList) → sums f ≡ Some xs
      → ((h : ℕ) → s h ≡ true → CallsReach p h f) → IsCovered xs
  function_covered zero s c f lt xs e reach = by (s f) refl
    where
      by : (b : Bool) → s f ≡ b → IsCovered xs
      by true h = absurd ((summaries.others f xs lt e).ends f (inl refl) (reach f h))
      by false h = absurd (let k = count_less f s (length p.functions) lt h in omega (arith, c, k))
  function_covered (suc n) s c f lt xs e reach = by (s f) refl (λ s2 c2 g lt2 zs z reach2. function_covered n s2 c2 g lt2 zs z reach2)
    where
      inside : (b : ℕ) → Contains (blocks_of p f) b → (x : Instr) → Contains (instrs_of p b) x → (g : ℕ) (args : List Value) → x.op ≡ op.Call g args → calls.Calls p f g
      inside b d x i g args o =
          let k = contains_get (instrs_of p b) x i in
          let at = in_block p f b k.0 x program d k.1 in
          record { at = first_of p b + k.0; instr = x; is = at.0; within = at.1; call = call_of g args x.op o }

      further_on : (g : ℕ) → calls.Calls p f g → (h : ℕ) → marked f s h ≡ true → CallsReach p h g
      further_on g call h m = go (cases_eq h f)
        where
          go : (h ≡ f) ⊎ (h ≡ f → ⊥) → CallsReach p h g
          go (inl q) = subst (λ (i : ℕ). CallsReach p i g) (sym q) (direct call)
          go (inr q) = further (reach h (sym (no_mark f s h q) ∙ m)) call

      by : (b : Bool) → s f ≡ b → ((s2 : ℕ → Bool) → count s2 (length p.functions) ≤ n → (g : ℕ) → g < length p.functions → (zs : RootedList) → sums g ≡ Some zs
          → ((h : ℕ) → s2 h ≡ true → CallsReach p h g) → IsCovered zs) → IsCovered xs
      by true h more = absurd ((summaries.others f xs lt e).ends f (inl refl) (reach f h))
      by false h more =
          let q = summary_is p gated sums f xs summaries lt e in
          let k = count_less f s (length p.functions) lt h in
          seen_covered (parameter_count p f) q.0 xs q.2 (set_covered true p gated sums (blocks_of p f) q.0 q.1
          (λ b d x i g args o zs z. let call = inside b d x i g args o in more (marked f s) (omega (arith, c, k)) g (callee_small p f g program call) zs z (λ v w. further_on g call v w)))

  -- a quiet set is covered
  pub quiet_covered : (m : Bool) (blocks : List ℕ) (all : RootedList) → set_accesses m p gated sums blocks ≡ Some all → IsCovered all
  quiet_covered m blocks all e = set_covered m p gated sums blocks all e (λ b d x i g args o zs z.
      let k = contains_get (instrs_of p b) x i in
      let at = got_in_block p b k.0 x program k.1 in
      let call : calls.Calls p (function_of p x.block.0) g = record { at = first_of p b + k.0; instr = x; is = at.0; within = refl; call = call_of g args x.op o } in
      function_covered (count (λ i. false) (length p.functions)) (λ i. false) (omega arith) g (callee_small p (function_of p x.block.0) g program call) zs z (λ h w. absurd (true≢false (sym w))))
