-- The numbers that have paths: roots, what a getelementptr moves, and what a load reads.
use Rattle.std.proofs.Common.{◌≡◌, ℕ, ◌+◌, ◌*◌, ◌≤◌, ◌<◌, zero, suc, List, [], ◌∷◌, ◌++◌, Option, Some, None, Result, Ok, Err, pos, refl, sym, ap}
use Rattle.std.proofs.Common.{◌∙◌, subst, arith}
use Rattle.std.specs.Prelude.{option_and_then, slice_get, IfOk, map}
use Rattle.pg_num.specs.Places.{ByteRange}
use Rattle.pg_num.specs.Pointers.{moved_by, place_of, pointer_of, byte_place}
use Rattle.pg_num.specs.declared.layout.TheConstants.{MEMORY_BYTES}
use Rattle.pg_num.specs.declared.places.PlaceFault.{PlaceFault}
use Rattle.pg_num.proofs.Accesses.{place_of-start, place_of-in_bounds, place_of-bytes}
use Rattle.std.proofs.lemmas.Bool.Decides.{nat_tests}
use Rattle.pg_ir.specs.declared.value.Value.{Value}
use Rattle.pg_ir.specs.declared.value.Value.TheVariants as value
use Rattle.pg_ir.specs.declared.value.Index.{Index}
use Rattle.pg_ir.specs.declared.value.Scale.{Scale}
use Rattle.pg_ir.specs.declared.value.Scale.TheVariants.{Times, Field}
use Rattle.pg_ir.specs.Program.{NumberedProgram}
use Rattle.pg_region_paths.specs.Registers.{constant_bytes, added_index, added_indices}
use Rattle.pg_region_paths.specs.FollowedPaths as followed
use Rattle.pg_region_paths.specs.FollowedPaths.{PathPointers, followed_from, cell_at, cell_in, root_value}
use Rattle.pg_run_thread.specs.Operands.{operand, number_at, optional_operand, given}
use Rattle.pg_run_thread.specs.Compute.{index_bytes, moved_along}
use Rattle.pg_slice_replay.specs.pg_slice_rules.Freeable.{bounds_of}
use Rattle.pg_law_instances.specs.Leads.{IsWithin, IsMoved}
use Rattle.pg_law_instances.proofs.PointerMoves.{bounds_moved, moved_moved}

-- ---- places

pub within_memory : (w n : ℕ) (r : ByteRange) → place_of w n ≡ Ok r → r.start + r.bytes ≤ MEMORY_BYTES
within_memory w n r e = go (place_of w n) e (bound w n)
  where
    bound : (w n : ℕ) → IfOk (place_of w n) (λ r. r.start + r.bytes ≤ MEMORY_BYTES)
    bound w n = grind (arith, nat_tests)

    go : (o : Result ByteRange PlaceFault) → o ≡ Ok r → IfOk o (λ r. r.start + r.bytes ≤ MEMORY_BYTES) → r.start + r.bytes ≤ MEMORY_BYTES
    go (Ok s) e h = let q : s ≡ r = cc in subst (λ (z : ByteRange). z.start + z.bytes ≤ MEMORY_BYTES) q h
    go (Err f) e h = absurd cc

pub within_bounds : (w n : ℕ) (r : ByteRange) → place_of w n ≡ Ok r → IsWithin r (bounds_of w)
within_bounds w n r e = go (place_of w n) e (place_of-start w n) (place_of-in_bounds w n)
  where
    go : (o : Result ByteRange PlaceFault) → o ≡ Ok r → IfOk o (λ r. r.start ≡ 8 * (pointer_of w).start + (pointer_of w).offset)
        → IfOk o (λ r. r.start + r.bytes ≤ 8 * (pointer_of w).start + (pointer_of w).length) → IsWithin r (bounds_of w)
    go (Ok s) e h k = let q : s ≡ r = cc in subst (λ (z : ByteRange). IsWithin z (bounds_of w)) q (record { from = omega (arith, h); end = k })
    go (Err f) e h k = absurd cc

pub some_bytes : (w n : ℕ) (r : ByteRange) → 0 < n → place_of w n ≡ Ok r → 0 < r.bytes
some_bytes w n r lt e = go (place_of w n) e (place_of-bytes w n)
  where
    go : (o : Result ByteRange PlaceFault) → o ≡ Ok r → IfOk o (λ r. r.bytes ≡ n) → 0 < r.bytes
    go (Ok s) e h = let q : s ≡ r = cc in subst (λ (z : ByteRange). 0 < z.bytes) q (omega (arith, h, lt))
    go (Err f) e h = absurd cc

pub first_byte : (w n : ℕ) (r : ByteRange) → place_of w n ≡ Ok r → r.start ≡ byte_place w
first_byte w n r e = go (place_of w n) e (place_of-start w n)
  where
    go : (o : Result ByteRange PlaceFault) → o ≡ Ok r → IfOk o (λ r. r.start ≡ 8 * (pointer_of w).start + (pointer_of w).offset) → r.start ≡ byte_place w
    go (Ok s) e h = let q : s ≡ r = cc in subst (λ (z : ByteRange). z.start ≡ byte_place w) q h
    go (Err f) e h = absurd cc

-- ---- pointers that were moved

pub same_bounds : (last : ℕ) (added : Option ℕ) (w : ℕ) → IsMoved last added w → bounds_of w ≡ bounds_of last
same_bounds last None w h = h
same_bounds last (Some k) w h = ap bounds_of h ∙ bounds_moved last (pos k)

bytes_same : (i : Index) (s : Scale) (n : ℕ) → index_bytes i s n ≡ constant_bytes i.width s n
bytes_same i (Times bytes) n = refl
bytes_same i (Field bytes) n = refl

one_index : (last : ℕ) (added : Option ℕ) (w n : ℕ) (i : Index) (v : Value) → IsMoved last added w → ((c : ℕ) → v ≡ value.Const c → n ≡ c)
    → IsMoved last (added_index added i.width i.scale v) (moved_by w (index_bytes i i.scale n))
one_index last None w n i v h k = bounds_moved w (index_bytes i i.scale n) ∙ h
one_index last (Some j) w n i (value.Const c) h k =
    let e : n ≡ c = k c refl in
    ap (λ (z : ℕ). moved_by z (index_bytes i i.scale n)) h
    ∙ ap (λ (z : ℕ). moved_by (moved_by last (pos j)) (index_bytes i i.scale z)) e
    ∙ ap (moved_by (moved_by last (pos j))) (bytes_same i i.scale c)
    ∙ moved_moved last j (constant_bytes i.width i.scale c)
one_index last (Some j) w n i (value.Register r) h k = bounds_moved w (index_bytes i i.scale n) ∙ same_bounds last (Some j) w h
one_index last (Some j) w n i (value.Global r) h k = bounds_moved w (index_bytes i i.scale n) ∙ same_bounds last (Some j) w h
one_index last (Some j) w n i (value.Function r) h k = bounds_moved w (index_bytes i i.scale n) ∙ same_bounds last (Some j) w h

constant_at : (p : NumberedProgram) (rs : List (Option ℕ)) (vs : List Value) (k : ℕ) (v : Value) → slice_get vs k ≡ Some v → (c : ℕ) → v ≡ value.Const c → number_at p rs vs k ≡ c
constant_at p rs vs k v e c q = ap (λ (o : Option Value). given (optional_operand p rs o)) e ∙ ap (λ (z : Value). given (operand p rs z)) q

-- a pointer moved along indices has the path moved along them
pub indices_moved : (p : NumberedProgram) (rs : List (Option ℕ)) (vs : List Value) (last : ℕ) (added : Option ℕ) (is : List Index) (w k : ℕ)
    → ((j : ℕ) (i : Index) → slice_get is j ≡ Some i → slice_get vs (k + j) ≡ Some i.value) →
    IsMoved last added w → IsMoved last (added_indices added is) (moved_along w is (number_at p rs vs) k)
indices_moved p rs vs last added [] w k at h = h
indices_moved p rs vs last added (i ∷ is) w k at h =
    let z : k + 0 ≡ k = omega arith in
    let here : slice_get vs k ≡ Some i.value = rw z at (at 0 i refl) in
    indices_moved p rs vs last (added_index added i.width i.scale i.value) is (moved_by w (index_bytes i i.scale (number_at p rs vs k))) (k + 1)
    (λ j x e. let s : k + 1 + j ≡ k + suc j = omega arith in rw s (at (suc j) x e))
    (one_index last added w (number_at p rs vs k) i i.value h (λ c q. constant_at p rs vs k i.value here c q))

mapped_get : (is : List Index) (j : ℕ) (i : Index) → slice_get is j ≡ Some i → slice_get (map (λ (x : Index). x.value) is) j ≡ Some i.value
mapped_get [] zero i e = absurd cc
mapped_get [] (suc j) i e = absurd cc
mapped_get (x ∷ is) zero i e = let q : x ≡ i = cc in ap (λ (z : Index). Some z.value) q
mapped_get (x ∷ is) (suc j) i e = mapped_get is j i e

pub gep_moved : (p : NumberedProgram) (rs : List (Option ℕ)) (base : Value) (last : ℕ) (added : Option ℕ) (is : List Index) (w : ℕ) → IsMoved last added w →
    IsMoved last (added_indices added is) (moved_along w is (number_at p rs (base ∷ map (λ (x : Index). x.value) is)) 1)
gep_moved p rs base last added is w h =
    indices_moved p rs (base ∷ map (λ (x : Index). x.value) is) last added is w 1 (λ j i e. let s : 1 + j ≡ suc j = omega arith in rw s (mapped_get is j i e)) h

-- ---- loads one after another

abbrev joined : PathPointers → PathPointers → PathPointers
joined a b = record { pointers = a.pointers ++ b.pointers; cells = a.cells ++ b.cells; last = b.last }

-- the loads of one list and then those of another
pub record FollowsBoth (memory : ByteRange → ℕ) (word : ℕ) (ks ls : List ℕ) (at : PathPointers) : Type 0 where
  pub first : PathPointers
  pub second : PathPointers
  pub is_first : followed_from memory word ks ≡ Some first
  pub is_second : followed_from memory first.last ls ≡ Some second
  pub pointers : at.pointers ≡ first.pointers ++ second.pointers
  pub last : at.last ≡ second.last

behind_some : (word : ℕ) (cell : ByteRange) (o : Option PathPointers) (at : PathPointers) → followed.behind word cell o ≡ Some at
    → (f : PathPointers) × (o ≡ Some f) × (record { pointers = word ∷ f.pointers; cells = cell ∷ f.cells; last = f.last } ≡ at)
behind_some word cell None at e = absurd cc
behind_some word cell (Some f) at e = (f, refl, cc)

-- a first load
pub record LoadsFirst (memory : ByteRange → ℕ) (word k : ℕ) (ks : List ℕ) (at : PathPointers) : Type 0 where
  pub cell : ByteRange
  pub is_cell : cell_at word k ≡ Some cell
  pub more : PathPointers
  pub is_more : followed_from memory (memory cell) ks ≡ Some more
  pub pointers : at.pointers ≡ word ∷ more.pointers
  pub last : at.last ≡ more.last

pub loads_first : (memory : ByteRange → ℕ) (word k : ℕ) (ks : List ℕ) (at : PathPointers) → followed_from memory word (k ∷ ks) ≡ Some at → LoadsFirst memory word k ks at
loads_first memory word k ks at e = go (cell_at word k) refl e
  where
    go : (o : Option ByteRange) → cell_at word k ≡ o → option_and_then (λ cell. followed.behind word cell (followed_from memory (memory cell) ks)) o ≡ Some at
        → LoadsFirst memory word k ks at
    go None q e = absurd cc
    go (Some cell) q e =
        let b = behind_some word cell (followed_from memory (memory cell) ks) at e in
        record { cell = cell; is_cell = q; more = b.0; is_more = b.1; pointers = sym (ap (λ (z : PathPointers). z.pointers) b.2); last = sym (ap (λ (z : PathPointers). z.last) b.2) }

pub loads_again : (memory : ByteRange → ℕ) (word k : ℕ) (ks : List ℕ) (cell : ByteRange) (more : PathPointers) → cell_at word k ≡ Some cell
    → followed_from memory (memory cell) ks ≡ Some more →
    followed_from memory word (k ∷ ks) ≡ Some (record { pointers = word ∷ more.pointers; cells = cell ∷ more.cells; last = more.last })
loads_again memory word k ks cell more e f = rw (e, f) refl

pub follows_both : (memory : ByteRange → ℕ) (word : ℕ) (ks ls : List ℕ) (at : PathPointers) → followed_from memory word (ks ++ ls) ≡ Some at → FollowsBoth memory word ks ls at
follows_both memory word [] ls at e = record { first = record { pointers = []; cells = []; last = word }; second = at; is_first = refl; is_second = e; pointers = refl; last = refl }
follows_both memory word (k ∷ ks) ls at e = go (loads_first memory word k (ks ++ ls) at e) (λ w f q. follows_both memory w ks ls f q)
  where
    go : LoadsFirst memory word k (ks ++ ls) at → ((w : ℕ) (f : PathPointers) → followed_from memory w (ks ++ ls) ≡ Some f → FollowsBoth memory w ks ls f)
        → FollowsBoth memory word (k ∷ ks) ls at
    go l more =
        let b = more (memory l.cell) l.more l.is_more in
        record {
          first = record { pointers = word ∷ b.first.pointers; cells = l.cell ∷ b.first.cells; last = b.first.last };
          second = b.second;
          is_first = loads_again memory word k ks l.cell b.first l.is_cell b.is_first;
          is_second = b.is_second;
          pointers = l.pointers ∙ ap (λ (z : List ℕ). word ∷ z) b.pointers;
          last = l.last ∙ b.last;
        }
