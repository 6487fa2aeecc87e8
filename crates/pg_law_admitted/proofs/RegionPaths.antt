-- Where what is asked of a region's paths holds on an input, they lead to the recorded bounds there.
use Rattle.std.proofs.Common.{◌≡◌, ℕ, ℤ, ◌*◌, true, List, [], ◌∷◌, Option, Some, None, Result, Ok, Err, refl, sym, ap, ◌∙◌, subst, inl, inr, ◌⊎◌}
use Rattle.std.specs.Prelude.{pos, Contains, option_and_then}
use Rattle.std.specs.List.{AllByRecursion as AllOf}
use Rattle.std.proofs.lemmas.Bool.{true≢false}
use Rattle.pg_num.specs.Places.{ByteRange}
use Rattle.pg_num.specs.Pointers.{moved_by, place_of, pointer_of}
use Rattle.pg_num.specs.declared.places.PlaceFault.{PlaceFault}
use Rattle.pg_num.proofs.Moves.{length-moved_by, start-moved_by}
use Rattle.pg_run_memory.specs.Bytes.{number_of}
use Rattle.pg_precondition.specs.declared.check.Test.TheVariants as test
use Rattle.pg_precondition.specs.Values.{is_met, with_one}
use Rattle.pg_region_paths.specs.FollowedPaths.{PathPointers, behind, cell_at, cell_in, followed_from}
use Rattle.pg_region_paths.proofs.Elements.{cases, here, there, none_in}
use Rattle.pg_run_trace.specs.Races.{is_in}
use Rattle.pg_run.proofs.ActionPlaces.{place_is}
use Rattle.pg_slice_rules.specs.Freeable.{bounds_of}
use Rattle.pg_slice_rules.specs.Rules.{Bounds, moved_symbolic, path_needs, same_bounds, value_of}
use Rattle.pg_slice_rules.specs.SymbolicValues.{OnInput, Symbolic, Known, Bounded, Unknown, loaded}
use Rattle.pg_law_plan.specs.Likes.{HaveSameBounds, IsCellLike, HasBoundsIfAny, HasBoundsOf, IsLike}
use Rattle.pg_law_plan.proofs.AccessFits.{bounded_same, loaded_like}
use Rattle.pg_law_plan.proofs.BranchFits.{eq_met}
use Rattle.pg_law_plan.proofs.StepChecks.{Holds}

-- ---- one load

equal_bounds : (word n : ℕ) → HaveSameBounds word n → bounds_of n ≡ bounds_of word
equal_bounds word n h = ap (λ (s : ℕ). record { start = 8 * s; bytes = (pointer_of n).length }) h.start ∙ ap (λ (l : ℕ). record { start = 8 * (pointer_of word).start; bytes = l }) h.length

pub moved_bounds : (word k : ℕ) → bounds_of (moved_by word (pos k)) ≡ bounds_of word
moved_bounds word k = equal_bounds word (moved_by word (pos k)) (record { start = start-moved_by word (pos k); length = length-moved_by word (pos k) })

met_number : (n : ℕ) (o : Option ℕ) → is_met (test.Eq n) o ≡ true → o ≡ Some n
met_number n None h = absurd (true≢false (sym h))
met_number n (Some z) h = ap (λ (m : ℕ). Some m) (eq_met n z h)

-- an address that is known is moved as the word at hand
moved_value : (input : List ℤ) (k : ℕ) (s : Symbolic) (f : OnInput) (w : ℕ) → value_of (moved_symbolic k s) ≡ Some f → IsLike input s (Some w) → f input ≡ Some (moved_by w (pos k))
moved_value input k (Known g u) f w e h =
    let same : (λ i. with_one (g i) (λ word. Some (moved_by word (pos k)))) ≡ f = (let q : Some (λ (i : List ℤ). with_one (g i) (λ word. Some (moved_by word (pos k)))) ≡ Some f = e in cc) in
    sym (ap (λ (z : OnInput). z input) same) ∙ sym (ap (λ (o : Option ℕ). with_one o (λ word. Some (moved_by word (pos k)))) h.0)
moved_value input k (Bounded g x) f w e h = absurd cc
moved_value input k (Unknown x) f w e h = absurd cc

pub cell_of : (o : Result ByteRange PlaceFault) (c : ByteRange) → cell_in o ≡ Some c → o ≡ Ok c
cell_of (Err e) c h = absurd cc
cell_of (Ok r) c h = let q : r ≡ c = cc in ap (λ (z : ByteRange). Ok z) q

cell_bytes : (w k : ℕ) (c : ByteRange) → cell_at w k ≡ Some c → c.bytes ≡ 8
cell_bytes w k c h = sym (ap (λ (z : ByteRange). z.bytes) (place_is (moved_by w (pos k)) 8 c (cell_of (place_of (moved_by w (pos k)) 8) c h)))

-- the parts of a path that loads
pub record Loads (recorded : ByteRange → ℕ) (w0 k : ℕ) (ks : List ℕ) (g : PathPointers) : Type 0 where
  pub cell : ByteRange
  pub more : PathPointers
  pub at : cell_at w0 k ≡ Some cell
  pub is : followed_from recorded (recorded cell) ks ≡ Some more
  pub whole : record { pointers = w0 ∷ more.pointers; cells = cell ∷ more.cells; last = more.last } ≡ g

pub loads_of : (recorded : ByteRange → ℕ) (w0 k : ℕ) (ks : List ℕ) (g : PathPointers) → followed_from recorded w0 (k ∷ ks) ≡ Some g → Loads recorded w0 k ks g
loads_of recorded w0 k ks g e = by_cell (cell_at w0 k) refl e
  where
    by_more : (c : ByteRange) → cell_at w0 k ≡ Some c → (o : Option PathPointers) → followed_from recorded (recorded c) ks ≡ o → behind w0 c o ≡ Some g → Loads recorded w0 k ks g
    by_more c q None i h = absurd cc
    by_more c q (Some m) i h = let t : record { pointers = w0 ∷ m.pointers; cells = c ∷ m.cells; last = m.last } ≡ g = cc in record { cell = c; more = m; at = q; is = i; whole = t }

    by_cell : (o : Option ByteRange) → cell_at w0 k ≡ o → option_and_then (λ cell. behind w0 cell (followed_from recorded (recorded cell) ks)) o ≡ Some g → Loads recorded w0 k ks g
    by_cell None q h = absurd cc
    by_cell (Some c) q h = by_more c q (followed_from recorded (recorded c) ks) refl h

-- ---- whole paths

-- followed from a word now, a path leads to the recorded bounds, by pointers with recorded bounds
pub record Follows (now : ByteRange → ℕ) (ks : List ℕ) (w : ℕ) (g : PathPointers) : Type 0 where
  pub at : PathPointers
  pub is : followed_from now w ks ≡ Some at
  pub last : bounds_of at.last ≡ bounds_of g.last
  pub pointers : (v : ℕ) → Contains at.pointers v → (v0 : ℕ) × Contains g.pointers v0 × (bounds_of v ≡ bounds_of v0)

tail_pointers : (recorded : ByteRange → ℕ) (g : PathPointers) (w w0 k : ℕ) (ks : List ℕ) (l : Loads recorded w0 k ks g) (at : PathPointers)
    → ((v : ℕ) → Contains at.pointers v → (v0 : ℕ) × Contains l.more.pointers v0 × (bounds_of v ≡ bounds_of v0)) → moved_by w (pos k) ≡ moved_by w0 (pos k) →
    (v : ℕ) → Contains (w ∷ at.pointers) v → (v0 : ℕ) × Contains g.pointers v0 × (bounds_of v ≡ bounds_of v0)
tail_pointers recorded g w w0 k ks l at points same v i = subst (λ (z : List ℕ). (v0 : ℕ) × Contains z v0 × (bounds_of v ≡ bounds_of v0)) (ap (λ (z : PathPointers). z.pointers) l.whole)
    (go (cases w at.pointers v i))
  where
    go : (w ≡ v) ⊎ Contains at.pointers v → (v0 : ℕ) × Contains (w0 ∷ l.more.pointers) v0 × (bounds_of v ≡ bounds_of v0)
    go (inl e) = (w0, here w0 l.more.pointers, sym (ap bounds_of e) ∙ sym (moved_bounds w k) ∙ ap bounds_of same ∙ moved_bounds w0 k)
    go (inr c) = let q = points v c in (q.0, there w0 l.more.pointers q.0 q.1, q.2)

module _ (input : List ℤ) (bytes : ℕ → Symbolic) (memory : ℕ → ℕ) (recorded now : ByteRange → ℕ) (is_now : (c : ByteRange) → now c ≡ number_of memory c.start c.bytes) where
  abbrev CellsLike : PathPointers → Type 0
  CellsLike g = (c : ByteRange) → Contains g.cells c → (b : ℕ) → is_in c b ≡ true → IsCellLike input (bytes b) (memory b)

  -- what a load gives
  loads_like : (c : ByteRange) → c.bytes ≡ 8 → ((b : ℕ) → is_in c b ≡ true → IsCellLike input (bytes b) (memory b)) → IsLike input (loaded bytes c.start 8) (Some (now c))
  loads_like c e h =
      subst (λ (n : ℕ). IsLike input (loaded bytes c.start 8) (Some n)) (sym (is_now c))
      (subst (λ (n : ℕ). IsLike input (loaded bytes c.start n) (Some (number_of memory c.start c.bytes))) e (loaded_like input bytes memory c.start c.bytes h))

  pub follow : (ks : List ℕ) (s : Symbolic) (w0 w : ℕ) (g : PathPointers) → followed_from recorded w0 ks ≡ Some g → IsLike input s (Some w)
      → AllOf (Holds input) (path_needs bytes s ks g.pointers g.cells g.last) → CellsLike g → Follows now ks w g
  follow [] s w0 w g e h needs cells = record {
    at = record { pointers = []; cells = []; last = w };
    is = refl;
    last = equal_bounds g.last w (bounded_same input s needs.0.0 g.last w needs.0.1 h needs.0.2);
    pointers = λ v c. absurd (none_in v c);
  }
  follow (k ∷ ks) s w0 w g e h needs cells = go (loads_of recorded w0 k ks g e) (λ s2 u0 u g2 e2 h2 n2 c2. follow ks s2 u0 u g2 e2 h2 n2 c2)
    where
      go : Loads recorded w0 k ks g → ((s2 : Symbolic) (u0 u : ℕ) (g2 : PathPointers) → followed_from recorded u0 ks ≡ Some g2 → IsLike input s2 (Some u)
          → AllOf (Holds input) (path_needs bytes s2 ks g2.pointers g2.cells g2.last) → CellsLike g2 → Follows now ks u g2) → Follows now (k ∷ ks) w g
      go l more =
          let n = subst (λ (z : PathPointers). AllOf (Holds input) (path_needs bytes s (k ∷ ks) z.pointers z.cells z.last)) (sym l.whole) needs in
          let c = subst CellsLike (sym l.whole) cells in
          let f = n.0.0 in
          let value : f input ≡ Some (moved_by w (pos k)) = moved_value input k s f w n.0.1 h in
          let same : moved_by w (pos k) ≡ moved_by w0 (pos k) =
          (let q : Some (moved_by w (pos k)) ≡ Some (moved_by w0 (pos k)) = sym value ∙ met_number (moved_by w0 (pos k)) (f input) n.0.2.0 in cc) in
          let cell : cell_at w k ≡ Some l.cell = ap (λ (z : ℕ). cell_in (place_of z 8)) same ∙ l.at in
          let r = more (loaded bytes l.cell.start 8) (recorded l.cell) (now l.cell) l.more l.is (loads_like l.cell (cell_bytes w0 k l.cell l.at) (c l.cell (here l.cell l.more.cells))) n.1
          (λ d i. c d (there l.cell l.more.cells d i)) in
          record {
            at = record { pointers = w ∷ r.at.pointers; cells = l.cell ∷ r.at.cells; last = r.at.last };
            is = ap (λ (o : Option ByteRange). option_and_then (λ (d : ByteRange). behind w d (followed_from now (now d) ks)) o) cell ∙ ap (behind w l.cell) r.is;
            last = r.last ∙ ap (λ (z : PathPointers). bounds_of z.last) l.whole;
            pointers = tail_pointers recorded g w w0 k ks l r.at r.pointers same;
          }

  -- ---- the root

  met_some : (word : ℕ) (o : Option ℕ) → is_met (same_bounds word) o ≡ true → (n : ℕ) × (o ≡ Some n)
  met_some word None h = absurd (true≢false (sym h))
  met_some word (Some n) h = (n, refl)

  in_some : (word : ℕ) (v : Option ℕ) → HasBoundsOf (Some word) v → (w : ℕ) × (v ≡ Some w)
  in_some word None h = absurd h
  in_some word (Some w) h = (w, refl)

  bounded_some : (word : ℕ) (v : Option ℕ) → HasBoundsIfAny (Some word) v → (w : ℕ) × (v ≡ Some w)
  bounded_some word None h = absurd cc
  bounded_some word (Some w) h = (w, refl)

  bounds_root : (s : Symbolic) (v : Option ℕ) (last : ℕ) → IsLike input s v → Holds input (Bounds s (same_bounds last)) → (w : ℕ) × (v ≡ Some w)
  bounds_root (Known g u) v last h n =
      let same : u ≡ n.0 = (let q : Some u ≡ Some n.0 = n.1 in cc) in
      let m = met_some last (n.0 input) n.2 in
      bounded_some m.0 v (subst (λ (o : Option ℕ). HasBoundsIfAny o v) (ap (λ (z : OnInput). z input) same ∙ m.1) h.1)
  bounds_root (Bounded g x) v last h n =
      let same : g ≡ n.0 = (let q : Some g ≡ Some n.0 = n.1 in cc) in
      let m = met_some last (n.0 input) n.2 in
      in_some m.0 v (subst (λ (o : Option ℕ). HasBoundsOf o v) (ap (λ (z : OnInput). z input) same ∙ m.1) h)
  bounds_root (Unknown x) v last h n = absurd (no_word n.0 n.1)
    where
      no_word : (f : OnInput) → Path (Option OnInput) None (Some f) → ⊥
      no_word f e = absurd cc

  one_there : (o : Option ℕ) (k n : ℕ) → with_one o (λ word. Some (moved_by word (pos k))) ≡ Some n → (w : ℕ) × (o ≡ Some w)
  one_there None k n e = absurd cc
  one_there (Some w) k n e = (w, refl)

  value_root : (s : Symbolic) (v : Option ℕ) (k n : ℕ) (f : OnInput) → IsLike input s v → value_of (moved_symbolic k s) ≡ Some f → f input ≡ Some n → (w : ℕ) × (v ≡ Some w)
  value_root (Known g u) v k n f h e m =
      let same : (λ i. with_one (g i) (λ word. Some (moved_by word (pos k)))) ≡ f =
      (let q : Some (λ (i : List ℤ). with_one (g i) (λ word. Some (moved_by word (pos k)))) ≡ Some f = e in cc) in
      let q = one_there (g input) k n (ap (λ (z : OnInput). z input) same ∙ m) in
      (q.0, h.0 ∙ q.1)
  value_root (Bounded g x) v k n f h e m = absurd cc
  value_root (Unknown x) v k n f h e m = absurd cc

  -- what is asked of a path asks that its root has a value
  pub root_there : (ks : List ℕ) (s : Symbolic) (v : Option ℕ) (w0 : ℕ) (g : PathPointers) → followed_from recorded w0 ks ≡ Some g → IsLike input s v
      → AllOf (Holds input) (path_needs bytes s ks g.pointers g.cells g.last) → (w : ℕ) × (v ≡ Some w)
  root_there [] s v w0 g e h needs = bounds_root s v g.last h needs.0
  root_there (k ∷ ks) s v w0 g e h needs =
      let l = loads_of recorded w0 k ks g e in
      let n = subst (λ (z : PathPointers). AllOf (Holds input) (path_needs bytes s (k ∷ ks) z.pointers z.cells z.last)) (sym l.whole) needs in
      value_root s v k (moved_by w0 (pos k)) n.0.0 h n.0.1 (met_number (moved_by w0 (pos k)) (n.0.0 input) n.0.2.0)
