-- Which numbers have paths: the values of roots, what a getelementptr moves, what a load reads, and an argument in a callee.
use Rattle.std.proofs.Common.{◌≡◌, ℕ, Bool, List, [], ◌∷◌, ◌++◌, Option, Some, None, Result, Ok, Err, pos, refl, sym, ap, ◌∙◌, subst, arith, inl, inr, ◌⊎◌}
use Rattle.std.specs.Prelude.{Contains, option_and_then, map}
use Rattle.std.proofs.lemmas.List.Elements.{Contains-append_left, Contains-append_right}
use Rattle.pg_num.specs.Places.{ByteRange}
use Rattle.pg_num.specs.Pointers.{moved_by, place_of}
use Rattle.pg_num.specs.declared.places.PlaceFault.{PlaceFault}
use Rattle.pg_num.proofs.Moves.{moved_by-zero}
use Rattle.pg_ir.specs.declared.value.Value.{Value}
use Rattle.pg_ir.specs.declared.value.Index.{Index}
use Rattle.pg_ir.specs.Program.{NumberedProgram}
use Rattle.pg_region_paths.specs.declared.path.Root.{Root}
use Rattle.pg_region_paths.specs.declared.path.Root.TheVariants as root
use Rattle.pg_region_paths.specs.declared.path.Loads.{Loads}
use Rattle.pg_region_paths.specs.declared.path.Loads.TheVariants.{Never, Once, Twice, Thrice, FourTimes}
use Rattle.pg_region_paths.specs.declared.path.RootPath.{RootPath}
use Rattle.pg_region_paths.specs.declared.path.Path.{Path}
use Rattle.pg_region_paths.specs.Paths.{offsets_of, one_more, each_more, appended, moved_offset, shifted, rooted, path_with, loaded_at, loaded, root_path_with, loads_behind, composed, root_path_of}
use Rattle.pg_region_paths.specs.Registers.{moved}
use Rattle.pg_region_paths.specs.FollowedPaths as followed
use Rattle.pg_region_paths.specs.FollowedPaths.{PathPointers, followed_from, cell_at, cell_in, root_value}
use Rattle.pg_region_accesses.specs.declared.rooted.Rooted.{Rooted}
use Rattle.pg_region_paths.proofs.Elements.{here, there, cases}
use Rattle.pg_run_thread.specs.Operands.{number_at}
use Rattle.pg_run_thread.specs.Compute.{moved_along}
use Rattle.pg_slice_replay.specs.pg_slice_rules.Freeable.{FreeAccess, bounds_of}
use Rattle.pg_law_instances.specs.Leads.{IsLoaded, IsReached, IsWithin, Leads, IsMoved, HasPath, KeepsCells}
use Rattle.pg_law_instances.proofs.PointerMoves.{bounds_moved, moved_twice}
use Rattle.pg_law_instances.proofs.FollowedPaths.{within_memory, within_bounds, some_bytes, same_bounds, gep_moved, FollowsBoth, follows_both, LoadsFirst, loads_first, loads_again}

-- ---- offsets

more_offsets : (l l' : Loads) (k : ℕ) → one_more l k ≡ Some l' → offsets_of l' ≡ offsets_of l ++ k ∷ []
more_offsets Never l' k e = let q : Once k ≡ l' = cc in ap offsets_of (sym q)
more_offsets (Once a) l' k e = let q : Twice a k ≡ l' = cc in ap offsets_of (sym q)
more_offsets (Twice a b) l' k e = let q : Thrice a b k ≡ l' = cc in ap offsets_of (sym q)
more_offsets (Thrice a b c) l' k e = let q : FourTimes a b c k ≡ l' = cc in ap offsets_of (sym q)
more_offsets (FourTimes a b c d) l' k e = absurd cc

append_one : (xs : List ℕ) (y : ℕ) (ys : List ℕ) → (xs ++ y ∷ []) ++ ys ≡ xs ++ y ∷ ys
append_one [] y ys = refl
append_one (x ∷ xs) y ys = ap (λ (z : List ℕ). x ∷ z) (append_one xs y ys)

append_none : (xs : List ℕ) → xs ++ [] ≡ xs
append_none [] = refl
append_none (x ∷ xs) = ap (λ (z : List ℕ). x ∷ z) (append_none xs)

each_offsets : (o : Option Loads) (l : Loads) (ks : List ℕ) (l' : Loads) → o ≡ Some l → each_more o ks ≡ Some l' → offsets_of l' ≡ offsets_of l ++ ks
each_offsets None l ks l' q e = absurd cc
each_offsets (Some l0) l [] l' q e =
    let a : l0 ≡ l = cc in
    let b : l0 ≡ l' = cc in
    ap offsets_of (sym b ∙ a) ∙ sym (append_none (offsets_of l))
each_offsets (Some l0) l (k ∷ ks) l' q e =
    let a : l0 ≡ l = cc in
    go (one_more l0 k) refl e (λ o m s t. each_offsets o m ks l' s t) ∙ ap (λ (z : Loads). offsets_of z ++ k ∷ ks) a
  where
    go : (o : Option Loads) → one_more l0 k ≡ o → each_more o ks ≡ Some l'
        → ((o : Option Loads) (m : Loads) → o ≡ Some m → each_more o ks ≡ Some l' → offsets_of l' ≡ offsets_of m ++ ks) → offsets_of l' ≡ offsets_of l0 ++ k ∷ ks
    go None s t more = absurd cc
    go (Some m) s t more = more (Some m) m refl t ∙ ap (λ (z : List ℕ). z ++ ks) (more_offsets l0 m k s) ∙ append_one (offsets_of l0) k ks

pub appended_offsets : (l m l' : Loads) → appended l m ≡ Some l' → offsets_of l' ≡ offsets_of l ++ offsets_of m
appended_offsets l m l' e = each_offsets (Some l) l (offsets_of m) l' refl e

-- ---- a path from a root

-- what is followed from a root's value
pub root_follows : (memory : ByteRange → ℕ) (ks : List ℕ) (o : Option ℕ) (w : ℕ) → o ≡ Some w → option_and_then (λ word. followed_from memory word ks) o ≡ followed_from memory w ks
root_follows memory ks o w e = ap (λ (z : Option ℕ). option_and_then (λ word. followed_from memory word ks) z) e

-- a followed path has a root's value
pub follows_root : (memory : ByteRange → ℕ) (ks : List ℕ) (o : Option ℕ) (at : PathPointers) → option_and_then (λ word. followed_from memory word ks) o ≡ Some at
    → (w : ℕ) × (o ≡ Some w) × (followed_from memory w ks ≡ Some at)
follows_root memory ks None at e = absurd cc
follows_root memory ks (Some w) at e = (w, refl, e)

module _ (p : NumberedProgram) (registers : ℕ → Option ℕ) (memory : ByteRange → ℕ) (xs : List FreeAccess) where
  abbrev Recorded : PathPointers → Type 0
  Recorded at = (v : ℕ) → Contains at.pointers v → IsLoaded xs (bounds_of v)

  -- the value of a root has the root as its path
  pub root_has : (r : Root) (w : ℕ) → root_value p registers r ≡ Some w → HasPath p registers memory xs (rooted r) w
  root_has r w e = record {
    value = λ at f k. let q : record { pointers = []; cells = []; last = w } ≡ at = inner at (sym (root_follows memory [] (root_value p registers r) w e) ∙ f) in
        subst (λ (z : PathPointers). IsMoved z.last (Some 0) w) q (sym (moved_by-zero w));
  }
    where
      inner : (at : PathPointers) → followed_from memory w [] ≡ Some at → record { pointers = []; cells = []; last = w } ≡ at
      inner at f = cc

  -- a getelementptr moves a pointer and its path
  pub gep_has : (rs : List (Option ℕ)) (base : Value) (is : List Index) (q : Path) (w : ℕ) → HasPath p registers memory xs q w
      → HasPath p registers memory xs (moved is q) (moved_along w is (number_at p rs (base ∷ map (λ (x : Index). x.value) is)) 1)
  gep_has rs base is q w h = record { value = λ at f k. gep_moved p rs base at.last q.added is w (h.value at f k) }

  cell_is : (o : Result ByteRange PlaceFault) (c cell : ByteRange) → cell_in o ≡ Some c → o ≡ Ok cell → c ≡ cell
  cell_is (Err f) c cell e q = absurd cc
  cell_is (Ok r) c cell e q = cc

  -- a pointer that is loaded has the path of the address, with one load more
  pub load_has : (q q' : Path) (w n : ℕ) (cell : ByteRange) (now : ByteRange → ℕ) → KeepsCells xs memory now → HasPath p registers memory xs q w → loaded q ≡ Some q'
      → place_of w 8 ≡ Ok cell → n ≡ now cell → HasPath p registers memory xs q' n
  load_has q q' w n cell now keeps h l e v = go q.added refl l
    where
      last_load : (k : ℕ) (l' : Loads) → q.added ≡ Some k → one_more q.loads k ≡ Some l' → (at : PathPointers)
          → option_and_then (λ word. followed_from memory word (offsets_of l')) (root_value p registers q.root) ≡ Some at → Recorded at → n ≡ moved_by at.last (pos 0)
      last_load k l' a s at f rec =
          let r = follows_root memory (offsets_of l') (root_value p registers q.root) at f in
          let b : FollowsBoth memory r.0 (offsets_of q.loads) (k ∷ []) at =
          follows_both memory r.0 (offsets_of q.loads) (k ∷ []) at (subst (λ (z : List ℕ). followed_from memory r.0 z ≡ Some at) (more_offsets q.loads l' k s) r.2) in
          let m : LoadsFirst memory b.first.last k [] b.second = loads_first memory b.first.last k [] b.second b.is_second in
          let at_first : followed.followed p registers memory (root_path_of q) ≡ Some b.first = root_follows memory (offsets_of q.loads) (root_value p registers q.root) r.0 r.1 ∙ b.is_first in
          let in_first : Recorded b.first = λ x c. rec x (subst (λ (z : List ℕ). Contains z x) (sym b.pointers) (Contains-append_left b.first.pointers b.second.pointers x c)) in
          let in_second : (x : ℕ) → Contains b.second.pointers x → IsLoaded xs (bounds_of x) =
          λ x c. rec x (subst (λ (z : List ℕ). Contains z x) (sym b.pointers) (Contains-append_right b.first.pointers b.second.pointers x c)) in
          let pointer : IsLoaded xs (bounds_of b.first.last) = in_second b.first.last (subst (λ (z : List ℕ). Contains z b.first.last) (sym m.pointers) (here b.first.last m.more.pointers)) in
          let word : w ≡ moved_by b.first.last (pos k) = subst (λ (z : Option ℕ). IsMoved b.first.last z w) a (h.value b.first at_first in_first) in
          let c : m.cell ≡ cell = cell_is (place_of w 8) m.cell cell (ap (λ (z : ℕ). cell_in (place_of z 8)) word ∙ m.is_cell) e in
          let bounds : bounds_of w ≡ bounds_of b.first.last = same_bounds b.first.last (Some k) w word in
          let within : IsWithin cell (bounds_of b.first.last) = subst (λ (z : ByteRange). IsWithin cell z) bounds (within_bounds w 8 cell e) in
          let held : now cell ≡ memory cell = keeps.kept (bounds_of b.first.last) cell pointer within (some_bytes w 8 cell (omega arith) e) (within_memory w 8 cell e) in
          let end : at.last ≡ memory cell = b.last ∙ m.last ∙ ends m.more (memory m.cell) m.is_more ∙ ap memory c in
          v ∙ held ∙ sym end ∙ sym (moved_by-zero at.last)
        where
          ends : (f : PathPointers) (x : ℕ) → followed_from memory x [] ≡ Some f → f.last ≡ x
          ends f x t = let u : record { pointers = []; cells = []; last = x } ≡ f = cc in sym (ap (λ (z : PathPointers). z.last) u)

      with_more : (k : ℕ) → q.added ≡ Some k → (o : Option Loads) → one_more q.loads k ≡ o → path_with q.root o ≡ Some q' → HasPath p registers memory xs q' n
      with_more k a None s t = absurd cc
      with_more k a (Some l') s t =
          let u : record { root = q.root; loads = l'; added = Some 0 } ≡ q' = cc in
          subst (λ (z : Path). HasPath p registers memory xs z n) u (record { value = λ at f rec. last_load k l' a s at f rec })

      go : (o : Option ℕ) → q.added ≡ o → loaded_at q o ≡ Some q' → HasPath p registers memory xs q' n
      go None a t = absurd cc
      go (Some k) a t = with_more k a (one_more q.loads k) refl t

  -- ---- accesses

  -- an access through a pointer with its path is in the recorded bounds of an access of its kind
  pub access_reached : (a : Rooted) (q : Path) (w : ℕ) → Leads p registers memory xs a → a.path ≡ root_path_of q → HasPath p registers memory xs q w → IsReached xs a.writes (bounds_of w)
  access_reached a q w l e h =
      let f : followed.followed p registers memory (root_path_of q) ≡ Some l.at = subst (λ (z : RootPath). followed.followed p registers memory z ≡ Some l.at) e l.is in
      subst (λ (z : ByteRange). IsReached xs a.writes z) (sym (same_bounds l.at.last q.added w (h.value l.at f l.loads))) l.last

  -- ---- arguments

  -- loads from w that lead where a path that was followed leads
  abbrev Behind : ℕ → ℕ → List ℕ → PathPointers → Type 0
  Behind w k ks f = (g : PathPointers) × (followed_from memory w (k ∷ ks) ≡ Some g) × ((x : ℕ) → Contains g.pointers x → (y : ℕ) × Contains f.pointers y × (bounds_of y ≡ bounds_of x))
      × (g.last ≡ f.last)

  -- the same loads from a pointer that was moved, the first of them by as much less
  moved_loads : (last j a : ℕ) (ks : List ℕ) (w : ℕ) (f : PathPointers) → w ≡ moved_by last (pos j) → followed_from memory last (moved_offset j a ∷ ks) ≡ Some f →
      (g : PathPointers) × (followed_from memory w (a ∷ ks) ≡ Some g) × ((x : ℕ) → Contains g.pointers x → (y : ℕ) × Contains f.pointers y × (bounds_of y ≡ bounds_of x))
      × (g.last ≡ f.last)
  moved_loads last j a ks w f m e =
      let l : LoadsFirst memory last (moved_offset j a) ks f = loads_first memory last (moved_offset j a) ks f e in
      let c : cell_at w a ≡ Some l.cell = ap (λ (z : ℕ). cell_in (place_of (moved_by z (pos a)) 8)) m ∙ ap (λ (z : ℕ). cell_in (place_of z 8)) (moved_twice last j a) ∙ l.is_cell in (
        record { pointers = w ∷ l.more.pointers; cells = l.cell ∷ l.more.cells; last = l.more.last },
        loads_again memory w a ks l.cell l.more c l.is_more,
        λ x k. go l x (cases w l.more.pointers x k),
        sym l.last,
      )
    where
      go : (l : LoadsFirst memory last (moved_offset j a) ks f) (x : ℕ) → (w ≡ x) ⊎ Contains l.more.pointers x → (y : ℕ) × Contains f.pointers y × (bounds_of y ≡ bounds_of x)
      go l x (inl q) = (last, subst (λ (z : List ℕ). Contains z last) (sym l.pointers) (here last l.more.pointers), sym (bounds_moved last (pos j)) ∙ ap bounds_of (sym m ∙ q))
      go l x (inr k) = (x, subst (λ (z : List ℕ). Contains z x) (sym l.pointers) (there last l.more.pointers x k), refl)

  -- in a callee the accesses from a parameter lead where those of the caller from the argument's path lead
  pub argument_leads : (a b : Rooted) (q : Path) (w r : ℕ) (params : ℕ → Option ℕ) → Leads p registers memory xs b → HasPath p registers memory xs q w
      → composed q a.path.loads ≡ Some b.path → b.writes ≡ a.writes → a.path.root ≡ root.Register r → params r ≡ Some w → Leads p params memory xs a
  argument_leads a b q w r params l h e kind rooted_at at = go a.path.loads refl e
    where
      follows : (f : PathPointers) (ls : Loads) → a.path.loads ≡ ls → followed_from memory w (offsets_of ls) ≡ Some f → followed.followed p params memory a.path ≡ Some f
      follows f ls t v =
          ap (λ (z : Root). option_and_then (λ word. followed_from memory word (offsets_of a.path.loads)) (root_value p params z)) rooted_at
          ∙ root_follows memory (offsets_of a.path.loads) (params r) w at
          ∙ ap (λ (z : Loads). followed_from memory w (offsets_of z)) t ∙ v

      reached : (last : ℕ) → bounds_of last ≡ bounds_of l.at.last → IsReached xs a.writes (bounds_of last)
      reached last s = subst (λ (z : Bool). IsReached xs z (bounds_of last)) kind (subst (λ (z : ByteRange). IsReached xs b.writes z) (sym s) l.last)

      -- no load in the callee
      never : a.path.loads ≡ Never → Some (root_path_of q) ≡ Some b.path → Leads p params memory xs a
      never t u =
          let v : root_path_of q ≡ b.path = cc in
          let f : followed.followed p registers memory (root_path_of q) ≡ Some l.at = subst (λ (z : RootPath). followed.followed p registers memory z ≡ Some l.at) (sym v) l.is in
          record {
            at = record { pointers = []; cells = []; last = w };
            is = follows (record { pointers = []; cells = []; last = w }) Never t refl;
            loads = λ x c. absurd (omega (arith, c.1));
            last = reached w (same_bounds l.at.last q.added w (h.value l.at f l.loads));
          }

      -- from the pointers that follow the argument's path
      finish : (k : ℕ) (ks : List ℕ) (ls : Loads) → a.path.loads ≡ ls → offsets_of ls ≡ k ∷ ks → (second : PathPointers)
          → ((x : ℕ) → Contains second.pointers x → IsLoaded xs (bounds_of x)) → l.at.last ≡ second.last → Behind w k ks second → Leads p params memory xs a
      finish k ks ls t s second loaded e g = record {
        at = g.0;
        is = follows g.0 ls t (ap (followed_from memory w) s ∙ g.1);
        loads = λ z c. let y = g.2 z c in subst (λ (n : ByteRange). IsLoaded xs n) y.2 (loaded y.0 y.1);
        last = reached g.0.last (ap bounds_of (g.3 ∙ sym e));
      }

      -- from the loads of the argument's path, and those behind
      split_at : (k : ℕ) (ks : List ℕ) (ls : Loads) → a.path.loads ≡ ls → offsets_of ls ≡ k ∷ ks → (j : ℕ) → q.added ≡ Some j → (w0 : ℕ)
          → root_value p registers q.root ≡ Some w0 → FollowsBoth memory w0 (offsets_of q.loads) (moved_offset j k ∷ ks) l.at → Leads p params memory xs a
      split_at k ks ls t s j u w0 r d =
          let first : followed.followed p registers memory (root_path_of q) ≡ Some d.first = root_follows memory (offsets_of q.loads) (root_value p registers q.root) w0 r ∙ d.is_first in
          let in_first : Recorded d.first = λ z c. l.loads z (subst (λ (n : List ℕ). Contains n z) (sym d.pointers) (Contains-append_left d.first.pointers d.second.pointers z c)) in
          let word : w ≡ moved_by d.first.last (pos j) = subst (λ (z : Option ℕ). IsMoved d.first.last z w) u (h.value d.first first in_first) in
          finish k ks ls t s d.second (λ z c. l.loads z (subst (λ (n : List ℕ). Contains n z) (sym d.pointers) (Contains-append_right d.first.pointers d.second.pointers z c))) d.last
          (moved_loads d.first.last j k ks w d.second word d.is_second)

      -- a first load in the callee
      some : (k : ℕ) (ks : List ℕ) (ls : Loads) → a.path.loads ≡ ls → offsets_of ls ≡ k ∷ ks → (j : ℕ) → offsets_of (shifted j ls) ≡ moved_offset j k ∷ ks
          → q.added ≡ Some j → (o : Option Loads) → appended q.loads (shifted j ls) ≡ o → root_path_with q.root o ≡ Some b.path → Leads p params memory xs a
      some k ks ls t s j s' u None v x = absurd cc
      some k ks ls t s j s' u (Some l') v x =
          let y : record { root = q.root; loads = l' } ≡ b.path = cc in
          let f : followed.followed p registers memory (record { root = q.root; loads = l' }) ≡ Some l.at =
          subst (λ (z : RootPath). followed.followed p registers memory z ≡ Some l.at) (sym y) l.is in
          let r0 = follows_root memory (offsets_of l') (root_value p registers q.root) l.at f in
          let split : offsets_of l' ≡ offsets_of q.loads ++ moved_offset j k ∷ ks = appended_offsets q.loads (shifted j ls) l' v ∙ ap (λ (z : List ℕ). offsets_of q.loads ++ z) s' in
          split_at k ks ls t s j u r0.0 r0.1 (follows_both memory r0.0 (offsets_of q.loads) (moved_offset j k ∷ ks) l.at
          (subst (λ (z : List ℕ). followed_from memory r0.0 z ≡ Some l.at) split r0.2))

      by_added : (k : ℕ) (ks : List ℕ) (ls : Loads) → a.path.loads ≡ ls → offsets_of ls ≡ k ∷ ks → ((j : ℕ) → offsets_of (shifted j ls) ≡ moved_offset j k ∷ ks)
          → ((o : Option ℕ) → o ≡ None → loads_behind q.loads o ls ≡ None) → ((j : ℕ) → loads_behind q.loads (Some j) ls ≡ appended q.loads (shifted j ls))
          → (o : Option ℕ) → q.added ≡ o → root_path_with q.root (loads_behind q.loads o ls) ≡ Some b.path → Leads p params memory xs a
      by_added k ks ls t s s' none more None u v = absurd (let z = none None refl in
          let y : root_path_with q.root None ≡ Some b.path = subst (λ (o : Option Loads). root_path_with q.root o ≡ Some b.path) z v in cc)
      by_added k ks ls t s s' none more (Some j) u v = some k ks ls t s j (s' j) u (appended q.loads (shifted j ls)) refl
          (subst (λ (o : Option Loads). root_path_with q.root o ≡ Some b.path) (more j) v)

      none_behind : (ls : Loads) → (ls ≡ Never → ⊥) → (o : Option ℕ) → o ≡ None → loads_behind q.loads o ls ≡ None
      none_behind Never n o z = absurd (n refl)
      none_behind (Once x) n None z = refl
      none_behind (Twice x y) n None z = refl
      none_behind (Thrice x y v) n None z = refl
      none_behind (FourTimes x y v u) n None z = refl
      none_behind (Once x) n (Some k) z = absurd cc
      none_behind (Twice x y) n (Some k) z = absurd cc
      none_behind (Thrice x y v) n (Some k) z = absurd cc
      none_behind (FourTimes x y v u) n (Some k) z = absurd cc

      go : (ls : Loads) → a.path.loads ≡ ls → root_path_with q.root (loads_behind q.loads q.added ls) ≡ Some b.path → Leads p params memory xs a
      go Never t u = never t u
      go (Once x) t u = by_added x [] (Once x) t refl (λ j. refl) (none_behind (Once x) (λ z. cc)) (λ j. refl) q.added refl u
      go (Twice x y) t u = by_added x (y ∷ []) (Twice x y) t refl (λ j. refl) (none_behind (Twice x y) (λ z. cc)) (λ j. refl) q.added refl u
      go (Thrice x y z) t u = by_added x (y ∷ z ∷ []) (Thrice x y z) t refl (λ j. refl) (none_behind (Thrice x y z) (λ n. cc)) (λ j. refl) q.added refl u
      go (FourTimes x y z v) t u = by_added x (y ∷ z ∷ v ∷ []) (FourTimes x y z v) t refl (λ j. refl) (none_behind (FourTimes x y z v) (λ n. cc)) (λ j. refl) q.added refl u
