-- Paths that are followed, load by load, and the accesses of a region, path by path.
use Rattle.std.proofs.Common.{◌≡◌, ℕ, zero, suc, ◌+◌, ◌<◌, ◌≤◌, List, [], ◌∷◌, ◌++◌, length, take, drop, false, Option, Some, None, option_and_then}
use Rattle.std.proofs.Common.{refl, sym, ap, ◌∙◌, subst, arith}
use Rattle.std.specs.Prelude.{slice_get}
use Rattle.std.proofs.Math.ListN.{set}
use Rattle.std.proofs.lemmas.List.{length-append}
use Rattle.pg_num.specs.Places.{ByteRange}
use Rattle.pg_ir.specs.Program.{NumberedProgram}
use Rattle.pg_law_effects.specs.pg_run.State.{State}
use Rattle.pg_region_paths.specs.FollowedPaths.{PathPointers, behind, cell_at, followed_from}
use Rattle.pg_region_paths.specs.Paths.{offsets_of}
use Rattle.pg_region_accesses.specs.declared.rooted.Rooted.{Rooted}
use Rattle.pg_slice_rules.specs.Freeable.{FreeAccess, one_access}
use Rattle.pg_slice_replay.specs.declared.at.At.{At}
use Rattle.pg_slice_replay.specs.OfRegions.{free_access}
use Rattle.pg_slice_replay.specs.Paths.{Added, Adds, IsLoaded, access_at, accesses_in, accesses_with, along, cell_of, cells_of, followed_in}

-- ---- the loads of a path

-- pointers that were passed, each with its cell
abbrev pub all_behind : List ℕ → List ℕ → Option PathPointers → Option PathPointers
all_behind [] ks f = f
all_behind (w ∷ ws) [] f = f
all_behind (w ∷ ws) (k ∷ ks) f = behind w (cell_of w k) (all_behind ws ks f)

behind_last : (ws ks : List ℕ) (w k : ℕ) (f : Option PathPointers) → length ws ≡ length ks → all_behind (ws ++ w ∷ []) (ks ++ k ∷ []) f ≡ all_behind ws ks (behind w (cell_of w k) f)
behind_last [] [] w k f e = refl
behind_last [] (l ∷ ks) w k f e = absurd (omega (arith, e))
behind_last (v ∷ ws) [] w k f e = absurd (omega (arith, e))
behind_last (v ∷ ws) (l ∷ ks) w k f e = ap (behind v (cell_of v l)) (behind_last ws ks w k f (omega (arith, e)))

behind_none : (ws ks : List ℕ) → all_behind ws ks None ≡ None
behind_none [] ks = refl
behind_none (w ∷ ws) [] = refl
behind_none (w ∷ ws) (k ∷ ks) = ap (behind w (cell_of w k)) (behind_none ws ks)

behind_some : (ws ks : List ℕ) (last : ℕ) → length ws ≡ length ks
    → all_behind ws ks (Some (record { pointers = []; cells = []; last = last })) ≡ Some (record { pointers = ws; cells = cells_of ws ks; last = last })
behind_some [] ks last e = refl
behind_some (w ∷ ws) [] last e = absurd (omega (arith, e))
behind_some (w ∷ ws) (k ∷ ks) last e = ap (behind w (cell_of w k)) (behind_some ws ks last (omega (arith, e)))

-- ---- lists

drop_get : (ks : List ℕ) (i k : ℕ) → slice_get ks i ≡ Some k → drop i ks ≡ k ∷ drop (i + 1) ks
drop_get [] zero k e = absurd cc
drop_get [] (suc i) k e = absurd cc
drop_get (l ∷ ks) zero k e = let q : l ≡ k = cc in ap (λ (z : ℕ). z ∷ ks) q
drop_get (l ∷ ks) (suc i) k e = let q : suc i + 1 ≡ suc (i + 1) = omega arith in rw q (drop_get ks i k e)

take_get : (ks : List ℕ) (i k : ℕ) → slice_get ks i ≡ Some k → take (i + 1) ks ≡ take i ks ++ k ∷ []
take_get [] zero k e = absurd cc
take_get [] (suc i) k e = absurd cc
take_get (l ∷ ks) zero k e = let q : l ≡ k = cc in ap (λ (z : ℕ). z ∷ []) q
take_get (l ∷ ks) (suc i) k e = let q : suc i + 1 ≡ suc (i + 1) = omega arith in rw q (ap (λ (m : List ℕ). l ∷ m) (take_get ks i k e))

take_set : (ws : List ℕ) (i w : ℕ) → i < length ws → take (i + 1) (set ws i w) ≡ take i ws ++ w ∷ []
take_set [] i w h = absurd (omega (arith, h))
take_set (v ∷ ws) zero w h = refl
take_set (v ∷ ws) (suc i) w h = let q : suc i + 1 ≡ suc (i + 1) = omega arith in rw q (ap (λ (m : List ℕ). v ∷ m) (take_set ws i w (omega (arith, h))))

length_take : (ws : List ℕ) (i : ℕ) → i ≤ length ws → length (take i ws) ≡ i
length_take ws zero h = refl
length_take [] (suc i) h = absurd (omega (arith, h))
length_take (w ∷ ws) (suc i) h = ap suc (length_take ws i (omega (arith, h)))

take_whole : (ks : List ℕ) (i : ℕ) → length ks ≤ i → take i ks ≡ ks
take_whole [] zero h = refl
take_whole [] (suc i) h = refl
take_whole (k ∷ ks) zero h = absurd (omega (arith, h))
take_whole (k ∷ ks) (suc i) h = ap (λ (m : List ℕ). k ∷ m) (take_whole ks i (omega (arith, h)))

drop_whole : (ks : List ℕ) (i : ℕ) → length ks ≤ i → drop i ks ≡ []
drop_whole [] zero h = refl
drop_whole [] (suc i) h = refl
drop_whole (k ∷ ks) zero h = absurd (omega (arith, h))
drop_whole (k ∷ ks) (suc i) h = drop_whole ks i (omega (arith, h))

-- ---- the loop over the loads

module _ (memory : ByteRange → ℕ) (first : ℕ) (ks : List ℕ) where
  -- the first i loads were done, and led to this word
  abbrev pub Led : ℕ → List ℕ → ℕ → Type 0
  Led i ws word = followed_from memory first ks ≡ all_behind (take i ws) (take i ks) (followed_from memory word (drop i ks))

  load_rest : (word i k : ℕ) → slice_get ks i ≡ Some k → followed_from memory word (drop i ks)
      ≡ option_and_then (λ cell. behind word cell (followed_from memory (memory cell) (drop (i + 1) ks))) (cell_at word k)
  load_rest word i k e = ap (followed_from memory word) (drop_get ks i k e)

  pub led_next : (i : ℕ) (ws : List ℕ) (word k next : ℕ) → i < length ws → i < length ks → slice_get ks i ≡ Some k → IsLoaded memory word k (Some next) → Led i ws word
      → Led (i + 1) (set ws i word) next
  led_next i ws word k next a b e h l =
      let rest = followed_from memory next (drop (i + 1) ks) in
      let one : followed_from memory word (drop i ks) ≡ behind word (cell_of word k) rest = load_rest word i k e
      ∙ ap (option_and_then (λ cell. behind word cell (followed_from memory (memory cell) (drop (i + 1) ks)))) h.0
      ∙ ap (λ n. behind word (cell_of word k) (followed_from memory n (drop (i + 1) ks))) (sym h.1) in
      let same : length (take i ws) ≡ length (take i ks) = length_take ws i (omega (arith, a)) ∙ sym (length_take ks i (omega (arith, b))) in
      l ∙ ap (all_behind (take i ws) (take i ks)) one ∙ sym (behind_last (take i ws) (take i ks) word k rest same)
      ∙ ap (λ (vs : List ℕ). all_behind vs (take i ks ++ k ∷ []) rest) (sym (take_set ws i word a))
      ∙ ap (λ (ms : List ℕ). all_behind (take (i + 1) (set ws i word)) ms rest) (sym (take_get ks i k e))

  pub led_end : (i : ℕ) (ws : List ℕ) (word : ℕ) → i ≡ length ks → i ≤ length ws → Led i ws word
      → followed_from memory first ks ≡ Some (along ks (record { pointers = ws; last = word }))
  led_end i ws word e a l =
      let same : length (take i ws) ≡ length ks = length_take ws i a ∙ e in
      l ∙ ap (λ (ms : List ℕ). all_behind (take i ws) ms (followed_from memory word (drop i ks))) (take_whole ks i (omega (arith, e)))
      ∙ ap (λ (ms : List ℕ). all_behind (take i ws) ks (followed_from memory word ms)) (drop_whole ks i (omega (arith, e)))
      ∙ behind_some (take i ws) ks word same
      ∙ ap (λ (n : ℕ). Some (record { pointers = take n ws; cells = cells_of (take n ws) ks; last = word })) e

-- ---- the accesses of a region

take_accesses : (us : List Rooted) (i : ℕ) (a : Rooted) → slice_get us i ≡ Some a → take (i + 1) us ≡ take i us ++ a ∷ []
take_accesses [] zero a e = absurd cc
take_accesses [] (suc i) a e = absurd cc
take_accesses (b ∷ us) zero a e = let q : b ≡ a = cc in ap (λ (z : Rooted). z ∷ []) q
take_accesses (b ∷ us) (suc i) a e = let q : suc i + 1 ≡ suc (i + 1) = omega arith in rw q (ap (λ (m : List Rooted). b ∷ m) (take_accesses us i a e))

split_at : (us : List Rooted) (i : ℕ) → us ≡ take i us ++ drop i us
split_at us zero = refl
split_at [] (suc i) = refl
split_at (a ∷ us) (suc i) = ap (λ (m : List Rooted). a ∷ m) (split_at us i)

module _ (p : NumberedProgram) (s : State) (t : ℕ) where
  given_last : (us : List Rooted) (a : Rooted) (xs : List At) (x : At) → length xs ≡ length us → accesses_in p s t us ≡ Some (accesses_with us xs)
      → followed_in p s t a.path ≡ Some (along (offsets_of a.path.loads) x) →
      accesses_in p s t (us ++ a ∷ []) ≡ Some (accesses_with (us ++ a ∷ []) (xs ++ x ∷ []))
  given_last [] a [] x c h f = ap (λ (o : Option PathPointers). one_access (free_access a) o (Some [])) f
  given_last [] a (y ∷ xs) x c h f = absurd (omega (arith, c))
  given_last (b ∷ us) a [] x c h f = absurd (omega (arith, c))
  given_last (b ∷ us) a (y ∷ xs) x c h f = go (λ q. given_last us a xs x (omega (arith, c)) q f) (followed_in p s t b.path) (accesses_in p s t us) refl refl h
    where
      go : (accesses_in p s t us ≡ Some (accesses_with us xs) → accesses_in p s t (us ++ a ∷ []) ≡ Some (accesses_with (us ++ a ∷ []) (xs ++ x ∷ [])))
          → (o : Option PathPointers) (u : Option (List FreeAccess)) → followed_in p s t b.path ≡ o → accesses_in p s t us ≡ u
          → one_access (free_access b) o u ≡ Some (access_at b y ∷ accesses_with us xs) →
          one_access (free_access b) (followed_in p s t b.path) (accesses_in p s t (us ++ a ∷ [])) ≡ Some (access_at b y ∷ accesses_with (us ++ a ∷ []) (xs ++ x ∷ []))
      go more None u e q k = absurd (none_some k)
        where
          none_some : None ≡ Some (access_at b y ∷ accesses_with us xs) → ⊥
          none_some k = cc
      go more (Some g) None e q k = absurd (none_some k)
        where
          none_some : None ≡ Some (access_at b y ∷ accesses_with us xs) → ⊥
          none_some k = cc
      go more (Some g) (Some vs) e q k =
          let cons : record { writes = b.writes; path = b.path; at = g } ∷ vs ≡ access_at b y ∷ accesses_with us xs = some_same k in
          let tail : vs ≡ accesses_with us xs = ap tail_of cons in
          let rest = more (q ∙ ap Some tail) in
          ap (λ (o : Option PathPointers). one_access (free_access b) o (accesses_in p s t (us ++ a ∷ []))) e
          ∙ ap (one_access (free_access b) (Some g)) rest
          ∙ ap (λ (z : FreeAccess). Some (z ∷ accesses_with (us ++ a ∷ []) (xs ++ x ∷ []))) (head_same cons)
        where
          some_same : {A : Type 0} {m n : A} → Some m ≡ Some n → m ≡ n
          some_same k = cc

          tail_of : List FreeAccess → List FreeAccess
          tail_of [] = []
          tail_of (z ∷ zs) = zs

          head_same : {m n : FreeAccess} {ms ns : List FreeAccess} → m ∷ ms ≡ n ∷ ns → m ≡ n
          head_same k = cc

  none_front : (us bs : List Rooted) → accesses_in p s t us ≡ None → accesses_in p s t (us ++ bs) ≡ None
  none_front [] bs h = absurd (some_none h)
    where
      some_none : Path (Option (List FreeAccess)) (Some []) None → ⊥
      some_none k = cc
  none_front (a ∷ us) bs h = go (λ q. none_front us bs q) (followed_in p s t a.path) (accesses_in p s t us) refl refl h
    where
      go : (accesses_in p s t us ≡ None → accesses_in p s t (us ++ bs) ≡ None) → (o : Option PathPointers) (u : Option (List FreeAccess)) → followed_in p s t a.path ≡ o
          → accesses_in p s t us ≡ u → one_access (free_access a) o u ≡ None → one_access (free_access a) (followed_in p s t a.path) (accesses_in p s t (us ++ bs)) ≡ None
      go more None u e q k = ap (λ (o : Option PathPointers). one_access (free_access a) o (accesses_in p s t (us ++ bs))) e
      go more (Some g) None e q k = ap (one_access (free_access a) (followed_in p s t a.path)) (more q) ∙ ap (λ (o : Option PathPointers). one_access (free_access a) o None) e
      go more (Some g) (Some vs) e q k = absurd (some_none k)
        where
          some_none : Path (Option (List FreeAccess)) (Some (record { writes = a.writes; path = a.path; at = g } ∷ vs)) None → ⊥
          some_none k = cc

  none_last : (us : List Rooted) (a : Rooted) → followed_in p s t a.path ≡ None → accesses_in p s t (us ++ a ∷ []) ≡ None
  none_last [] a f = ap (λ (o : Option PathPointers). one_access (free_access a) o (Some [])) f
  none_last (b ∷ us) a f = ap (one_access (free_access b) (followed_in p s t b.path)) (none_last us a f) ∙ go (followed_in p s t b.path)
    where
      go : (o : Option PathPointers) → one_access (free_access b) o None ≡ None
      go None = refl
      go (Some g) = refl

  -- the paths of the first i accesses were followed
  abbrev pub FollowedTo : List Rooted → ℕ → List At → List At → Type 0
  FollowedTo us i old new = (xs : List At) × Added p s t (take i us) old new xs

  assoc : (xs ys zs : List At) → (xs ++ ys) ++ zs ≡ xs ++ (ys ++ zs)
  assoc [] ys zs = refl
  assoc (x ∷ xs) ys zs = ap (λ (m : List At). x ∷ m) (assoc xs ys zs)

  pub followed_next : (us : List Rooted) (i : ℕ) (a : Rooted) (old cur new : List At) (x : At) → slice_get us i ≡ Some a
      → followed_in p s t a.path ≡ Some (along (offsets_of a.path.loads) x) → new ≡ cur ++ x ∷ [] → FollowedTo us i old cur → FollowedTo us (i + 1) old new
  followed_next us i a old cur new x e f n h = (
    h.0 ++ x ∷ [],
    record {
      behind = n ∙ ap (λ (m : List At). m ++ x ∷ []) h.1.behind ∙ assoc old h.0 (x ∷ []);
      count = length-append h.0 (x ∷ []) ∙ ap (λ (m : ℕ). m + 1) h.1.count ∙ sym (ap length (take_accesses us i a e) ∙ length-append (take i us) (a ∷ []));
      given = subst (λ (bs : List Rooted). accesses_in p s t bs ≡ Some (accesses_with bs (h.0 ++ x ∷ []))) (sym (take_accesses us i a e)) (given_last (take i us) a h.0 x h.1.count h.1.given f);
    },
  )

  pub followed_none : (us : List Rooted) (i : ℕ) (a : Rooted) (old cur : List At) → slice_get us i ≡ Some a → followed_in p s t a.path ≡ None → FollowedTo us i old cur
      → Adds p s t us old false cur
  followed_none us i a old cur e f h = (
    h.0,
    record {
      behind = h.1.behind;
      none = ap (accesses_in p s t) (split_at us (i + 1) ∙ ap (λ (bs : List Rooted). bs ++ drop (i + 1) us) (take_accesses us i a e))
          ∙ none_front (take i us ++ a ∷ []) (drop (i + 1) us) (none_last (take i us) a f);
    },
  )
