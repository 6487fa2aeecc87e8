-- Paths that are followed once more, and lead to places that stand there.
use Rattle.std.proofs.Common.{◌≡◌, ℕ, zero, suc, ◌+◌, ◌≤◌, List, [], ◌∷◌, ◌++◌, length, take, Bool, true, false, Some, None, option_and_then, refl, sym, ap, ◌∙◌, arith}
use Rattle.std.specs.Prelude.{slice_get, if◌then◌else◌}
use Rattle.std.specs.List.{list_any}
use Rattle.pg_ir.specs.Program.{NumberedProgram}
use Rattle.pg_law_effects.specs.pg_run.State.{State}
use Rattle.pg_run_memory.specs.Memory.{read}
use Rattle.pg_law_effects.specs.pg_run.Readers.{register_of}
use Rattle.pg_region_paths.specs.declared.path.RootPath.{RootPath}
use Rattle.pg_region_paths.specs.FollowedPaths.{followed_from, root_value}
use Rattle.pg_region_paths.specs.Paths.{offsets_of}
use Rattle.pg_region_accesses.specs.declared.rooted.Rooted.{Rooted}
use Rattle.pg_slice_rules.specs.Freeable.{FreeAccess, stores_on}
use Rattle.pg_slice_replay.specs.declared.at.At.{At}
use Rattle.pg_slice_replay.specs.Apart.{apart}
use Rattle.pg_slice_replay.specs.Paths.{access_at, accesses_in, accesses_with, along, followed_in}
use Rattle.pg_slice_replay.proofs.FollowedPaths.{FollowedTo, followed_next}

-- ---- lists

take_next : (xs : List At) (i : ℕ) (x : At) → slice_get xs i ≡ Some x → take (i + 1) xs ≡ take i xs ++ x ∷ []
take_next [] zero x e = absurd cc
take_next [] (suc i) x e = absurd cc
take_next (y ∷ xs) zero x e = let q : y ≡ x = cc in ap (λ (z : At). z ∷ []) q
take_next (y ∷ xs) (suc i) x e = let q : suc i + 1 ≡ suc (i + 1) = omega arith in rw q (ap (λ (m : List At). y ∷ m) (take_next xs i x e))

all_places : (xs : List At) (i : ℕ) → length xs ≤ i → take i xs ≡ xs
all_places [] zero h = refl
all_places [] (suc i) h = refl
all_places (x ∷ xs) zero h = absurd (omega (arith, h))
all_places (x ∷ xs) (suc i) h = ap (λ (m : List At). x ∷ m) (all_places xs i (omega (arith, h)))

all_accesses : (us : List Rooted) (i : ℕ) → length us ≤ i → take i us ≡ us
all_accesses [] zero h = refl
all_accesses [] (suc i) h = refl
all_accesses (u ∷ us) zero h = absurd (omega (arith, h))
all_accesses (u ∷ us) (suc i) h = ap (λ (m : List Rooted). u ∷ m) (all_accesses us i (omega (arith, h)))

-- places behind those that the accesses lead to don't count
pub with_taken : (us : List Rooted) (xs : List At) → accesses_with us (take (length us) xs) ≡ accesses_with us xs
with_taken [] xs = refl
with_taken (u ∷ us) [] = refl
with_taken (u ∷ us) (x ∷ xs) = ap (λ (l : List FreeAccess). access_at u x ∷ l) (with_taken us xs)

-- ---- one path

pub plain_path : (p : NumberedProgram) (s : State) (t : ℕ) (path : RootPath) (at : At) → offsets_of path.loads ≡ [] → root_value p (register_of s t) path.root ≡ Some at.last
    → followed_in p s t path ≡ Some (along (offsets_of path.loads) at)
plain_path p s t path at none e =
    ap (option_and_then (λ (word : ℕ). followed_from (read s.memory) word (offsets_of path.loads))) e
    ∙ ap (followed_from (read s.memory) at.last) none
    ∙ sym (ap (λ (ks : List ℕ). Some (along ks at)) none)

-- ---- the loop over the accesses

module _ (p : NumberedProgram) (s : State) (t : ℕ) where
  pub leads_next : (us : List Rooted) (i : ℕ) (a : Rooted) (xs : List At) (x : At) → slice_get us i ≡ Some a → slice_get xs i ≡ Some x
      → followed_in p s t a.path ≡ Some (along (offsets_of a.path.loads) x) → FollowedTo p s t us i [] (take i xs) → FollowedTo p s t us (i + 1) [] (take (i + 1) xs)
  leads_next us i a xs x e q f h = followed_next p s t us i a [] (take i xs) (take (i + 1) xs) x e f (take_next xs i x q) h

  pub leads_all : (us : List Rooted) (i : ℕ) (xs : List At) → length us ≤ i → length xs ≡ length us → FollowedTo p s t us i [] (take i xs)
      → accesses_in p s t us ≡ Some (accesses_with us xs)
  leads_all us i xs a c h =
      let whole : take i us ≡ us = all_accesses us i a in
      let places : take i xs ≡ xs = all_places xs i (omega (arith, a, c)) in
      let same : h.0 ≡ xs = sym h.1.behind ∙ places in
      ap (accesses_in p s t) (sym whole) ∙ h.1.given ∙ ap (λ (vs : List Rooted). Some (accesses_with vs h.0)) whole ∙ ap (λ (ys : List At). Some (accesses_with us ys)) same

  -- no store meets what is loaded
  pub apart_again : (us : List Rooted) (xs : List At) (stored : Bool) → accesses_in p s t us ≡ Some (accesses_with us xs)
      → stored ≡ list_any (stores_on (accesses_with us xs)) (accesses_with us xs) → stored ≡ false → apart (accesses_in p s t us) ≡ Some (accesses_with us xs)
  apart_again us xs stored e q n = ap apart e ∙ ap (λ (c : Bool). if c then None else Some (accesses_with us xs)) (sym q) ∙ go stored n
    where
      go : (c : Bool) → c ≡ false → (if c then None else Some (accesses_with us xs)) ≡ Some (accesses_with us xs)
      go true k = absurd cc
      go false k = refl
