-- Rows stand for the same when more is added behind.
use Rattle.std.proofs.Common.{◌≡◌, ℕ, zero, suc, ◌+◌, ◌≤◌, List, [], ◌∷◌, ◌++◌, length, map, drop, Option, Some, None, refl, ap, ◌∙◌, arith}
use Rattle.std.specs.Prelude.{slice_get}
use Rattle.std.specs.List.{AllByRecursion}
use Rattle.std.proofs.lemmas.List.{length-append}
use Rattle.pg_region_accesses.specs.declared.rooted.Rooted.{Rooted}
use Rattle.pg_slice_rules.specs.Freeable.{FreeAccess}
use Rattle.pg_slice_replay.specs.declared.at.At.{At}
use Rattle.pg_slice_replay.specs.declared.found.FoundRegion.{FoundRegion}
use Rattle.pg_slice_replay.specs.declared.row.FreeStep.{FreeStep}
use Rattle.pg_slice_replay.specs.declared.row.Row.{Row}
use Rattle.pg_slice_replay.specs.Kept.{FitsBy, FitsIn, FitsRow, free_by, free_in, landmark_in}
use Rattle.pg_slice_replay.specs.Landmarks.{Landmark}
use Rattle.pg_slice_replay.specs.Paths.{access_at, accesses_with}

pub drop_front : (xs ys : List At) (n : ℕ) → n ≤ length xs → drop n (xs ++ ys) ≡ drop n xs ++ ys
drop_front xs ys zero h = refl
drop_front [] ys (suc n) h = absurd (omega (arith, h))
drop_front (x ∷ xs) ys (suc n) h = drop_front xs ys n (omega (arith, h))

pub drop_all : (xs ys : List At) → drop (length xs) (xs ++ ys) ≡ ys
drop_all [] ys = refl
drop_all (x ∷ xs) ys = drop_all xs ys

pub length_drop : (xs : List At) (n : ℕ) → n ≤ length xs → n + length (drop n xs) ≡ length xs
length_drop xs zero h = omega arith
length_drop [] (suc n) h = absurd (omega (arith, h))
length_drop (x ∷ xs) (suc n) h = omega (arith, length_drop xs n (omega (arith, h)))

-- only the first count
pub with_front : (us : List Rooted) (xs ys : List At) → length us ≤ length xs → accesses_with us (xs ++ ys) ≡ accesses_with us xs
with_front [] xs ys h = refl
with_front (a ∷ us) [] ys h = absurd (omega (arith, h))
with_front (a ∷ us) (x ∷ xs) ys h = ap (λ (l : List FreeAccess). access_at a x ∷ l) (with_front us xs ys (omega (arith, h)))

by_more : (ats ys : List At) (first : ℕ) (o : Option FoundRegion) → FitsBy ats first o → free_by (ats ++ ys) first o ≡ free_by ats first o
by_more ats ys first None h = refl
by_more ats ys first (Some r) h =
    let below : first ≤ length ats = omega (arith, h) in
    let e : accesses_with r.accesses.items (drop first (ats ++ ys)) ≡ accesses_with r.accesses.items (drop first ats) =
    ap (λ l. accesses_with r.accesses.items l) (drop_front ats ys first below) ∙ with_front r.accesses.items (drop first ats) ys (omega (arith, h, length_drop ats first below)) in
    rw e refl

free_more : (ats ys : List At) (regions : List FoundRegion) (o : Option FreeStep) → FitsIn ats regions o → free_in (ats ++ ys) regions o ≡ free_in ats regions o
free_more ats ys regions None h = refl
free_more ats ys regions (Some f) h = by_more ats ys f.first (slice_get regions f.region) h

pub row_more : (ats ys : List At) (regions : List FoundRegion) (r : Row) → FitsRow ats regions r → landmark_in (ats ++ ys) regions r ≡ landmark_in ats regions r
row_more ats ys regions r h = rw (free_more ats ys regions r.free h) refl

pub rows_more : (ats ys : List At) (regions : List FoundRegion) (rs : List Row) → AllByRecursion (FitsRow ats regions) rs
    → map (landmark_in (ats ++ ys) regions) rs ≡ map (landmark_in ats regions) rs
rows_more ats ys regions [] h = refl
rows_more ats ys regions (r ∷ rs) h =
    ap (λ (l : Landmark). l ∷ map (landmark_in (ats ++ ys) regions) rs) (row_more ats ys regions r h.0)
    ∙ ap (λ (l : List Landmark). landmark_in ats regions r ∷ l) (rows_more ats ys regions rs h.1)

by_fits : (ats ys : List At) (first : ℕ) (o : Option FoundRegion) → FitsBy ats first o → FitsBy (ats ++ ys) first o
by_fits ats ys first None h = tt
by_fits ats ys first (Some r) h = omega (arith, h, length-append ats ys)

in_fits : (ats ys : List At) (regions : List FoundRegion) (o : Option FreeStep) → FitsIn ats regions o → FitsIn (ats ++ ys) regions o
in_fits ats ys regions None h = tt
in_fits ats ys regions (Some f) h = by_fits ats ys f.first (slice_get regions f.region) h

pub fits_more : (ats ys : List At) (regions : List FoundRegion) (rs : List Row) → AllByRecursion (FitsRow ats regions) rs → AllByRecursion (FitsRow (ats ++ ys) regions) rs
fits_more ats ys regions [] h = tt
fits_more ats ys regions (r ∷ rs) h = (in_fits ats ys regions r.free h.0, fits_more ats ys regions rs h.1)

pub fits_last : (ats : List At) (regions : List FoundRegion) (rs : List Row) (r : Row) → AllByRecursion (FitsRow ats regions) rs → FitsRow ats regions r
    → AllByRecursion (FitsRow ats regions) (rs ++ r ∷ [])
fits_last ats regions [] r h k = (k, tt)
fits_last ats regions (q ∷ rs) r h k = (h.0, fits_last ats regions rs r h.1 k)

pub map_last : {A B : Type 0} (f : A → B) (xs : List A) (x : A) → map f (xs ++ x ∷ []) ≡ map f xs ++ f x ∷ []
map_last f [] x = refl
map_last f (y ∷ xs) x = ap (λ l. f y ∷ l) (map_last f xs x)

-- ---- one access of a row

nothing_at : (k : ℕ) → slice_get {X = FreeAccess} [] k ≡ None
nothing_at zero = refl
nothing_at (suc k) = refl

pub with_at : (us : List Rooted) (xs : List At) (k : ℕ) (a : Rooted) (x : At) → slice_get us k ≡ Some a → slice_get xs k ≡ Some x
    → slice_get (accesses_with us xs) k ≡ Some (access_at a x)
with_at [] xs zero a x e f = absurd cc
with_at [] xs (suc k) a x e f = absurd cc
with_at (b ∷ us) [] zero a x e f = absurd cc
with_at (b ∷ us) [] (suc k) a x e f = absurd cc
with_at (b ∷ us) (y ∷ xs) zero a x e f = let q : b ≡ a = cc in let r : y ≡ x = cc in rw (q, r) refl
with_at (b ∷ us) (y ∷ xs) (suc k) a x e f = with_at us xs k a x e f

pub without_access : (us : List Rooted) (xs : List At) (k : ℕ) → slice_get us k ≡ None → slice_get (accesses_with us xs) k ≡ None
without_access [] xs k e = nothing_at k
without_access (b ∷ us) [] k e = nothing_at k
without_access (b ∷ us) (y ∷ xs) zero e = absurd cc
without_access (b ∷ us) (y ∷ xs) (suc k) e = without_access us xs k e

pub without_at : (us : List Rooted) (xs : List At) (k : ℕ) → slice_get xs k ≡ None → slice_get (accesses_with us xs) k ≡ None
without_at [] xs k e = nothing_at k
without_at (b ∷ us) [] k e = nothing_at k
without_at (b ∷ us) (y ∷ xs) zero e = absurd cc
without_at (b ∷ us) (y ∷ xs) (suc k) e = without_at us xs k e
