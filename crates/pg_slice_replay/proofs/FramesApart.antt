-- Whether a store's bounds meet those from which a path loads, pointer by pointer.
use Rattle.std.proofs.Common.{◌≡◌, ℕ, ◌+◌, ◌≤◌, List, [], ◌∷◌, Bool, true, false, refl, sym, ap, ◌∙◌}
use mathlib.Core.Path.{fun_ext}
use Rattle.std.specs.Prelude.{◌&&◌, ◌||◌}
use Rattle.std.specs.List.{list_any}
use Rattle.pg_run_trace.specs.Races.{share}
use Rattle.pg_slice_rules.specs.Freeable.{FreeAccess, bounds_of, loads_from, stores_on}
use Rattle.pg_slice_replay.specs.Apart.{is_stored, loads_stored, stores_to}

-- ---- tests of lists

any_none : {A : Type 0} (xs : List A) → list_any (λ (x : A). false) xs ≡ false
any_none [] = refl
any_none (x ∷ xs) = any_none xs

or_shuffle : (a b c d : Bool) → ((a || b) || (c || d)) ≡ ((a || c) || (b || d))
or_shuffle true b c d = refl
or_shuffle false true true d = refl
or_shuffle false true false d = refl
or_shuffle false false c d = refl

any_or : {A : Type 0} (f g : A → Bool) (xs : List A) → list_any (λ (x : A). f x || g x) xs ≡ (list_any f xs || list_any g xs)
any_or f g [] = refl
any_or f g (x ∷ xs) = ap (λ b. (f x || g x) || b) (any_or f g xs) ∙ or_shuffle (f x) (g x) (list_any f xs) (list_any g xs)

any_same : {A : Type 0} (f g : A → Bool) (xs : List A) → ((x : A) → f x ≡ g x) → list_any f xs ≡ list_any g xs
any_same f g xs h = ap (λ t. list_any t xs) (fun_ext h)

-- two tests change places
any_swap : {A B : Type 0} (f : A → B → Bool) (xs : List A) (ys : List B) → list_any (λ (a : A). list_any (f a) ys) xs ≡ list_any (λ (b : B). list_any (λ (a : A). f a b) xs) ys
any_swap {A} {B} f [] ys = sym (any_none ys)
any_swap {A} {B} f (x ∷ xs) ys =
    ap (λ b. list_any (f x) ys || b) (any_swap f xs ys) ∙ sym (any_or (f x) (λ (b : B). list_any (λ (a : A). f a b) xs) ys)

any_and : {A : Type 0} (b : Bool) (f : A → Bool) (xs : List A) → (b && list_any f xs) ≡ list_any (λ (x : A). b && f x) xs
any_and true f xs = refl
any_and false f xs = sym (any_none xs)

-- ---- stores and loads

-- a path of b loads from where a stores
abbrev meets : FreeAccess → FreeAccess → Bool
meets a b = list_any (λ from. stores_to from a) b.at.pointers

stores_is : (xs : List FreeAccess) (a : FreeAccess) → stores_on xs a ≡ list_any (meets a) xs
stores_is xs a =
    any_and a.writes (loads_from a.at.last) xs
    ∙ any_same (λ (b : FreeAccess). a.writes && loads_from a.at.last b) (meets a) xs (λ b. any_and a.writes (λ from. share (bounds_of a.at.last) (bounds_of from)) b.at.pointers)

-- a store meets what is loaded exactly where a pointer of a load is stored to
pub stored_is : (xs : List FreeAccess) → list_any (stores_on xs) xs ≡ list_any (loads_stored xs) xs
stored_is xs =
    any_same (stores_on xs) (λ a. list_any (meets a) xs) xs (stores_is xs)
    ∙ any_swap meets xs xs
    ∙ any_same (λ (b : FreeAccess). list_any (λ (a : FreeAccess). meets a b) xs) (λ (b : FreeAccess). list_any (is_stored xs) b.at.pointers) xs
    (λ b. any_swap (λ (a : FreeAccess) (from : ℕ). stores_to from a) xs b.at.pointers)
