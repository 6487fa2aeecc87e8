-- Accesses are added one after another.
use Rattle.std.proofs.Common.{◌≡◌, ℕ, zero, suc, ◌+◌, ◌<◌, ◌≤◌, Bool, true, false, List, [], ◌∷◌, ◌++◌, length, get_or, drop, Option, Some, None, refl, sym}
use Rattle.std.proofs.Common.{ap, ◌∙◌, subst, arith, append_assoc}
use Rattle.std.proofs.lemmas.List.{append-nil}
use Rattle.pg_region_accesses.specs.Accesses.{RootedList, both, gathered}
use Rattle.pg_region_accesses.specs.Appends.{Appends, behind}

pub step_true : (o rest : Option RootedList) (cur new : RootedList) → Appends o cur true new → behind cur (both o rest) ≡ behind new rest
step_true None rest cur new h = absurd h
step_true (Some listed) None cur new h = refl
step_true (Some listed) (Some bs) cur new h = ap (λ l. Some l) (sym (append_assoc cur listed bs) ∙ ap (λ l. l ++ bs) (sym h))

pub step_false : (o rest : Option RootedList) (cur new : RootedList) → Appends o cur false new → behind cur (both o rest) ≡ None
step_false None rest cur new h = refl
step_false (Some listed) rest cur new h = absurd h

pub appends_all : (o : Option RootedList) (old new : RootedList) → behind old o ≡ behind new (Some []) → Appends o old true new
appends_all None old new h = cc
appends_all (Some listed) old new h = let q : old ++ listed ≡ new ++ [] = cc in sym (q ∙ append-nil new)

pub appends_none : (o : Option RootedList) (old new : RootedList) → behind old o ≡ None → Appends o old false new
appends_none None old new h = tt
appends_none (Some listed) old new h = cc

pub gathered_at : {A : Type 0} (f : A → Option RootedList) (xs : List A) (i : ℕ) (d : A) → i < length xs → gathered f (drop i xs) ≡ both (f (get_or xs i d)) (gathered f (drop (i + 1) xs))
gathered_at f [] i d lt = absurd (omega arith)
gathered_at f (x ∷ xs) zero d lt = refl
gathered_at f (x ∷ xs) (suc i) d lt = let q : suc i + 1 ≡ suc (i + 1) = omega arith in rw q (gathered_at f xs i d (omega arith))

pub gathered_end : {A : Type 0} (f : A → Option RootedList) (xs : List A) (i : ℕ) → length xs ≤ i → gathered f (drop i xs) ≡ Some []
gathered_end f [] zero le = refl
gathered_end f [] (suc i) le = refl
gathered_end f (x ∷ xs) zero le = absurd (omega arith)
gathered_end f (x ∷ xs) (suc i) le = gathered_end f xs i (omega arith)

pub all_of : (o : Option RootedList) (new : RootedList) → behind [] o ≡ behind new (Some []) → o ≡ Some new
all_of None new h = cc
all_of (Some listed) new h = let q : listed ≡ new ++ [] = cc in ap (λ l. Some l) (q ∙ append-nil new)

pub none_of : (o : Option RootedList) → behind [] o ≡ None → o ≡ None
none_of None h = refl
none_of (Some listed) h = cc

-- what isn't appended isn't there
pub not_there : (o : Option RootedList) (old new : RootedList) → Appends o old false new → o ≡ None
not_there None old new h = refl
not_there (Some listed) old new h = absurd h

-- one of them isn't there, so nothing is gathered
pub stops_at : {A : Type 0} (f : A → Option RootedList) (xs : List A) (i : ℕ) (d : A) → i < length xs → (cur new : RootedList) (quiet : Bool) → quiet ≡ false
    → Appends (f (get_or xs i d)) cur quiet new →
    behind [] (gathered f xs) ≡ behind cur (gathered f (drop i xs)) → gathered f xs ≡ None
stops_at f xs i d lt cur new quiet q h e =
    none_of (gathered f xs) (e ∙ ap (λ o. behind cur o) (gathered_at f xs i d lt)
    ∙ step_false (f (get_or xs i d)) (gathered f (drop (i + 1) xs)) cur new (subst (λ (z : Bool). Appends (f (get_or xs i d)) cur z new) q h))

-- all are there
pub ends_at : {A : Type 0} (f : A → Option RootedList) (xs : List A) (i : ℕ) → length xs ≤ i → (cur : RootedList) → behind [] (gathered f xs) ≡ behind cur (gathered f (drop i xs))
    → gathered f xs ≡ Some cur
ends_at f xs i le cur e = all_of (gathered f xs) cur (e ∙ ap (λ o. behind cur o) (gathered_end f xs i le))
