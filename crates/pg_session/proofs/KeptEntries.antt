-- What is kept: which value a search finds, that entries stay those of the program, and how many there are.
use Rattle.std.proofs.Common.{◌≡◌, ℕ, ℤ, zero, suc, ◌+◌, ◌-◌, ◌≤◌, Bool, true, false, cond, List, [], ◌∷◌, ◌++◌, length, map, refl, sym, ap, ◌∙◌}
use Rattle.std.proofs.Common.{subst, arith, Option, Some, None}
use Rattle.std.specs.Prelude.{nat_lt, slice_get, All, OnErr, Result, Ok, Err}
use Rattle.pg_cache.specs.Kept.{Kept, first_from, oldest, value_of, with_value}
use Rattle.std.proofs.lemmas.List.Elements.{All-drop, All-head, All-nil, All-push, All-tail}
use Rattle.pg_session.specs.Progress.{Stands}
use Rattle.pg_session.specs.Sessions.{Answer, Answers, AnswersAll, AnswersLine, IsEntryOf, IsExact, Runs, begin, by_recording, by_refusal, by_reuse, by_untested, found, of_recording}

-- a number that is found is that of a value, whose answer is true
pub record IsAt {X : Type 0} (test : X → Bool) (xs : List X) (from k : ℕ) : Type 0 where
  pub above : from ≤ k
  pub value : X
  pub at : slice_get xs (k - from) ≡ Some value
  pub holds : test value ≡ true

later : {X : Type 0} (test : X → Bool) (x : X) (xs : List X) (n k : ℕ) → IsAt test xs (suc n) k → IsAt test (x ∷ xs) n k
later test x xs n k h =
    let e : k - n ≡ suc (k - suc n) = omega (arith, h.above) in
    record { above = omega (arith, h.above); value = h.value; at = ap (slice_get (x ∷ xs)) e ∙ h.at; holds = h.holds }

pub same_some : {V : Type 0} (x y : V) → Some x ≡ Some y → x ≡ y
same_some x y e = cc

pub some_apart : {V : Type 0} (x : V) → Some x ≡ None → ⊥
some_apart x e = absurd cc

pub is_found : {X : Type 0} (test : X → Bool) (xs : List X) (n k : ℕ) → first_from n (map test xs) ≡ Some k → IsAt test xs n k
unfolding first_from
is_found test [] n k e = absurd cc
is_found test (x ∷ xs) n k e = go (test x) refl e (is_found test xs (suc n) k)
  where
    go : (b : Bool) → test x ≡ b → cond b (Some n) (first_from (suc n) (map test xs)) ≡ Some k
        → (first_from (suc n) (map test xs) ≡ Some k → IsAt test xs (suc n) k) → IsAt test (x ∷ xs) n k
    go true t h rest =
        let same : n ≡ k = same_some n k h in
        let none : k - n ≡ 0 = omega (arith, same) in
        record { above = omega (arith, same); value = x; at = ap (slice_get (x ∷ xs)) none; holds = t }
    go false t h rest = later test x xs n k (rest h)

not-below : (a b : ℕ) → b ≤ a → nat_lt a b ≡ false
not-below a b h = grind (arith, h)

-- the value that is found
pub record IsKept {V : Type 0} (admits : V → List ℤ → Bool) (kept : Kept V) (input : List ℤ) (k : ℕ) : Type 0 where
  pub value : V
  pub is_value : value_of kept k ≡ Some value
  pub among : slice_get kept.values (k - oldest kept) ≡ Some value
  pub admitted : admits value input ≡ true

pub kept_value : {V : Type 0} (admits : V → List ℤ → Bool) (kept : Kept V) (input : List ℤ) (k : ℕ) → found admits kept input ≡ Some k → IsKept admits kept input k
kept_value admits kept input k e =
    let h = is_found (λ v. admits v input) kept.values (oldest kept) k e in
    let test : nat_lt k (oldest kept) ≡ false = not-below k (oldest kept) h.above in
    record {
      value = h.value;
      is_value = ap (λ b. cond b None (slice_get kept.values (k - oldest kept))) test ∙ h.at;
      among = h.at;
      admitted = h.holds;
    }

-- ---- the entries stay those of the program

pub at_place : {X : Type 0} (P : X → Type 0) (xs : List X) (k : ℕ) (x : X) → All P xs → slice_get xs k ≡ Some x → P x
at_place P [] zero x h e = absurd cc
at_place P [] (suc k) x h e = absurd cc
at_place P (y ∷ ys) zero x h e = subst P (same_some y x e) (All-head P y ys h)
at_place P (y ∷ ys) (suc k) x h e = at_place P ys k x (All-tail P y ys h) e

pub entry_of : {V : Type 0} (runs : Runs V) (kept : Kept V) (k : ℕ) (v : V) → Stands runs kept → slice_get kept.values k ≡ Some v → IsEntryOf runs v
entry_of runs kept k v h e = at_place (IsEntryOf runs) kept.values k v h.entries e

stands_with : {M : Type 0} (runs : Runs M) (kept : Kept M) (entry : M) → Stands runs kept → IsEntryOf runs entry → Stands runs (with_value entry kept)
stands_with runs kept entry h e = record {
  size = h.size;
  entries = All-drop (IsEntryOf runs) (length (kept.values ++ entry ∷ []) - kept.size) (kept.values ++ entry ∷ []) (All-push (IsEntryOf runs) kept.values entry h.entries e);
}

stands_after : {M : Type 0} (admits : M → List ℤ → Bool) (runs : Runs M) (kept next : Kept M) (input : List ℤ) (answer : Answer)
    → Answers admits runs kept input answer next → Stands runs kept → Stands runs next
stands_after admits runs kept next input answer (by_reuse h) s = subst (Stands runs) (sym h.stays) s
stands_after admits runs kept next input answer (by_recording h) s =
    subst (Stands runs) (sym h.grows) (stands_with runs kept h.entry s (of_recording (record { input = input; output = answer.output; end = h.end; recording = h.recording })))
stands_after admits runs kept next input answer (by_refusal h) s = subst (Stands runs) (sym h.stays) s
stands_after admits runs kept next input answer (by_untested h) s = subst (Stands runs) (sym h.stays) s

pub stands_line : {M : Type 0} (admits : M → List ℤ → Bool) (runs : Runs M) (kept next : Kept M) (input : Option (List ℤ)) (answer : Answer)
    → AnswersLine admits runs kept input answer next → Stands runs kept → Stands runs next
stands_line admits runs kept next None answer h s = subst (Stands runs) (sym h.1) s
stands_line admits runs kept next (Some input) answer h s = stands_after admits runs kept next input answer h s

pub stands_all : {M : Type 0} (admits : M → List ℤ → Bool) (runs : Runs M) (kept last : Kept M) (inputs : List (Option (List ℤ))) (answers : List Answer)
    → AnswersAll admits runs kept inputs answers last → Stands runs kept → Stands runs last
stands_all admits runs kept last [] answers h s = subst (Stands runs) (sym h.1) s
stands_all admits runs kept last (x ∷ xs) answers h s =
    stands_all admits runs h.next last xs h.rest h.are_rest (stands_line admits runs kept h.next x h.first h.is_first s)

-- each line adds one entry at most
pub grows_line : {M : Type 0} (admits : M → List ℤ → Bool) (runs : Runs M) (kept next : Kept M) (input : Option (List ℤ)) (answer : Answer)
    → AnswersLine admits runs kept input answer next → next.inserted ≤ kept.inserted + 1
grows_line admits runs kept next None answer h = let e = ap (λ (k : Kept _). k.inserted) h.1 in omega (arith, e)
grows_line admits runs kept next (Some input) answer (by_reuse h) = let e = ap (λ (k : Kept _). k.inserted) h.stays in omega (arith, e)
grows_line admits runs kept next (Some input) answer (by_recording h) = let e = ap (λ (k : Kept _). k.inserted) h.grows in omega (arith, e)
grows_line admits runs kept next (Some input) answer (by_refusal h) = let e = ap (λ (k : Kept _). k.inserted) h.stays in omega (arith, e)
grows_line admits runs kept next (Some input) answer (by_untested h) = let e = ap (λ (k : Kept _). k.inserted) h.stays in omega (arith, e)

pub grows_all : {M : Type 0} (admits : M → List ℤ → Bool) (runs : Runs M) (kept last : Kept M) (inputs : List (Option (List ℤ))) (answers : List Answer)
    → AnswersAll admits runs kept inputs answers last → last.inserted ≤ kept.inserted + length inputs
grows_all admits runs kept last [] answers h = let e = ap (λ (k : Kept _). k.inserted) h.1 in omega (arith, e)
grows_all admits runs kept last (x ∷ xs) answers h =
    let a = grows_line admits runs kept h.next x h.first h.is_first in
    let b = grows_all admits runs h.next last xs h.rest h.are_rest in
    omega (arith, a, b)

pub stands_begin : {M : Type 0} (runs : Runs M) → Stands runs (begin {M = M})
stands_begin runs = record { size = refl; entries = All-nil (IsEntryOf runs) }

-- a search leaves what is kept
same_values : {V M : Type 0} (f : V → M) → IsExact f → (xs ys : List V) → map f xs ≡ map f ys → xs ≡ ys
same_values f exact [] [] e = refl
same_values f exact [] (y ∷ ys) e = absurd cc
same_values f exact (x ∷ xs) [] e = absurd cc
same_values f exact (x ∷ xs) (y ∷ ys) e =
    let here : x ≡ y = exact x y (cc) in
    let rest : xs ≡ ys = same_values f exact xs ys (cc) in
    rw (here, rest) refl

abbrev of_parts : {V : Type 0} → ℕ → ℕ → List V → Kept V
of_parts size inserted values = record { size = size; inserted = inserted; values = values }

pub search_stays : {V M : Type 0} (f : V → M) (old new : Kept V) → IsExact f → (new.size ≡ old.size) × (new.inserted ≡ old.inserted)
    → map f new.values ≡ map f old.values → new ≡ old
search_stays f old new exact c s =
    let values : new.values ≡ old.values = same_values f exact new.values old.values s in
    ap (λ n. of_parts n new.inserted new.values) c.0 ∙ ap (λ n. of_parts old.size n new.values) c.1 ∙ ap (of_parts old.size old.inserted) values

-- what holds anyway holds on an error
pub on_err : {A E : Type 0} {P : Type 0} (result : Result A E) → P → OnErr result P
on_err (Ok a) h = tt
on_err (Err e) h = h
