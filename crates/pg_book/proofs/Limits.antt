-- What is read as a book is within the limits of one.
use Rattle.std.proofs.Common.{◌≡◌, ℕ, ℤ, suc, ◌<◌, ◌≤◌, List, [], ◌∷◌, length, Bool, true, false, codes, Option, Some, None, option_map, option_and_then, nat_lt, nat_le, if◌then◌else◌, refl, sym, ap, ◌∙◌, subst, arith}
use Rattle.std.specs.List.{All}
use Rattle.std.proofs.lemmas.Bool.{leb-true, ltb-true}
use Rattle.std.proofs.lemmas.List.Elements.{All-cons, All-nil}
use Rattle.std.proofs.lemmas.Option.{same_Some}
use Rattle.serde_json.specs.Data.{Data, Items, item, no_items}
use Rattle.serde_json.specs.Events.{items_len}
use Rattle.serde_json.specs.Find.{at}
use Rattle.pg_num.specs.declared.limits.TheConstants.{NUMBERS_LIMIT, RECORDING_STEP_LIMIT, THREAD_LIMIT}
use Rattle.pg_ir.specs.declared.ids.InstrId.{InstrId}
use Rattle.pg_run_trace.specs.declared.turn.Turn.{Turn}
use Rattle.pg_run_trace.specs.declared.turn.TurnKind.{TurnKind}
use Rattle.pg_book.specs.Parts.{BookEntryParts}
use Rattle.pg_book.specs.Values.{all_as, as_entry, as_gated, as_id, as_natural, as_natural_below, as_signed, as_turn, ascend_from, entry_with, few_as, has_items, has_members, if_ascending, if_below, list_at, turn_with}
use Rattle.pg_book.specs.Books.{AreLimited, IsBook, IsLimited}

-- ---- lists of items

module _ {A : Type 0} (f : Data → Option A) where
  more : (o : Option A) (os : Option (List A)) (xs : List A) (n : ℕ) → ((ys : List A) → os ≡ Some ys → length ys ≡ n)
      → option_and_then (λ x. option_map (λ ys. x ∷ ys) os) o ≡ Some xs → length xs ≡ suc n
  more None os xs n h e = absurd cc
  more (Some x) None xs n h e = absurd cc
  more (Some x) (Some ys) xs n h e = sym (ap length (same_Some (x ∷ ys) xs e)) ∙ ap suc (h ys refl)

  -- as many as there are items
  as_many : (ds : Items) (xs : List A) → all_as f ds ≡ Some xs → length xs ≡ items_len ds
  as_many no_items xs e = sym (ap length (same_Some [] xs e))
  as_many (item d ds) xs e = more (f d) (all_as f ds) xs (items_len ds) (λ ys h. as_many ds ys h) e

  module _ (P : A → Type 0) (each : (d : Data) (x : A) → f d ≡ Some x → P x) where
    first_and : (d : Data) (o : Option A) (os : Option (List A)) (xs : List A) → f d ≡ o → ((ys : List A) → os ≡ Some ys → All P ys)
        → option_and_then (λ x. option_map (λ ys. x ∷ ys) os) o ≡ Some xs → All P xs
    first_and d None os xs is h e = absurd cc
    first_and d (Some x) None xs is h e = absurd cc
    first_and d (Some x) (Some ys) xs is h e = subst (All P) (same_Some (x ∷ ys) xs e) (All-cons P x ys (each d x is) (h ys refl))

    -- what holds of each
    all_are : (ds : Items) (xs : List A) → all_as f ds ≡ Some xs → All P xs
    all_are no_items xs e = subst (All P) (same_Some [] xs e) (All-nil P)
    all_are (item d ds) xs e = first_and d (f d) (all_as f ds) xs refl (λ ys h. all_are ds ys h) e

  few_of : (n : ℕ) (ds : Items) (xs : List A) → few_as f n ds ≡ Some xs → (items_len ds ≤ n) × (all_as f ds ≡ Some xs)
  few_of n ds xs e = go (nat_le (items_len ds) n) refl e
    where
      go : (b : Bool) → nat_le (items_len ds) n ≡ b → option_and_then (all_as f) (if b then Some ds else None) ≡ Some xs → (items_len ds ≤ n) × (all_as f ds ≡ Some xs)
      go true t h = (leb-true (items_len ds) n t, h)
      go false t h = absurd cc

  few_in : (n : ℕ) (o : Option Items) (xs : List A) → option_and_then (few_as f n) o ≡ Some xs → (ds : Items) × (items_len ds ≤ n) × (all_as f ds ≡ Some xs)
  few_in n None xs e = absurd cc
  few_in n (Some ds) xs e = let h = few_of n ds xs e in (ds, h.0, h.1)

  few_are : (n : ℕ) (o : Option Items) (xs : List A) → option_and_then (few_as f n) o ≡ Some xs → length xs ≤ n
  few_are n o xs e =
      let h = few_in n o xs e in
      let few = h.1 in
      let many = as_many h.0 xs h.2 in
      omega (arith, few, many)

-- ---- turns

below : (bound : ℕ) (o : Option ℕ) (n : ℕ) → option_and_then (if_below bound) o ≡ Some n → n < bound
below bound None n e = absurd cc
below bound (Some m) n e = go (nat_lt m bound) refl e
  where
    go : (b : Bool) → nat_lt m bound ≡ b → (if b then Some m else None) ≡ Some n → n < bound
    go true t h = subst (λ k. k < bound) (same_Some m n h) (ltb-true m bound t)
    go false t h = absurd cc

number_below : (bound : ℕ) (o : Option Data) (n : ℕ) → option_and_then (as_natural_below bound) o ≡ Some n → n < bound
number_below bound None n e = absurd cc
number_below bound (Some d) n e = below bound (as_natural d) n e

abbrev IsOfThread : Turn → Type 0
IsOfThread t = t.thread.0 < THREAD_LIMIT

of_parts : (t : Option ℕ) (i : Option InstrId) (k : Option TurnKind) (o : Option ℕ) (u : Turn) → ((n : ℕ) → t ≡ Some n → n < THREAD_LIMIT) → turn_with t i k o ≡ Some u → IsOfThread u
of_parts (Some t) (Some i) (Some k) (Some o) u h e = subst IsOfThread (same_Some _ u e) (h t refl)
of_parts (Some t) (Some i) (Some k) None u h e = absurd cc
of_parts (Some t) (Some i) None o u h e = absurd cc
of_parts (Some t) None k o u h e = absurd cc
of_parts None i k o u h e = absurd cc

of_thread : (d : Data) (u : Turn) → as_turn d ≡ Some u → IsOfThread u
of_thread d u e = go (has_items 4 d) _ _ _ _ (λ n h. number_below THREAD_LIMIT (at 0 d) n h) e
  where
    go : (b : Bool) (t : Option ℕ) (i : Option InstrId) (k : Option TurnKind) (o : Option ℕ) → ((n : ℕ) → t ≡ Some n → n < THREAD_LIMIT)
        → (if b then turn_with t i k o else None) ≡ Some u → IsOfThread u
    go true t i k o h q = of_parts t i k o u h q
    go false t i k o h q = absurd cc

turns_have_threads : (n : ℕ) (o : Option Items) (us : List Turn) → option_and_then (few_as as_turn n) o ≡ Some us → All IsOfThread us
turns_have_threads n o us e = let h = few_in as_turn n o us e in all_are as_turn IsOfThread of_thread h.0 us h.2

-- ---- loads and stores

ascends_if : (o : Option (List InstrId)) (ids : List InstrId) → option_and_then if_ascending o ≡ Some ids → ascend_from 0 ids ≡ true
ascends_if None ids e = absurd cc
ascends_if (Some xs) ids e = go (ascend_from 0 xs) refl e
  where
    go : (b : Bool) → ascend_from 0 xs ≡ b → (if b then Some xs else None) ≡ Some ids → ascend_from 0 ids ≡ true
    go true t h = subst (λ l. ascend_from 0 l ≡ true) (same_Some xs ids h) t
    go false t h = absurd cc

gated_ascends : (o : Option Items) (ids : List InstrId) → option_and_then as_gated o ≡ Some ids → ascend_from 0 ids ≡ true
gated_ascends None ids e = absurd cc
gated_ascends (Some ds) ids e = ascends_if (all_as as_id ds) ids e

-- ---- entries

entry_of_parts : (gated : Option (List InstrId)) (input : Option (List ℤ)) (turns : Option (List Turn)) (e : BookEntryParts)
    → ((ids : List InstrId) → gated ≡ Some ids → ascend_from 0 ids ≡ true) → ((ns : List ℤ) → input ≡ Some ns → length ns ≤ NUMBERS_LIMIT)
    → ((us : List Turn) → turns ≡ Some us → (length us ≤ RECORDING_STEP_LIMIT) × All IsOfThread us) → entry_with gated input turns ≡ Some e → IsLimited e
entry_of_parts (Some ids) (Some ns) (Some us) e a b c h =
    let t = c us refl in
    subst IsLimited (same_Some _ e h) (record { input = b ns refl; turns = t.0; threads = t.1; gated = a ids refl })
entry_of_parts (Some ids) (Some ns) None e a b c h = absurd cc
entry_of_parts (Some ids) None turns e a b c h = absurd cc
entry_of_parts None input turns e a b c h = absurd cc

entry_limited : (d : Data) (e : BookEntryParts) → as_entry d ≡ Some e → IsLimited e
entry_limited d e h =
    go (has_members 3 d) _ _ _ (λ ids g. gated_ascends (list_at (codes "gated") d) ids g) (λ ns g. few_are as_signed NUMBERS_LIMIT (list_at (codes "input") d) ns g)
    (λ us g. (few_are as_turn RECORDING_STEP_LIMIT (list_at (codes "turns") d) us g, turns_have_threads RECORDING_STEP_LIMIT (list_at (codes "turns") d) us g)) h
  where
    go : (b : Bool) (gated : Option (List InstrId)) (input : Option (List ℤ)) (turns : Option (List Turn))
        → ((ids : List InstrId) → gated ≡ Some ids → ascend_from 0 ids ≡ true) → ((ns : List ℤ) → input ≡ Some ns → length ns ≤ NUMBERS_LIMIT)
        → ((us : List Turn) → turns ≡ Some us → (length us ≤ RECORDING_STEP_LIMIT) × All IsOfThread us) → (if b then entry_with gated input turns else None) ≡ Some e → IsLimited e
    go true gated input turns x y z q = entry_of_parts gated input turns e x y z q
    go false gated input turns x y z q = absurd cc

pub book_limited : (bytes : List ℕ) (es : List BookEntryParts) → IsBook bytes es → AreLimited es
book_limited bytes es h =
    let few = h.so.0 in
    let many = as_many as_entry h.items es h.so.1 in
    (omega (arith, few, many), all_are as_entry IsLimited entry_limited h.items es h.so.1)
