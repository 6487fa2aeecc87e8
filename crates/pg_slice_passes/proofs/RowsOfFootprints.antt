-- Footprints in rows, as they are added, and what is asked where some of them are met.
use Rattle.std.proofs.Common.{◌≡◌, ℕ, zero, suc, ◌+◌, ◌<◌, ◌≤◌, Bool, true, false, List, [], ◌∷◌, ◌++◌, length, take, drop, map, Option, Some, None, refl, sym, ap, ◌∙◌, subst, arith, append-nil, append_assoc}
use Rattle.std.proofs.Common.{inl, inr}
use Rattle.std.specs.Prelude.{◌||◌, option_to_list, replicate, slice_get, if◌then◌else◌}
use Rattle.std.specs.List.{list_any, AllByRecursion}
use Rattle.std.proofs.lemmas.Bool.{false≢true}
use Rattle.pg_law_threads.proofs.ListPlaces.{drop_get, take_get}
use Rattle.pg_slice_conflicts.specs.declared.footprint.Footprint.{Footprint}
use Rattle.pg_slice_conflicts.specs.Meets.{is_met, meets}
use Rattle.pg_slice_conflicts.proofs.ListTests.{same_tests}
use Rattle.pg_law_demands.proofs.of_pg_law_least.FootprintsInOrder.{all_append, all_weaker}
use Rattle.pg_slice_rules.specs.declared.decision.Decision.{Decision}
use Rattle.pg_slice_rules.specs.Known.{Taken}
use Rattle.pg_slice_passes.specs.declared.footprints.Owner.{Owner}
use Rattle.pg_slice_passes.specs.declared.footprints.Footprints.{Footprints}
use Rattle.pg_slice_passes.specs.declared.rows.Row.{Row}
use Rattle.pg_slice_passes.specs.Footprints.{asks_of_met, met_asks}
use Rattle.pg_slice_passes.specs.Rows.{AddsNumber, AddsOne, AreRows, Begins, IsWithin, all_footprints, all_owners, asks_of_one, asks_of_rows, in_row, in_rows, owners_in}

-- ---- lists

take_more : {A : Type 0} (xs : List A) (x : A) (n : ℕ) → n ≤ length xs → take n (xs ++ x ∷ []) ≡ take n xs
take_more xs x zero h = refl
take_more [] x (suc n) h = absurd (omega (arith, h))
take_more (y ∷ xs) x (suc n) h = ap (λ l. y ∷ l) (take_more xs x n (omega (arith, h)))

drop_more : {A : Type 0} (xs : List A) (x : A) (n : ℕ) → n ≤ length xs → drop n (xs ++ x ∷ []) ≡ drop n xs ++ x ∷ []
drop_more [] x zero h = refl
drop_more [] x (suc n) h = absurd (omega (arith, h))
drop_more (y ∷ xs) x zero h = refl
drop_more (y ∷ xs) x (suc n) h = drop_more xs x n (omega (arith, h))

room : {A : Type 0} (xs : List A) (n c : ℕ) → n + c ≤ length xs → c ≤ length (drop n xs)
room [] zero c h = omega (arith, h)
room [] (suc n) c h = absurd (omega (arith, h))
room (x ∷ xs) zero c h = omega (arith, h)
room (x ∷ xs) (suc n) c h = room xs n c (omega (arith, h))

taken_length : {A : Type 0} (xs : List A) (n : ℕ) → n ≤ length xs → length (take n xs) ≡ n
taken_length xs zero h = refl
taken_length [] (suc n) h = absurd (omega (arith, h))
taken_length (x ∷ xs) (suc n) h = ap suc (taken_length xs n (omega (arith, h)))

get_drop : {A : Type 0} (xs : List A) (n i : ℕ) (x : A) → slice_get xs (n + i) ≡ Some x → slice_get (drop n xs) i ≡ Some x
get_drop [] n i x e = absurd cc
get_drop (y ∷ xs) zero i x e = let q : zero + i ≡ i = omega arith in subst (λ (k : ℕ). slice_get (y ∷ xs) k ≡ Some x) q e
get_drop (y ∷ xs) (suc n) i x e = let q : suc n + i ≡ suc (n + i) = omega arith in get_drop xs n i x (subst (λ (k : ℕ). slice_get (y ∷ xs) k ≡ Some x) q e)

replicate_more : {A : Type 0} (n : ℕ) (x : A) → replicate (n + 1) x ≡ replicate n x ++ x ∷ []
replicate_more zero x = refl
replicate_more (suc n) x = let q : suc n + 1 ≡ suc (n + 1) = omega arith in rw q (ap (λ l. x ∷ l) (replicate_more n x))

past_all : {A : Type 0} (xs : List A) (i : ℕ) → length xs ≤ i → drop i xs ≡ []
past_all [] zero h = refl
past_all [] (suc i) h = refl
past_all (x ∷ xs) zero h = absurd (omega (arith, h))
past_all (x ∷ xs) (suc i) h = past_all xs i (omega (arith, h))

all_before : {A : Type 0} (P : A → Type 0) (xs ys : List A) → AllByRecursion P (xs ++ ys) → AllByRecursion P xs
all_before P [] ys a = tt
all_before P (x ∷ xs) ys a = (a.0, all_before P xs ys a.1)

all_at : {A : Type 0} (P : A → Type 0) (xs : List A) (i : ℕ) (x : A) → AllByRecursion P xs → slice_get xs i ≡ Some x → P x
all_at P [] i x a h = absurd cc
all_at P (y ∷ xs) zero x a h = let e : y ≡ x = cc in subst P e a.0
all_at P (y ∷ xs) (suc i) x a h = all_at P xs i x a.1 h

-- ---- tests on lists

or_mono : (a b c : Bool) → (b ≡ true → c ≡ true) → (a || b) ≡ true → (a || c) ≡ true
or_mono true b c f h = refl
or_mono false b c f h = f h

or_first : (a b c : Bool) → (a ≡ true → b ≡ true) → (a || c) ≡ true → (b || c) ≡ true
or_first true b c f h = ap (λ (z : Bool). z || c) (f refl)
or_first false true c f h = refl
or_first false false c f h = h

or_either : (a b c : Bool) → (a ≡ true → c ≡ true) → (b ≡ true → c ≡ true) → (a || b) ≡ true → c ≡ true
or_either true b c f g h = f refl
or_either false b c f g h = g h

or_second : (a b : Bool) → b ≡ true → (a || b) ≡ true
or_second true b h = refl
or_second false b h = h

or_right_nested : (a b c : Bool) → ((a || b) || c) ≡ (a || (b || c))
or_right_nested true b c = refl
or_right_nested false b c = refl

module _ {A : Type 0} (t : A → Bool) where
  any_both : (xs ys : List A) → list_any t (xs ++ ys) ≡ (list_any t xs || list_any t ys)
  any_both [] ys = refl
  any_both (x ∷ xs) ys = ap (λ (b : Bool). t x || b) (any_both xs ys) ∙ sym (or_right_nested (t x) (list_any t xs) (list_any t ys))

  any_before : (xs ys : List A) → list_any t xs ≡ true → list_any t (xs ++ ys) ≡ true
  any_before xs ys h = any_both xs ys ∙ ap (λ (b : Bool). b || list_any t ys) h

  any_more : (xs ys : List A) (x : A) → (list_any t xs ≡ true → list_any t ys ≡ true) → list_any t (xs ++ x ∷ []) ≡ true → list_any t (ys ++ x ∷ []) ≡ true
  any_more xs ys x f h = any_both ys (x ∷ []) ∙ or_first (list_any t xs) (list_any t ys) (list_any t (x ∷ [])) f (sym (any_both xs (x ∷ [])) ∙ h)

  any_take : (xs : List A) (n : ℕ) → list_any t (take n xs) ≡ true → list_any t xs ≡ true
  any_take xs zero h = absurd (false≢true h)
  any_take [] (suc n) h = h
  any_take (x ∷ xs) (suc n) h = or_mono (t x) (list_any t (take n xs)) (list_any t xs) (λ k. any_take xs n k) h

  any_drop : (xs : List A) (n : ℕ) → list_any t (drop n xs) ≡ true → list_any t xs ≡ true
  any_drop [] zero h = h
  any_drop [] (suc n) h = h
  any_drop (x ∷ xs) zero h = h
  any_drop (x ∷ xs) (suc n) h = or_second (t x) (list_any t xs) (any_drop xs n h)

  -- what is true of one in a row is true of a kept one
  rows_any : (xs : List A) (rs : List Row) → list_any t (in_rows xs rs) ≡ true → list_any t xs ≡ true
  rows_any xs [] h = absurd (false≢true h)
  rows_any xs (r ∷ rs) h =
      or_either (list_any t (in_row xs r)) (list_any t (in_rows xs rs)) (list_any t xs) (λ k. any_drop xs r.from (any_take (drop r.from xs) r.count k)) (λ k. rows_any xs rs k)
      (sym (any_both (in_row xs r) (in_rows xs rs)) ∙ h)

-- ---- rows

module _ {A : Type 0} where
  row_length : (xs : List A) (r : Row) → r.from + r.count ≤ length xs → length (in_row xs r) ≡ r.count
  row_length xs r h = taken_length (drop r.from xs) r.count (room xs r.from r.count h)

  -- as one more is kept
  in_rows_more : (xs : List A) (x : A) (rs : List Row) → AllByRecursion (IsWithin (length xs)) rs → in_rows (xs ++ x ∷ []) rs ≡ in_rows xs rs
  in_rows_more xs x [] a = refl
  in_rows_more xs x (r ∷ rs) a =
      let h : r.from + r.count ≤ length xs = a.0 in
      let one : in_row (xs ++ x ∷ []) r ≡ in_row xs r =
      ap (λ (l : List A). take r.count l) (drop_more xs x r.from (omega (arith, h))) ∙ take_more (drop r.from xs) x r.count (room xs r.from r.count h) in
      ap (λ (l : List A). l ++ in_rows (xs ++ x ∷ []) rs) one ∙ ap (λ (l : List A). in_row xs r ++ l) (in_rows_more xs x rs a.1)

  in_rows_both : (xs : List A) (rs ss : List Row) → in_rows xs (rs ++ ss) ≡ in_rows xs rs ++ in_rows xs ss
  in_rows_both xs [] ss = refl
  in_rows_both xs (r ∷ rs) ss = ap (λ (l : List A). in_row xs r ++ l) (in_rows_both xs rs ss) ∙ sym (append_assoc (in_row xs r) (in_rows xs rs) (in_rows xs ss))

  added_rows : (xs : List A) (o : Owner) (n : ℕ) (x : A) (old new : List Row) → slice_get xs n ≡ Some x → AddsNumber o n old new → in_rows xs new ≡ in_rows xs old ++ x ∷ []
  added_rows xs o n x old new e (inl g) =
      let r : Row = record { owner = o; from = g.row.from; count = g.row.count + 1 } in
      let one : in_row xs r ≡ in_row xs g.row ++ x ∷ [] =
      take_get (drop g.row.from xs) g.row.count x (get_drop xs g.row.from g.row.count x (subst (λ (k : ℕ). slice_get xs k ≡ Some x) g.number e)) in
      let before : in_rows xs g.front ++ in_row xs g.row ≡ in_rows xs old =
      ap (λ (l : List A). in_rows xs g.front ++ l) (sym (append-nil (in_row xs g.row))) ∙ sym (in_rows_both xs g.front (g.row ∷ [])) ∙ ap (in_rows xs) (sym g.was) in
      ap (in_rows xs) g.longer ∙ in_rows_both xs g.front (r ∷ []) ∙ ap (λ (l : List A). in_rows xs g.front ++ l) (append-nil (in_row xs r) ∙ one)
      ∙ sym (append_assoc (in_rows xs g.front) (in_row xs g.row) (x ∷ [])) ∙ ap (λ (l : List A). l ++ x ∷ []) before
  added_rows xs o n x old new e (inr q) =
      let r : Row = record { owner = o; from = n; count = 1 } in
      let one : in_row xs r ≡ x ∷ [] = ap (λ (l : List A). take 1 l) (drop_get xs n x e) in
      ap (in_rows xs) q ∙ in_rows_both xs old (r ∷ []) ∙ ap (λ (l : List A). in_rows xs old ++ l) (append-nil (in_row xs r) ∙ one)

map_take : {A B : Type 0} (f : A → B) (xs : List A) (n : ℕ) → take n (map f xs) ≡ map f (take n xs)
map_take f xs zero = refl
map_take f [] (suc n) = refl
map_take f (x ∷ xs) (suc n) = ap (λ l. f x ∷ l) (map_take f xs n)

map_drop : {A B : Type 0} (f : A → B) (xs : List A) (n : ℕ) → drop n (map f xs) ≡ map f (drop n xs)
map_drop f [] zero = refl
map_drop f [] (suc n) = refl
map_drop f (x ∷ xs) zero = refl
map_drop f (x ∷ xs) (suc n) = map_drop f xs n

map_both : {A B : Type 0} (f : A → B) (xs ys : List A) → map f (xs ++ ys) ≡ map f xs ++ map f ys
map_both f [] ys = refl
map_both f (x ∷ xs) ys = ap (λ l. f x ∷ l) (map_both f xs ys)

map_rows : {A B : Type 0} (f : A → B) (xs : List A) (rs : List Row) → in_rows (map f xs) rs ≡ map f (in_rows xs rs)
map_rows f xs [] = refl
map_rows f xs (r ∷ rs) =
    ap (λ l. take r.count l ++ in_rows (map f xs) rs) (map_drop f xs r.from)
    ∙ ap (λ l. l ++ in_rows (map f xs) rs) (map_take f (drop r.from xs) r.count)
    ∙ ap (λ l. map f (in_row xs r) ++ l) (map_rows f xs rs)
    ∙ sym (map_both f (in_row xs r) (in_rows xs rs))

owners_both : (rs ss : List Row) → owners_in (rs ++ ss) ≡ owners_in rs ++ owners_in ss
owners_both [] ss = refl
owners_both (r ∷ rs) ss = ap (λ (l : List Owner). replicate r.count r.owner ++ l) (owners_both rs ss) ∙ sym (append_assoc (replicate r.count r.owner) (owners_in rs) (owners_in ss))

added_owners : (o : Owner) (n : ℕ) (old new : List Row) → AddsNumber o n old new → owners_in new ≡ owners_in old ++ o ∷ []
added_owners o n old new (inl g) =
    let r : Row = record { owner = o; from = g.row.from; count = g.row.count + 1 } in
    let before : owners_in g.front ++ replicate g.row.count o ≡ owners_in old =
    ap (λ (p : Owner). owners_in g.front ++ replicate g.row.count p) (sym g.owner)
    ∙ ap (λ (l : List Owner). owners_in g.front ++ l) (sym (append-nil (replicate g.row.count g.row.owner)))
    ∙ sym (owners_both g.front (g.row ∷ [])) ∙ ap owners_in (sym g.was) in
    ap owners_in g.longer ∙ owners_both g.front (r ∷ []) ∙ ap (λ (l : List Owner). owners_in g.front ++ l) (append-nil (replicate (g.row.count + 1) o) ∙ replicate_more g.row.count o)
    ∙ sym (append_assoc (owners_in g.front) (replicate g.row.count o) (o ∷ [])) ∙ ap (λ (l : List Owner). l ++ o ∷ []) before
added_owners o n old new (inr q) = ap owners_in q ∙ owners_both old (record { owner = o; from = n; count = 1 } ∷ [])

added_within : (k : ℕ) (o : Owner) (n : ℕ) (old new : List Row) → n < k → AddsNumber o n old new → AllByRecursion (IsWithin k) old → AllByRecursion (IsWithin k) new
added_within k o n old new h (inl g) a =
    let e = g.number in
    let last : g.row.from + (g.row.count + 1) ≤ k = omega (arith, e, h) in
    let front = all_before (IsWithin k) g.front (g.row ∷ []) (subst (AllByRecursion (IsWithin k)) g.was a) in
    subst (AllByRecursion (IsWithin k)) (sym g.longer)
    (all_append (IsWithin k) g.front (record { owner = o; from = g.row.from; count = g.row.count + 1 } ∷ []) front (last, tt))
added_within k o n old new h (inr q) a =
    let last : n + 1 ≤ k = omega (arith, h) in
    subst (AllByRecursion (IsWithin k)) (sym q) (all_append (IsWithin k) old (record { owner = o; from = n; count = 1 } ∷ []) a (last, tt))

within_more : (k m : ℕ) → k ≤ m → (r : Row) → r.from + r.count ≤ k → r.from + r.count ≤ m
within_more k m l r h = omega (arith, l, h)

-- ---- one footprint more

got_within : {A : Type 0} (xs : List A) (n : ℕ) (x : A) → slice_get xs n ≡ Some x → n < length xs
got_within [] n x h = absurd cc
got_within (y ∷ xs) zero x h = omega arith
got_within (y ∷ xs) (suc n) x h = let l = got_within xs n x h in omega (arith, l)

got_last : {A : Type 0} (xs : List A) (x : A) → slice_get (xs ++ x ∷ []) (length xs) ≡ Some x
got_last [] x = refl
got_last (y ∷ xs) x = got_last xs x

length_more : {A : Type 0} (xs : List A) (x : A) → length (xs ++ x ∷ []) ≡ length xs + 1
length_more [] x = refl
length_more (y ∷ xs) x = let e = length_more xs x in omega (arith, e)

-- a kept one is equal to it
pub added_again : (f : Footprint) (o : Owner) (n : ℕ) (old new : Footprints) → AreRows old → slice_get old.kept.items n ≡ Some f → new.kept.items ≡ old.kept.items
    → AddsNumber o n old.rows.items new.rows.items → AddsOne f o old new
added_again f o n old new r got same a =
    let ks = old.kept.items in
    let all : all_footprints new ≡ all_footprints old ++ f ∷ [] =
    ap (λ (l : List Footprint). in_rows l new.rows.items) same ∙ added_rows ks o n f old.rows.items new.rows.items got a in
    record {
      more = [];
      kept = same ∙ sym (append-nil ks);
      each = tt;
      footprints = all;
      owners = added_owners o n old.rows.items new.rows.items a;
      rows = record {
        within = subst (λ (l : List Footprint). AllByRecursion (IsWithin (length l)) new.rows.items) (sym same)
            (added_within (length ks) o n old.rows.items new.rows.items (got_within ks n f got) a r.within);
        used = λ t h. ap (list_any t) all ∙ any_before t (all_footprints old) (f ∷ []) (r.used t (sym (ap (list_any t) same) ∙ h));
      };
    }

-- it is kept as the last
pub added_kept : (f : Footprint) (o : Owner) (n : ℕ) (old new : Footprints) → AreRows old → n ≡ length old.kept.items → new.kept.items ≡ old.kept.items ++ f ∷ []
    → AddsNumber o n old.rows.items new.rows.items → AddsOne f o old new
added_kept f o n old new r number more a =
    let ks = old.kept.items in
    let os = old.rows.items in
    let ns = new.rows.items in
    let got : slice_get (ks ++ f ∷ []) n ≡ Some f = subst (λ (k : ℕ). slice_get (ks ++ f ∷ []) k ≡ Some f) (sym number) (got_last ks f) in
    let all : all_footprints new ≡ all_footprints old ++ f ∷ [] =
    ap (λ (l : List Footprint). in_rows l ns) more ∙ added_rows (ks ++ f ∷ []) o n f os ns got a ∙ ap (λ (l : List Footprint). l ++ f ∷ []) (in_rows_more ks f os r.within) in
    let long = length_more ks f in
    let os_within : AllByRecursion (IsWithin (length (ks ++ f ∷ []))) os =
    all_weaker (IsWithin (length ks)) (IsWithin (length (ks ++ f ∷ []))) os (within_more (length ks) (length (ks ++ f ∷ [])) (omega (arith, long))) r.within in
    record {
      more = f ∷ [];
      kept = more;
      each = (refl, tt);
      footprints = all;
      owners = added_owners o n os ns a;
      rows = record {
        within = subst (λ (l : List Footprint). AllByRecursion (IsWithin (length l)) ns) (sym more)
            (added_within (length (ks ++ f ∷ [])) o n os ns (omega (arith, number, long)) a os_within);
        used = λ t h. ap (list_any t) all ∙ any_more t ks (all_footprints old) f (r.used t) (sym (ap (list_any t) more) ∙ h);
      };
    }

pub no_rows : (p : Footprints) → p.kept.items ≡ [] → p.rows.items ≡ [] → AreRows p
no_rows p e q = record {
  within = subst (AllByRecursion (IsWithin (length p.kept.items))) (sym q) tt;
  used = λ t h. absurd (false≢true (sym (ap (list_any t) e) ∙ h));
}

pub none_added_yet : (p : Footprints) → p.rows.items ≡ [] → all_footprints p ≡ []
none_added_yet p q = ap (in_rows p.kept.items) q

pub none_owned_yet : (p : Footprints) → p.rows.items ≡ [] → all_owners p ≡ []
none_owned_yet p q = ap owners_in q

-- the last row is taken out and put back
pub put_back : (o : Owner) (n : ℕ) (old rest new : List Row) (r : Row) (q : Option Row) → old ≡ rest ++ option_to_list q → q ≡ Some r → AddsNumber o n (rest ++ r ∷ []) new → AddsNumber o n old new
put_back o n old rest new r q e is a = subst (λ (l : List Row). AddsNumber o n l new) (sym (e ∙ ap (λ (z : Option Row). rest ++ option_to_list z) is)) a

pub first_begins : (o : Owner) (n : ℕ) (old rest new : List Row) (q : Option Row) → old ≡ rest ++ option_to_list q → q ≡ None → Begins o n rest new → AddsNumber o n old new
first_begins o n old rest new q e is b = inr (subst (λ (l : List Row). Begins o n l new) (sym (e ∙ ap (λ (z : Option Row). rest ++ option_to_list z) is ∙ append-nil rest)) b)

-- ---- what is asked

met_by_all : (p : Footprints) → AreRows p → (x : Footprint) → is_met p.kept.items x ≡ is_met (all_footprints p) x
met_by_all p r x = same_tests (is_met p.kept.items x) (is_met (all_footprints p) x) (r.used (meets x)) (rows_any (meets x) p.kept.items p.rows.items)

same_map : {A B : Type 0} (f g : A → B) (xs : List A) → ((x : A) → f x ≡ g x) → map f xs ≡ map g xs
same_map f g [] h = refl
same_map f g (x ∷ xs) h = ap (λ b. b ∷ map f xs) (h x) ∙ ap (λ l. g x ∷ l) (same_map f g xs h)

one_then : (d : Taken) (o : Owner) (fs : List Footprint) (ms : List Bool) (n : ℕ) (gs : List Footprint) (os : List Owner) (ns : List Bool) → length fs ≡ n → length ms ≡ n
    → asks_of_met d (fs ++ gs) (replicate n o ++ os) (ms ++ ns) ≡ asks_of_one d o fs ms ++ asks_of_met d gs os ns
one_then d o [] [] zero gs os ns a b = refl
one_then d o [] [] (suc n) gs os ns a b = absurd (omega (arith, a))
one_then d o [] (m ∷ ms) n gs os ns a b = absurd (omega (arith, a, b))
one_then d o (f ∷ fs) [] n gs os ns a b = absurd (omega (arith, a, b))
one_then d o (f ∷ fs) (m ∷ ms) zero gs os ns a b = absurd (omega (arith, a))
one_then d o (f ∷ fs) (m ∷ ms) (suc n) gs os ns a b =
    ap (λ l. (if m then met_asks d f.of_region o else []) ++ l) (one_then d o fs ms n gs os ns (omega (arith, a)) (omega (arith, b)))
    ∙ sym (append_assoc (if m then met_asks d f.of_region o else []) (asks_of_one d o fs ms) (asks_of_met d gs os ns))

rows_asked : (d : Taken) (ks : List Footprint) (ms : List Bool) (rs : List Row) → length ms ≡ length ks → AllByRecursion (IsWithin (length ks)) rs
    → asks_of_rows d ks ms rs ≡ asks_of_met d (in_rows ks rs) (owners_in rs) (in_rows ms rs)
rows_asked d ks ms [] e a = refl
rows_asked d ks ms (r ∷ rs) e a =
    let h : r.from + r.count ≤ length ks = a.0 in
    ap (λ (l : List Decision). asks_of_one d r.owner (in_row ks r) (in_row ms r) ++ l) (rows_asked d ks ms rs e a.1)
    ∙ sym (one_then d r.owner (in_row ks r) (in_row ms r) r.count (in_rows ks rs) (owners_in rs) (in_rows ms rs) (row_length ks r h) (row_length ms r (omega (arith, e, h))))

mapped_length : {A B : Type 0} (f : A → B) (xs : List A) → length (map f xs) ≡ length xs
mapped_length f [] = refl
mapped_length f (x ∷ xs) = ap suc (mapped_length f xs)

pub marks_length : (ks : List Footprint) (ms : List Bool) → ms ≡ map (is_met ks) ks → length ms ≡ length ks
marks_length ks ms e = ap length e ∙ mapped_length (is_met ks) ks

-- by the marks of the kept ones
pub asked_by_kept : (d : Taken) (p : Footprints) (ms : List Bool) → AreRows p → ms ≡ map (is_met p.kept.items) p.kept.items
    → asks_of_rows d p.kept.items ms p.rows.items ≡ asks_of_met d (all_footprints p) (all_owners p) (map (is_met (all_footprints p)) (all_footprints p))
asked_by_kept d p ms r e =
    let ks = p.kept.items in
    let rs = p.rows.items in
    rows_asked d ks ms rs (marks_length ks ms e) r.within
    ∙ ap (λ (l : List Bool). asks_of_met d (all_footprints p) (all_owners p) l)
    (ap (λ (l : List Bool). in_rows l rs) e ∙ map_rows (is_met ks) ks rs ∙ same_map (is_met ks) (is_met (all_footprints p)) (all_footprints p) (met_by_all p r))

-- the loop over the rows
pub row_within : (ks : List Footprint) (rs : List Row) (i : ℕ) (r : Row) → AllByRecursion (IsWithin (length ks)) rs → slice_get rs i ≡ Some r → r.from + r.count ≤ length ks
row_within ks rs i r a h = all_at (IsWithin (length ks)) rs i r a h

pub one_row_more : (d : Taken) (ks : List Footprint) (ms : List Bool) (rs : List Row) (i : ℕ) (r : Row) (old new whole : List Decision) → slice_get rs i ≡ Some r
    → new ≡ old ++ asks_of_one d r.owner (in_row ks r) (in_row ms r) → old ++ asks_of_rows d ks ms (drop i rs) ≡ whole → new ++ asks_of_rows d ks ms (drop (i + 1) rs) ≡ whole
one_row_more d ks ms rs i r old new whole h e k =
    ap (λ (l : List Decision). l ++ asks_of_rows d ks ms (drop (i + 1) rs)) e
    ∙ append_assoc old (asks_of_one d r.owner (in_row ks r) (in_row ms r)) (asks_of_rows d ks ms (drop (i + 1) rs))
    ∙ ap (λ (l : List Row). old ++ asks_of_rows d ks ms l) (sym (drop_get rs i r h))
    ∙ k

pub all_rows_done : (d : Taken) (ks : List Footprint) (ms : List Bool) (rs : List Row) (i : ℕ) (old whole : List Decision) → length rs ≤ i
    → old ++ asks_of_rows d ks ms (drop i rs) ≡ whole → old ≡ whole
all_rows_done d ks ms rs i old whole h k = sym (append-nil old) ∙ ap (λ (l : List Row). old ++ asks_of_rows d ks ms l) (sym (past_all rs i h)) ∙ k
