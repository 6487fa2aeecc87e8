-- Where the items of names stand, and what they lead to.
use Rattle.std.proofs.Common.{◌≡◌, ℕ, zero, suc, ◌+◌, ◌<◌, Bool, true, false, cond, List, [], ◌∷◌, ◌++◌, length, map, get_or, slice_get, Option, Some, None}
use Rattle.std.proofs.Common.{unwrap_or, refl, sym, ap, subst, ◌∙◌, arith, inl, inr}
use Rattle.std.specs.Prelude.{◌==◌, ◌||◌, ◌⊎◌, filter}
use Rattle.std.specs.List.{list_any, filter_map, position_from, cons_option, flat_map}
use Rattle.std.specs.Option.{option_map}
use Rattle.std.specs.Str.{bytes_eq}
use Rattle.std.proofs.lemmas.Bool.Decides.{nat_tests}
use Rattle.std.proofs.lemmas.Slice.Eq.{bytes_eq-Decides}
use Rattle.pg_read_ast.specs.declared.names.Name.{Name}
use Rattle.pg_read_ast.specs.Syntax.{Ty, I1, I8, I16, I32, I64, Ptr, Void, Array, Struct, Named, NamedType}
use Rattle.pg_read_ast.specs.Numbers.{type_named}
use Rattle.pg_check_rules.specs.Written.{types_within}
use Rattle.pg_check_rules.specs.Conditions.{names_in, names_in_types, names_of_item, meets, self_contained, at_if}
use Rattle.pg_check_heads.specs.Circles.{arrives, has, texts_of_items, place_of, place_of_name, places_of_item, next_places, circle_at}
use Rattle.pg_check_heads.proofs.Reaching.{or_cases}

-- ---- places

abbrev later : Option ℕ → Option ℕ
later o = option_map (λ k. suc k) o

further : (test : List ℕ → Bool) (k : ℕ) (ts : List (List ℕ)) → position_from test (k + 1) ts ≡ later (position_from test k ts)
further test k [] = refl
further test k (t ∷ ts) = by (test t) (further test (k + 1) ts)
  where
    by : (b : Bool) → position_from test (k + 1 + 1) ts ≡ later (position_from test (k + 1) ts)
        → cond b (Some (k + 1)) (position_from test (k + 1 + 1) ts) ≡ later (cond b (Some k) (position_from test (k + 1) ts))
    by true h = let s : k + 1 ≡ suc k = omega arith in ap (λ n. Some n) s
    by false h = h

some_same : (m n : ℕ) → Some m ≡ Some n → m ≡ n
some_same m n e = ap (λ o. unwrap_or o 0) e

-- the first item of a name, or a later one
place_more : (i : NamedType) (types : List NamedType) (text : List ℕ) → place_of (i ∷ types) text ≡ cond (bytes_eq i.name.text text) (Some 0) (later (place_of types text))
place_more i types text = ap (λ o. cond (bytes_eq i.name.text text) (Some 0) o) (further (λ t. bytes_eq t text) 0 (texts_of_items types))

pub place_within : (types : List NamedType) (text : List ℕ) (p : ℕ) → place_of types text ≡ Some p → p < length types
place_within [] text p e = absurd cc
place_within (i ∷ types) text p e = by (bytes_eq i.name.text text) (sym (place_more i types text) ∙ e) (λ q f. place_within types text q f)
  where
    behind : (o : Option ℕ) → place_of types text ≡ o → later o ≡ Some p → ((q : ℕ) → place_of types text ≡ Some q → q < length types) → p < suc (length types)
    behind None f h more = absurd cc
    behind (Some q) f h more =
        let l = more q f in
        let s : suc q ≡ p = some_same (suc q) p h in
        omega (arith, l, s)

    by : (b : Bool) → cond b (Some 0) (later (place_of types text)) ≡ Some p → ((q : ℕ) → place_of types text ≡ Some q → q < length types) → p < suc (length types)
    by true h more = let s : 0 ≡ p = some_same 0 p h in omega (arith, s)
    by false h more = behind (place_of types text) refl h more

abbrev item_at : List NamedType → Option ℕ → Option NamedType
item_at types None = None
item_at types (Some p) = slice_get types p

abbrev ty_of_item : Option NamedType → Option Ty
ty_of_item o = option_map (λ (i : NamedType). i.ty) o

item_later : (i : NamedType) (types : List NamedType) (o : Option ℕ) → item_at (i ∷ types) (later o) ≡ item_at types o
item_later i types None = refl
item_later i types (Some p) = refl

-- the type of a name is that of the item at its place
pub named_at : (types : List NamedType) (text : List ℕ) → type_named types text ≡ ty_of_item (item_at types (place_of types text))
named_at [] text = refl
named_at (i ∷ types) text = by (bytes_eq i.name.text text) (named_at types text) ∙ sym (ap (λ o. ty_of_item (item_at (i ∷ types) o)) (place_more i types text))
  where
    by : (b : Bool) → type_named types text ≡ ty_of_item (item_at types (place_of types text))
        → cond b (Some i.ty) (type_named types text) ≡ ty_of_item (item_at (i ∷ types) (cond b (Some 0) (later (place_of types text))))
    by true h = refl
    by false h = h ∙ sym (ap ty_of_item (item_later i types (place_of types text)))

-- the item at the place of a name is called so
pub record Stands (types : List NamedType) (text : List ℕ) (p : ℕ) : Type 0 where
  pub item : NamedType
  pub at : slice_get types p ≡ Some item
  pub called : item.name.text ≡ text

pub stands : (types : List NamedType) (text : List ℕ) (p : ℕ) → place_of types text ≡ Some p → Stands types text p
stands [] text p e = absurd cc
stands (i ∷ types) text p e = by (bytes_eq i.name.text text) refl (sym (place_more i types text) ∙ e) (λ q f. stands types text q f)
  where
    behind : (o : Option ℕ) → place_of types text ≡ o → later o ≡ Some p → ((q : ℕ) → place_of types text ≡ Some q → Stands types text q) → Stands (i ∷ types) text p
    behind None f h more = absurd cc
    behind (Some q) f h more =
        let s = more q f in
        let n : suc q ≡ p = some_same (suc q) p h in
        record { item = s.item; at = ap (λ k. slice_get (i ∷ types) k) (sym n) ∙ s.at; called = s.called }

    by : (b : Bool) → bytes_eq i.name.text text ≡ b → cond b (Some 0) (later (place_of types text)) ≡ Some p → ((q : ℕ) → place_of types text ≡ Some q → Stands types text q)
        → Stands (i ∷ types) text p
    by true c h more =
        let n : 0 ≡ p = some_same 0 p h in
        record { item = i; at = ap (λ k. slice_get (i ∷ types) k) (sym n); called = (bytes_eq-Decides i.name.text text).0 c }
    by false c h more = behind (place_of types text) refl h more

-- ---- names and places

abbrev pub same_place : Option ℕ → ℕ → Bool
same_place None target = false
same_place (Some p) target = p == target

abbrev pub arrives_at : ℕ → List NamedType → ℕ → Option ℕ → Bool
arrives_at n types target None = false
arrives_at n types target (Some p) = arrives n (next_places types) target p

same_nat : (n : ℕ) → (n == n) ≡ true
same_nat n = grind (arith, nat_tests)

-- a name is the one at a place just where it has that place
same_text : (types : List NamedType) (text name : List ℕ) (target : ℕ) → place_of types text ≡ Some target → bytes_eq name text ≡ same_place (place_of types name) target
same_text types text name target e = by (bytes_eq name text) refl
  where
    apart : (o : Option ℕ) → place_of types name ≡ o → bytes_eq name text ≡ false → false ≡ same_place o target
    apart None f h = refl
    apart (Some p) f h = by_place (p == target) refl
      where
        by_place : (b : Bool) → (p == target) ≡ b → false ≡ (p == target)
        by_place false g = sym g
        by_place true g =
            let n : p ≡ target = grind (arith, nat_tests) in
            let one = stands types name p f in
            let other = stands types text target e in
            let item : Some one.item ≡ Some other.item = sym one.at ∙ ap (λ k. slice_get types k) n ∙ other.at in
            let text_of : one.item.name.text ≡ other.item.name.text = ap (λ o. unwrap_or (option_map (λ (i : NamedType). i.name.text) o) []) item in
            let names : name ≡ text = sym one.called ∙ text_of ∙ other.called in
            let x : true ≡ false = sym ((bytes_eq-Decides name text).1 names) ∙ h in
            absurd cc

    by : (b : Bool) → bytes_eq name text ≡ b → bytes_eq name text ≡ same_place (place_of types name) target
    by true h =
        let names : name ≡ text = (bytes_eq-Decides name text).0 h in
        h ∙ sym (ap (λ x. same_place (place_of types x) target) names ∙ ap (λ o. same_place o target) e ∙ same_nat target)
    by false h = h ∙ apart (place_of types name) refl h

any_placed : (types : List NamedType) (n target : ℕ) (test : Name → Bool) → ((m : Name) → test m ≡ arrives_at n types target (place_of types m.text)) → (ms : List Name)
    → list_any test ms ≡ list_any (arrives n (next_places types) target) (filter_map (place_of_name types) ms)
any_placed types n target test h [] = refl
any_placed types n target test h (m ∷ ms) = ap (λ b. b || list_any test ms) (h m) ∙ by (place_of types m.text) (any_placed types n target test h ms)
  where
    by : (o : Option ℕ) → list_any test ms ≡ list_any (arrives n (next_places types) target) (filter_map (place_of_name types) ms)
        → (arrives_at n types target o || list_any test ms) ≡ list_any (arrives n (next_places types) target) (cons_option o (filter_map (place_of_name types) ms))
    by None more = more
    by (Some p) more = ap (λ b. arrives n (next_places types) target p || b) more

-- a name meets an item just where its place leads there
pub meets_is : (types : List NamedType) (text : List ℕ) (target : ℕ) → place_of types text ≡ Some target → (n : ℕ) (name : List ℕ)
    → meets n types text name ≡ arrives_at n types target (place_of types name)
unfolding meets arrives next_places
meets_is types text target e zero name = same_text types text name target e ∙ by (place_of types name)
  where
    by : (o : Option ℕ) → same_place o target ≡ arrives_at zero types target o
    by None = refl
    by (Some p) = refl
meets_is types text target e (suc n) name =
    ap (λ o. bytes_eq name text || list_any (λ (m : Name). meets n types text m.text) (names_of_item o)) (named_at types name)
    ∙ ap (λ b. b || list_any (λ (m : Name). meets n types text m.text) (names_of_item (ty_of_item (item_at types (place_of types name))))) (same_text types text name target e)
    ∙ by (place_of types name) (λ m. meets_is types text target e n m.text)
  where
    within : (p : ℕ) (o : Option NamedType) → ((m : Name) → meets n types text m.text ≡ arrives_at n types target (place_of types m.text))
        → (p == target || list_any (λ (m : Name). meets n types text m.text) (names_of_item (ty_of_item o)))
        ≡ (p == target || list_any (arrives n (next_places types) target) (places_of_item types o))
    within p None more = refl
    within p (Some i) more = ap (λ b. p == target || b) (any_placed types n target (λ (m : Name). meets n types text m.text) more (names_in i.ty))

    by : (o : Option ℕ) → ((m : Name) → meets n types text m.text ≡ arrives_at n types target (place_of types m.text))
        → (same_place o target || list_any (λ (m : Name). meets n types text m.text) (names_of_item (ty_of_item (item_at types o)))) ≡ arrives_at (suc n) types target o
    by None more = refl
    by (Some p) more = within p (slice_get types p) more

-- ---- bounds

has_placed : (types : List NamedType) (ms : List Name) (w : ℕ) → has (filter_map (place_of_name types) ms) w ≡ true → w < length types
has_placed types [] w h = absurd cc
has_placed types (m ∷ ms) w h = by (place_of types m.text) refl h (λ k. has_placed types ms w k)
  where
    by : (o : Option ℕ) → place_of types m.text ≡ o → has (cons_option o (filter_map (place_of_name types) ms)) w ≡ true
        → (has (filter_map (place_of_name types) ms) w ≡ true → w < length types) → w < length types
    by None e k more = more k
    by (Some p) e k more = either (or_cases (p == w) (has (filter_map (place_of_name types) ms) w) k)
      where
        either : ((p == w) ≡ true) ⊎ (has (filter_map (place_of_name types) ms) w ≡ true) → w < length types
        either (inl s) =
            let n : p ≡ w = grind (arith, nat_tests) in
            subst (λ q. q < length types) n (place_within types m.text p e)
        either (inr s) = more s

pub bounded : (types : List NamedType) (p w : ℕ) → has (next_places types p) w ≡ true → w < length types
unfolding next_places
bounded types p w h = by (slice_get types p) h
  where
    by : (o : Option NamedType) → has (places_of_item types o) w ≡ true → w < length types
    by None k = absurd cc
    by (Some i) k = has_placed types (names_in i.ty) w k

-- ---- the names in a type that lead back

pub circle_row : (types : List NamedType) (text : List ℕ) (ts : List Ty)
    → map (λ (n : Name). n.span) (filter (λ (n : Name). meets (length types) types text n.text) (names_in_types ts)) ≡ flat_map (circle_at types text) ts
circle_row types text [] = refl
circle_row types text (Named n ∷ ts) = by (meets (length types) types text n.text) (circle_row types text ts)
  where
    by : (b : Bool) → map (λ (n : Name). n.span) (filter (λ (n : Name). meets (length types) types text n.text) (names_in_types ts)) ≡ flat_map (circle_at types text) ts
        → map (λ (n : Name). n.span) (cond b (n ∷ filter (λ (n : Name). meets (length types) types text n.text) (names_in_types ts))
        (filter (λ (n : Name). meets (length types) types text n.text) (names_in_types ts))) ≡ at_if b n.span ++ flat_map (circle_at types text) ts
    by true h = ap (λ xs. n.span ∷ xs) h
    by false h = h
circle_row types text (I1 s ∷ ts) = circle_row types text ts
circle_row types text (I8 s ∷ ts) = circle_row types text ts
circle_row types text (I16 s ∷ ts) = circle_row types text ts
circle_row types text (I32 s ∷ ts) = circle_row types text ts
circle_row types text (I64 s ∷ ts) = circle_row types text ts
circle_row types text (Ptr s ∷ ts) = circle_row types text ts
circle_row types text (Void s ∷ ts) = circle_row types text ts
circle_row types text (Array s n t ∷ ts) = circle_row types text ts
circle_row types text (Struct s us ∷ ts) = circle_row types text ts

pub self_contained_is : (types : List NamedType) (i : NamedType) → self_contained types i ≡ flat_map (circle_at types i.name.text) (types_within i.ty)
unfolding self_contained
self_contained_is types i = circle_row types i.name.text (types_within i.ty)

-- ---- as many items as nodes

pub item_count : {X Y : Type 0} (f : X → Y) (xs : List X) → length (map f xs) ≡ length xs
item_count f [] = refl
item_count f (x ∷ xs) = ap (λ n. suc n) (item_count f xs)

-- an item's name has a place
pub has_place : (types : List NamedType) (p : ℕ) (i : NamedType) → slice_get types p ≡ Some i → place_of types i.name.text ≡ None → ⊥
has_place [] p i e n = absurd cc
has_place (j ∷ types) p i e n = by (bytes_eq j.name.text i.name.text) refl (sym (place_more j types i.name.text) ∙ n) p e (λ q h k. has_place types q i h k)
  where
    behind : (o : Option ℕ) → later o ≡ None → o ≡ None
    behind None h = refl
    behind (Some q) h = absurd cc

    by : (b : Bool) → bytes_eq j.name.text i.name.text ≡ b → cond b (Some 0) (later (place_of types i.name.text)) ≡ None → (p : ℕ) → slice_get (j ∷ types) p ≡ Some i
        → ((q : ℕ) → slice_get types q ≡ Some i → place_of types i.name.text ≡ None → ⊥) → ⊥
    by true c h q f more = absurd cc
    by false c h zero f more =
        let same : j.name.text ≡ i.name.text = ap (λ o. unwrap_or (option_map (λ (k : NamedType). k.name.text) o) []) f in
        let x : true ≡ false = sym ((bytes_eq-Decides j.name.text i.name.text).1 same) ∙ c in
        absurd cc
    by false c h (suc q) f more = more q f (behind (place_of types i.name.text) h)

-- the first item of a name has the type that the name stands for
pub first_of_name : (types : List NamedType) (p : ℕ) (i : NamedType) → slice_get types p ≡ Some i → place_of types i.name.text ≡ Some p → type_named types i.name.text ≡ Some i.ty
first_of_name types p i e f = named_at types i.name.text ∙ ap (λ o. ty_of_item (item_at types o)) f ∙ ap ty_of_item e

pub no_elements : {X : Type 0} (xs : List X) → length xs ≡ 0 → xs ≡ []
no_elements [] e = refl
no_elements (x ∷ xs) e = absurd (omega (arith, e))

pub got : {X Y : Type 0} (f : X → Y) (xs : List X) (i : ℕ) (x d : X) → i < length xs → x ≡ get_or xs i d → slice_get (map f xs) i ≡ Some (f x)
got f [] i x d l e = absurd (omega (arith, l))
got f (y ∷ xs) zero x d l e = ap (λ z. Some (f z)) (sym e)
got f (y ∷ xs) (suc i) x d l e = got f xs i x d (omega (arith, l)) e
