-- Which type items are reached from a type item through the names in them, by their places.
use Rattle.std.specs.Prelude.{◌≡◌, ◌<◌, Option, Some, None, map, slice_get, ℕ, zero, suc, nat_lt, ◌==◌, ◌||◌, ◌&&◌}
use Rattle.std.specs.Prelude.{not, ◌⊎◌, if◌then◌else◌, Bool, true, false, List, [], ◌∷◌, ◌++◌, length, get_or}
use Rattle.std.specs.List.{list_any, filter_map}
use Rattle.pg_read_lex.specs.declared.token.Span.{Span}
use Rattle.pg_read_ast.specs.declared.names.Name.{Name}
use Rattle.pg_read_ast.specs.Syntax.{Ty, Named, NamedType}
use Rattle.pg_check_types.specs.NameIndex.{first_place}
use Rattle.pg_check_rules.specs.declared.refusals.CheckRefusal.{CheckRefusal}
use Rattle.pg_check_rules.specs.Conditions.{names_in, meets, at_if}
use Rattle.std.specs.Prelude.{slice_set}

-- a place is the target, or leads to it through at most so many edges
unfoldable pub arrives : ℕ → (ℕ → List ℕ) → ℕ → ℕ → Bool
arrives zero edges target p = p == target
arrives (suc n) edges target p = p == target || list_any (arrives n edges target) (edges p)

-- a place is in a list
abbrev pub has : List ℕ → ℕ → Bool
has places p = list_any (λ q. q == p) places

abbrev pub is_seen : List Bool → ℕ → Bool
is_seen seen p = get_or seen p false

-- what was seen leads only to what was seen, the front aside; the target wasn't seen
pub record IsFront (edges : ℕ → List ℕ) (target : ℕ) (seen : List Bool) (front : List ℕ) : Type 0 where
  pub closed : (v w : ℕ) → is_seen seen v ≡ true → has (edges v) w ≡ true → (has front v ≡ true) ⊎ (is_seen seen w ≡ true)
  pub among : (v : ℕ) → has front v ≡ true → is_seen seen v ≡ true
  pub away : is_seen seen target ≡ false

-- what was seen and a front, and these once each of further places is noted: one that is new is in the front
pub record Noted (all : List ℕ) (seen after : List Bool) (next : List ℕ) : Type 0 where
  pub same : length after ≡ length seen
  pub kept : (v : ℕ) → is_seen seen v ≡ true → is_seen after v ≡ true
  pub new : (v : ℕ) → is_seen after v ≡ true → (is_seen seen v ≡ true) ⊎ (has next v ≡ true)
  pub noted : (v : ℕ) → has all v ≡ true → v < length seen → is_seen after v ≡ true
  pub from : (v : ℕ) → has next v ≡ true → has all v ≡ true
  pub among : (v : ℕ) → has next v ≡ true → is_seen after v ≡ true

-- a place that is one, and wasn't seen
abbrev pub is_new : List Bool → ℕ → Bool
is_new seen p = nat_lt p (length seen) && not (is_seen seen p)

abbrev pub noted_seen : List Bool → ℕ → List Bool
noted_seen seen p = if is_new seen p then slice_set seen p true else seen

abbrev pub noted_next : List Bool → List ℕ → ℕ → List ℕ
noted_next seen next p = if is_new seen p then next ++ p ∷ [] else next

-- ---- type items

abbrev pub texts_of_items : List NamedType → List (List ℕ)
texts_of_items types = map (λ (i : NamedType). i.name.text) types

-- where the first item of a name stands
abbrev pub place_of : List NamedType → List ℕ → Option ℕ
place_of types text = first_place (texts_of_items types) text

abbrev pub place_of_name : List NamedType → Name → Option ℕ
place_of_name types n = place_of types n.text

-- where the items stand that a type names
abbrev pub places_in : List NamedType → Ty → List ℕ
places_in types t = filter_map (place_of_name types) (names_in t)

abbrev pub places_of_item : List NamedType → Option NamedType → List ℕ
places_of_item types (Some i) = places_in types i.ty
places_of_item types None = []

-- where the items stand that the item at a place names
unfoldable pub next_places : List NamedType → ℕ → List ℕ
next_places types p = places_of_item types (slice_get types p)

-- a place begins behind the refusal that is known
abbrev pub is_behind : Option CheckRefusal → Span → Bool
is_behind None place = false
is_behind (Some known) place = nat_lt known.span.start place.start

-- a name in a type, where it is this one or leads to it
abbrev pub circle_at : List NamedType → List ℕ → Ty → List Span
circle_at types text (Named n) = at_if (meets (length types) types text n.text) n.span
circle_at types text t = []
