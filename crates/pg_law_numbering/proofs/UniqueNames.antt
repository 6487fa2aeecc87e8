-- In an accepted tree, whose names stand in text order, no two registers of a function have one name, and no two labels.
use Rattle.std.proofs.Common.{◌≡◌, ℕ, zero, suc, ◌+◌, ◌-◌, ◌<◌, ◌≤◌, List, [], ◌∷◌, ◌++◌, length, drop, Bool, true, false, ◌&&◌, refl, sym, ap}
use Rattle.std.proofs.Common.{◌∙◌, subst, arith, ◌⊎◌, inl, inr, nat_lt, true≢false}
use Rattle.std.specs.Prelude.{slice_get, Option, Some}
use Rattle.std.specs.List.{filter_map, flat_map, list_any}
use Rattle.std.specs.Option.{option_map}
use Rattle.std.specs.Str.{bytes_eq}
use Rattle.std.proofs.lemmas.Bool.{lt-ltb, and_from, cases_lt}
use Rattle.std.proofs.lemmas.Slice.Eq.{bytes_eq-Decides}
use Rattle.std.proofs.lemmas.Option.{slice_get-map, slice_get_within, same_Some}
use Rattle.std.proofs.lemmas.List.{map-append}
use Rattle.pg_read_ast.specs.declared.names.Name.{Name}
use Rattle.pg_read_ast.specs.Syntax.{Param, NamedType, Definition, Tree}
use Rattle.pg_read_ast.specs.Numbers.{each_at, param_at, behind_param, name_at, numbered}
use Rattle.pg_check_rules.specs.declared.fault.CheckKind.TheVariants.{Doubled}
use Rattle.pg_check_rules.specs.Names.{Register, param_register, block_registers, registers_of, labels_of, doubled, symbol_names}
use Rattle.pg_check_rules.specs.LineConditions.{line_refused}
use Rattle.pg_check_rules.specs.Conditions.{all_of, own_names, body_names, param_names, scope_of, all_lines, definition_refused, body_refused, IsUnrefused}
use Rattle.pg_check_rules.specs.Numbered.{named_functions}
use Rattle.pg_read_grammar.specs.NameOrder.{written_names, ascend}
use Rattle.pg_law_numbering.specs.Parsed.{IsInOrder}
use Rattle.pg_law_numbering.proofs.FlattenedLists.{front_get, behind_get, map_count}
use Rattle.pg_law_numbering.proofs.UnrefusedParts.{front_none, behind_none, each_none, then_none, definitions_pass, bodies_pass, named_from}
use Rattle.pg_law_numbering.proofs.FilteredLists.{behind_front}
use Rattle.pg_law_numbering.proofs.NamesInOrder.{Precedes, AllPairs, names_of, registers_ordered, labels_ordered}
use Rattle.pg_law_numbering.proofs.ChoiceTests.{all_in, any_from}
use Rattle.pg_law_numbering.proofs.EachElement.{all_get}

-- ---- pairs

pub pair_at : {X : Type 0} (P : X → X → Type 0) (xs : List X) → AllPairs P xs → (i j : ℕ) (x y : X) → i < j → slice_get xs i ≡ Some x → slice_get xs j ≡ Some y → P x y
pair_at P [] h i j x y l e g = absurd cc
pair_at P (z ∷ zs) h i zero x y l e g = absurd (omega (arith, l))
pair_at {X} P (z ∷ zs) h zero (suc j) x y l e g = subst (λ (q : X). P q y) (same_Some z x e) (all_get (P z) zs h.0 j y g)
pair_at P (z ∷ zs) h (suc i) (suc j) x y l e g = pair_at P zs h.1 i j x y (omega (arith, l)) e g

-- ---- two of one name

-- a name that isn't doubled is none of those before it
pub not_doubled : (all : List Name) (i : ℕ) (a b : Name) → doubled all b ≡ [] → slice_get all i ≡ Some a → Precedes a b → bytes_eq a.text b.text ≡ false
unfolding doubled
not_doubled all i a b e at (inl h) = by (bytes_eq a.text b.text) refl
  where
    by : (c : Bool) → bytes_eq a.text b.text ≡ c → bytes_eq a.text b.text ≡ false
    by false g = g
    by true g = absurd (h ((bytes_eq-Decides a.text b.text).0 g))
not_doubled all i a b e at (inr h) = by (bytes_eq a.text b.text) refl
  where
    none : list_any (λ (o : Name). bytes_eq o.text b.text && nat_lt o.span.start b.span.start) all ≡ false
    none = then_none (list_any (λ (o : Name). bytes_eq o.text b.text && nat_lt o.span.start b.span.start) all) b.span e

    by : (c : Bool) → bytes_eq a.text b.text ≡ c → bytes_eq a.text b.text ≡ false
    by false g = g
    by true g =
        absurd (true≢false (sym (any_from (λ (o : Name). bytes_eq o.text b.text && nat_lt o.span.start b.span.start) all i a at
        (and_from (bytes_eq a.text b.text) (nat_lt a.span.start b.span.start) g (lt-ltb a.span.start b.span.start h))) ∙ none))

-- ---- parameters have names

each_param : (next : ℕ) (ps : List Param) (types : List NamedType) → filter_map (λ (p : Param). p.name) (each_at behind_param param_at next ps)
    ≡ names_of (filter_map (param_register types) (each_at behind_param param_at next ps))
each_param next [] types = refl
each_param next (p ∷ ps) types = ap (λ (xs : List Name). name_at next p.name ∷ xs) (each_param (behind_param next p) ps types)

params_names : (types : List NamedType) (d : Definition) → param_names (numbered types d) ≡ names_of (filter_map (param_register types) (numbered types d).params)
unfolding numbered
params_names types d = each_param 0 d.params types

each_registers : (next : ℕ) (ps : List Param) (types : List NamedType)
    → length (filter_map (param_register types) (each_at behind_param param_at next ps)) ≡ length (each_at behind_param param_at next ps)
each_registers next [] types = refl
each_registers next (p ∷ ps) types = ap suc (each_registers (behind_param next p) ps types)

pub params_registers : (types : List NamedType) (d : Definition) → length (filter_map (param_register types) (numbered types d).params) ≡ length (numbered types d).params
unfolding numbered
params_registers types d = each_registers 0 d.params types

module _ (m : Tree) (accepted : IsUnrefused m) (order : IsInOrder m) where
  module _ (f : ℕ) (d : Definition) (there : slice_get (named_functions m) f ≡ Some d) where
    own_pairs : AllPairs Precedes (names_of (registers_of m.types d))
    own_pairs =
        let n = named_from m f d there in
        subst (λ (q : Definition). AllPairs Precedes (names_of (registers_of m.types q))) (sym n.named)
        (registers_ordered m.types n.plain (all_in (λ (x : Definition). ascend 0 (written_names x)) m.functions f n.plain order.names n.there))

    label_pairs : AllPairs Precedes (labels_of d)
    label_pairs =
        let n = named_from m f d there in
        subst (λ (q : Definition). AllPairs Precedes (labels_of q)) (sym n.named)
        (labels_ordered m.types n.plain (all_in (λ (x : Definition). ascend 0 (written_names x)) m.functions f n.plain order.names n.there))

    body_doubled : flat_map (doubled (own_names m.types d)) (body_names m.types d) ≡ []
    unfolding body_refused
    body_doubled = front_none _ (all_of (line_refused (scope_of m d)) (all_lines d) Doubled) (bodies_pass m accepted f d there Doubled)

    param_doubled : flat_map (doubled (param_names d)) (param_names d) ≡ []
    unfolding definition_refused
    param_doubled = behind_none (doubled (symbol_names m) d.name) (flat_map (doubled (param_names d)) (param_names d)) (definitions_pass m accepted f d there Doubled)

    params : List Register
    params = filter_map (param_register m.types) d.params

    others : List Register
    others = flat_map (block_registers m.types) d.blocks

    split : registers_of m.types d ≡ params ++ others
    unfolding registers_of params others
    split = refl

    param_texts : param_names d ≡ names_of params
    unfolding params
    param_texts =
        let n = named_from m f d there in
        subst (λ (q : Definition). param_names q ≡ names_of (filter_map (param_register m.types) q.params)) (sym n.named) (params_names m.types n.plain)

    param_count : length params ≡ length d.params
    unfolding params
    param_count =
        let n = named_from m f d there in
        subst (λ (q : Definition). length (filter_map (param_register m.types) q.params) ≡ length q.params) (sym n.named) (params_registers m.types n.plain)

    names_split : names_of (registers_of m.types d) ≡ names_of params ++ names_of others
    names_split = ap names_of split ∙ map-append (λ (r : Register). r.name) params others

    body_split : body_names m.types d ≡ labels_of d ++ names_of others
    body_split =
        let e : drop (length d.params) (registers_of m.types d) ≡ others =
        ap (λ (k : ℕ). drop k (registers_of m.types d)) (sym param_count) ∙ ap (drop (length params)) split ∙ behind_front params others in
        ap (λ (xs : List Register). labels_of d ++ names_of xs) e

    -- two registers that both are parameters
    among_params : (i j : ℕ) (a b : Name) → i < j → j < length params → slice_get (names_of (registers_of m.types d)) i ≡ Some a
        → slice_get (names_of (registers_of m.types d)) j ≡ Some b → bytes_eq a.text b.text ≡ false
    among_params i j a b l k e g =
        let count : length (names_of params) ≡ length params = map_count (λ (r : Register). r.name) params in
        let at : slice_get (param_names d) i ≡ Some a = ap (λ (xs : List Name). slice_get xs i) param_texts
        ∙ sym (front_get (names_of params) (names_of others) i (omega (arith, l, k, count))) ∙ sym (ap (λ (xs : List Name). slice_get xs i) names_split) ∙ e in
        let there_b : slice_get (param_names d) j ≡ Some b = ap (λ (xs : List Name). slice_get xs j) param_texts
        ∙ sym (front_get (names_of params) (names_of others) j (omega (arith, k, count))) ∙ sym (ap (λ (xs : List Name). slice_get xs j) names_split) ∙ g in
        not_doubled (param_names d) i a b (each_none (doubled (param_names d)) (param_names d) j b param_doubled there_b) at
        (pair_at Precedes (names_of (registers_of m.types d)) own_pairs i j a b l e g)

    -- a name of the body, and one of the function's registers
    of_body : (k i : ℕ) (a b : Name) → slice_get (body_names m.types d) k ≡ Some b → slice_get (own_names m.types d) i ≡ Some a → Precedes a b → bytes_eq a.text b.text ≡ false
    of_body k i a b at e p = not_doubled (own_names m.types d) i a b (each_none (doubled (own_names m.types d)) (body_names m.types d) k b body_doubled at) e p

    behind_params : (i j : ℕ) (a b : Name) → i < j → length params ≤ j → slice_get (names_of (registers_of m.types d)) i ≡ Some a
        → slice_get (names_of (registers_of m.types d)) j ≡ Some b → bytes_eq a.text b.text ≡ false
    behind_params i j a b l k e g =
        let count : length (names_of params) ≡ length params = map_count (λ (r : Register). r.name) params in
        let number : j ≡ length (names_of params) + (j - length params) = omega (arith, k, count) in
        let inner : slice_get (names_of others) (j - length params) ≡ Some b =
        sym (behind_get (names_of params) (names_of others) (j - length params)) ∙ sym (ap (slice_get (names_of params ++ names_of others)) number)
        ∙ sym (ap (λ (xs : List Name). slice_get xs j) names_split) ∙ g in
        let body : slice_get (body_names m.types d) (length (labels_of d) + (j - length params)) ≡ Some b =
        ap (λ (xs : List Name). slice_get xs (length (labels_of d) + (j - length params))) body_split ∙ behind_get (labels_of d) (names_of others) (j - length params) ∙ inner in
        of_body (length (labels_of d) + (j - length params)) (length (labels_of d) + i) a b body (behind_get (labels_of d) (names_of (registers_of m.types d)) i ∙ e)
        (pair_at Precedes (names_of (registers_of m.types d)) own_pairs i j a b l e g)

    name_at_place : (i : ℕ) (r : Register) → slice_get (registers_of m.types d) i ≡ Some r → slice_get (names_of (registers_of m.types d)) i ≡ Some r.name
    name_at_place i r e = slice_get-map (λ (x : Register). x.name) (registers_of m.types d) i ∙ ap (λ (o : Option Register). option_map (λ (x : Register). x.name) o) e

    -- no two registers have one name
    pub registers_differ : (i j : ℕ) (r s : Register) → i < j → slice_get (registers_of m.types d) i ≡ Some r → slice_get (registers_of m.types d) j ≡ Some s
        → bytes_eq r.name.text s.name.text ≡ false
    registers_differ i j r s l e g = by (cases_lt j (length params))
      where
        by : (j < length params) ⊎ (length params ≤ j) → bytes_eq r.name.text s.name.text ≡ false
        by (inl h) = among_params i j r.name s.name l h (name_at_place i r e) (name_at_place j s g)
        by (inr h) = behind_params i j r.name s.name l h (name_at_place i r e) (name_at_place j s g)

    -- no two labels are one
    pub labels_differ : (i j : ℕ) (a b : Name) → i < j → slice_get (labels_of d) i ≡ Some a → slice_get (labels_of d) j ≡ Some b → bytes_eq a.text b.text ≡ false
    labels_differ i j a b l e g =
        let body : slice_get (body_names m.types d) j ≡ Some b =
        ap (λ (xs : List Name). slice_get xs j) body_split ∙ front_get (labels_of d) (names_of others) j (slice_get_within (labels_of d) j b g) ∙ g in
        of_body j i a b body (front_get (labels_of d) (names_of (registers_of m.types d)) i (slice_get_within (labels_of d) i a e) ∙ e) (pair_at Precedes (labels_of d) label_pairs i j a b l e g)
