-- Where a constant isn't of its type, a layer at a time.
use Rattle.std.proofs.Common.{◌≡◌, ℕ, zero, suc, ◌+◌, ◌<◌, Bool, true, false, if◌then◌else◌, List, [], ◌∷◌, ◌++◌, length, map, drop, slice_get, get_or}
use Rattle.std.proofs.Common.{Option, Some, None, IfSome, refl, sym, ap, ◌∙◌, arith, Vec, Global}
use Rattle.std.specs.List.{flat_map, enumerate_from}
use Rattle.std.proofs.lemmas.List.{append_assoc}
use Rattle.std.proofs.lemmas.Option.{slice_get_within}
use Rattle.pg_read_lex.specs.declared.token.Span.{Span}
use Rattle.pg_read_ast.specs.declared.names.Literal.{Literal}
use Rattle.pg_read_ast.specs.declared.values.TypedConst.{TypedConst}
use Rattle.pg_read_ast.specs.declared.values.ConstNode.{ConstNode, roll-ConstNode}
use Rattle.pg_read_ast.specs.declared.values.ConstNode as plain
use Rattle.pg_read_ast.specs.declared.values.ConstNode.TheOpen as opened
use Rattle.pg_read_ast.specs.declared.values.ConstNode.TheFolds.{fold-roll-ConstNode}
use Rattle.pg_read_ast.specs.declared.values.ConstNode.TheViews as node
use Rattle.pg_read_ast.specs.Syntax.{Val, Const, ValConst, BytesConst, ArrayConst, StructConst, TypedC, consts, NamedType}
use Rattle.pg_read_ast.specs.Views.{ty_of, const_of, typed_const_of, const_step, typed_const_step}
use Rattle.pg_check_types.specs.Resolved.{ResolvedType, resolved}
use Rattle.pg_check_types.specs.Known.{denoted}
use Rattle.pg_check_types.specs.Kinds.{fails, is_as}
use Rattle.pg_check_rules.specs.Conditions.{at_if}
use Rattle.pg_check_rules.specs.Places.{type_span}
use Rattle.pg_check_rules.specs.Earliest.{earlier, earliest}
use Rattle.pg_check_rules.specs.ValueConditions.{wrong_const, wrong_elements, wrong_fields, wrong_part, part_count, fits_bytes, fits_elements, fits_fields, element_of, fields_of}
use Rattle.pg_check_rules.proofs.ConstantViews.{array_view, struct_view}
use Rattle.pg_check_rules.proofs.Parts.{no_place}
use Rattle.pg_check_rules.proofs.Rows.{earliest_more}
use Rattle.pg_check_rules.specs.Fields.{field_type}
use Rattle.pg_check_heads.specs.ConstantParts.{part_row, field_row}
use Rattle.pg_check_heads.proofs.ConstantRows.{part_ty, part_value}

-- ---- fields by their numbers

field_denoted : (table : List ResolvedType) (numbers : List ℕ) (fs : List ResolvedType) (k : ℕ) → map (field_type table) numbers ≡ map (λ u. Some u) fs
    → denoted table (slice_get numbers k) ≡ slice_get fs k
field_denoted table [] [] k a = refl
field_denoted table [] (u ∷ fs) k a = cc
field_denoted table (n ∷ numbers) [] k a = cc
field_denoted table (n ∷ numbers) (u ∷ fs) zero a = ap (λ xs. get_or xs 0 None) a
field_denoted table (n ∷ numbers) (u ∷ fs) (suc k) a = field_denoted table numbers fs k (ap (λ xs. drop 1 xs) a)

pub fields_within : (table : List ResolvedType) (numbers : List ℕ) (fs : List ResolvedType) → map (field_type table) numbers ≡ map (λ u. Some u) fs → (k : ℕ)
    → IfSome (slice_get numbers k) (λ t. t < length table)
fields_within table [] fs a k = tt
fields_within table (n ∷ numbers) [] a k = cc
fields_within table (n ∷ numbers) (u ∷ fs) a zero = slice_get_within table n u (ap (λ xs. get_or xs 0 None) a)
fields_within table (n ∷ numbers) (u ∷ fs) a (suc k) = fields_within table numbers fs (ap (λ xs. drop 1 xs) a) k

-- ---- parts in a row

part_counted : (ps : List TypedConst) → part_count (consts (map typed_const_of ps)) ≡ length ps
part_counted [] = refl
part_counted (p ∷ ps) = ap suc (part_counted ps)

element_rows : (types : List NamedType) (e : Option ResolvedType) (ts : List TypedC) → wrong_elements types e (consts ts) ≡ flat_map (part_row types e) ts
unfolding wrong_elements
element_rows types e [] = refl
element_rows types e (t ∷ ts) =
    let own = wrong_part types e t.ty in
    let inner = wrong_const types (resolved types t.ty) t.value in
    ap (λ ps. own ++ (inner ++ ps)) (element_rows types e ts) ∙ sym (append_assoc own inner (flat_map (part_row types e) ts))

first_behind : {X : Type 0} (xs : List X) (k : ℕ) → slice_get (drop k xs) 0 ≡ slice_get xs k
first_behind [] zero = refl
first_behind [] (suc k) = refl
first_behind (x ∷ xs) zero = refl
first_behind (x ∷ xs) (suc k) = first_behind xs k

others_behind : {X : Type 0} (xs : List X) (k : ℕ) → drop 1 (drop k xs) ≡ drop (k + 1) xs
others_behind [] zero = refl
others_behind {X = X} [] (suc k) =
    let s : suc (k + 1) ≡ suc k + 1 = omega arith in
    ap (λ n. drop {A = X} n []) s
others_behind (x ∷ xs) zero = refl
others_behind (x ∷ xs) (suc k) =
    let s : suc (k + 1) ≡ suc k + 1 = omega arith in
    others_behind xs k ∙ ap (λ n. drop n (x ∷ xs)) s

field_rows : (types : List NamedType) (table : List ResolvedType) (numbers : List ℕ) (fs : List ResolvedType) (k : ℕ) (ts : List TypedC)
    → map (field_type table) numbers ≡ map (λ u. Some u) fs
    → wrong_fields types (drop k fs) (consts ts) ≡ flat_map (field_row types table numbers) (enumerate_from k ts)
unfolding wrong_fields
field_rows types table numbers fs k [] a = refl
field_rows types table numbers fs k (t ∷ ts) a =
    let own = wrong_part types (denoted table (slice_get numbers k)) t.ty in
    let inner = wrong_const types (resolved types t.ty) t.value in
    let rest = flat_map (field_row types table numbers) (enumerate_from (k + 1) ts) in
    ap (λ o. wrong_part types o t.ty ++ (inner ++ wrong_fields types (drop 1 (drop k fs)) (consts ts))) (first_behind fs k ∙ sym (field_denoted table numbers fs k a))
    ∙ ap (λ us. own ++ (inner ++ wrong_fields types us (consts ts))) (others_behind fs k)
    ∙ ap (λ ps. own ++ (inner ++ ps)) (field_rows types table numbers fs (k + 1) ts a)
    ∙ sym (append_assoc own inner rest)

-- ---- the earliest place of a layer

place_is : (b : Bool) (s : Span) → at_if b s ≡ (if b then s ∷ [] else [])
place_is true s = refl
place_is false s = refl

abbrev mark : Bool → Span → List Span
mark b s = if b then s ∷ [] else []

two_places : (b : Bool) (s : Span) (more : List Span) (own inner o : Option Span) → own ≡ earliest (at_if b s) → inner ≡ earliest more → o ≡ earlier own inner
    → o ≡ earliest (mark b s ++ more)
two_places b s more own inner o a c e =
    e ∙ ap (λ x. earlier x inner) (a ∙ ap (λ xs. earliest xs) (place_is b s)) ∙ ap (λ x. earlier (earliest (mark b s)) x) c ∙ sym (earliest_more (mark b s) more)

pub bytes_view : (b : Literal) → const_of (plain.Bytes b) ≡ BytesConst b
unfolding roll-ConstNode denote.Hole.Carrier.roll
bytes_view b = fold-roll-ConstNode Const TypedC const_step typed_const_step (opened.Bytes b)

-- a value by itself isn't judged here
pub val_place : (types : List NamedType) (t : Option ResolvedType) (x : Const) (v : Val) → x ≡ ValConst v → None ≡ earliest (wrong_const types t x)
unfolding wrong_const
val_place types t x v is = no_place ∙ ap (λ y. earliest (wrong_const types t y)) (sym is)

pub bytes_place : (types : List NamedType) (t : Option ResolvedType) (x : Const) (b : Literal) (o : Option Span) → x ≡ BytesConst b
    → o ≡ earliest (at_if (fails (λ u. fits_bytes u b.text) t) b.span)
    → o ≡ earliest (wrong_const types t x)
unfolding wrong_const
bytes_place types t x b o is a =
    a ∙ ap (λ xs. earliest xs) (place_is (fails (λ u. fits_bytes u b.text) t) b.span) ∙ ap (λ y. earliest (wrong_const types t y)) (sym is)

pub array_places : (types : List NamedType) (t e : Option ResolvedType) (n : ConstNode) (s : Span) (v : Vec TypedConst Global) (ps : List TypedConst) (count : ℕ) (own inner o : Option Span)
    → n ≡ node.Array s v → ps ≡ v.items → count ≡ length ps → e ≡ element_of t → own ≡ earliest (at_if (fails (fits_elements count) t) s)
    → inner ≡ earliest (flat_map (part_row types e) (map typed_const_of ps)) → o ≡ earlier own inner → o ≡ earliest (wrong_const types t (const_of n))
unfolding wrong_const
array_places types t e n s v ps count own inner o is i l m a b c =
    let parts = consts (map typed_const_of ps) in
    two_places (fails (fits_elements (part_count parts)) t) s (wrong_elements types (element_of t) parts) own inner o
    (a ∙ ap (λ k. earliest (at_if (fails (fits_elements k) t) s)) (l ∙ sym (part_counted ps)))
    (b ∙ ap (λ xs. earliest xs) (sym (element_rows types e (map typed_const_of ps))) ∙ ap (λ u. earliest (wrong_elements types u parts)) m)
    c
    ∙ ap (λ xs. earliest (wrong_const types t (ArrayConst s (consts (map typed_const_of xs))))) i
    ∙ ap (λ x. earliest (wrong_const types t x)) (sym (ap const_of is ∙ array_view s v))

pub struct_places : (types : List NamedType) (table : List ResolvedType) (numbers : List ℕ) (t : Option ResolvedType) (n : ConstNode) (s : Span) (v : Vec TypedConst Global)
    (ps : List TypedConst) (count : ℕ) (own inner o : Option Span)
    → n ≡ node.Struct s v → ps ≡ v.items → count ≡ length ps → map (field_type table) numbers ≡ map (λ u. Some u) (fields_of t)
    → own ≡ earliest (at_if (fails (fits_fields count) t) s)
    → inner ≡ earliest (flat_map (field_row types table numbers) (enumerate_from 0 (map typed_const_of ps))) → o ≡ earlier own inner → o ≡ earliest (wrong_const types t (const_of n))
unfolding wrong_const
struct_places types table numbers t n s v ps count own inner o is i l m a b c =
    let parts = consts (map typed_const_of ps) in
    two_places (fails (fits_fields (part_count parts)) t) s (wrong_fields types (fields_of t) parts) own inner o
    (a ∙ ap (λ k. earliest (at_if (fails (fits_fields k) t) s)) (l ∙ sym (part_counted ps)))
    (b ∙ ap (λ xs. earliest xs) (sym (field_rows types table numbers (fields_of t) 0 (map typed_const_of ps) m)))
    c
    ∙ ap (λ xs. earliest (wrong_const types t (StructConst s (consts (map typed_const_of xs))))) i
    ∙ ap (λ x. earliest (wrong_const types t x)) (sym (ap const_of is ∙ struct_view s v))

-- a part of a constant, where the types that are known may be more than before
pub part_place : (types others : List NamedType) (expected before own_type : Option ResolvedType) (p : TypedConst) (own inner o : Option Span)
    → own ≡ earliest (at_if (fails (is_as expected) own_type) (type_span (ty_of p.ty))) → expected ≡ before → own_type ≡ resolved types (ty_of p.ty)
    → inner ≡ earliest (wrong_const others own_type (const_of p.value)) → others ≡ types → o ≡ earlier own inner → o ≡ earliest (part_row types before (typed_const_of p))
part_place types others expected before own_type p own inner o a e r b m c =
    two_places (fails (is_as expected) own_type) (type_span (ty_of p.ty)) (wrong_const others own_type (const_of p.value)) own inner o a b c
    ∙ ap (λ u. earliest (mark (fails (is_as u) own_type) (type_span (ty_of p.ty)) ++ wrong_const others own_type (const_of p.value))) e
    ∙ ap (λ ns. earliest (mark (fails (is_as before) own_type) (type_span (ty_of p.ty)) ++ wrong_const ns own_type (const_of p.value))) m
    ∙ ap (λ u. earliest (mark (fails (is_as before) u) (type_span (ty_of p.ty)) ++ wrong_const types u (const_of p.value))) r
    ∙ ap (λ x. earliest (wrong_part types before x ++ wrong_const types (resolved types x) (const_of p.value))) (sym (part_ty p))
    ∙ ap (λ x. earliest (wrong_part types before (typed_const_of p).ty ++ wrong_const types (resolved types (typed_const_of p).ty) x)) (sym (part_value p))
