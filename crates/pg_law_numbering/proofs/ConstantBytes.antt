-- The bytes of an initialiser are no more than its type's size.
use Rattle.std.proofs.Common.{◌≡◌, ℕ, zero, suc, ◌+◌, ◌-◌, ◌*◌, ◌/◌, ◌≤◌, List, [], ◌∷◌, ◌++◌, length, replicate, Bool, true, false, ◌==◌, not}
use Rattle.std.proofs.Common.{refl, sym, ap, ◌∙◌, subst, arith, length-append, cond}
use Rattle.std.proofs.lemmas.List.{length-replicate}
use Rattle.std.specs.Prelude.{Option, Some}
use Rattle.std.specs.List.{AllByRecursion}
use Rattle.std.proofs.lemmas.Bool.{eqb-true}
use Rattle.pg_num.specs.declared.width.Width.TheVariants.{W8}
use Rattle.pg_read_ast.specs.Syntax.{Ty, Val, Const, Consts, ValConst, BytesConst, ArrayConst, StructConst, NoConsts, MoreConsts, NamedType, Tree}
use Rattle.pg_check_types.specs.Resolved.{ResolvedType, IntegerType, PointerType, VoidType, ArrayType, NoFields, MoreFields, same_type, resolved}
use Rattle.pg_check_types.specs.Layout.{bytes_of, round_up, alignment_of, size_of, field_list}
use Rattle.pg_check_rules.specs.Places.{type_span}
use Rattle.pg_check_rules.specs.Written.{const_types, part_types}
use Rattle.pg_check_rules.specs.ValueConditions.{part_count, fits_bytes, fits_elements, wrong_part, wrong_const, wrong_elements, wrong_fields}
use Rattle.pg_check_rules.specs.Constants.{constant_word, pointer_word, little_endian, filled, value_bytes, const_bytes, element_bytes, field_bytes, unless_zero, trimmed}
use Rattle.pg_check_types.specs.Kinds.{is_as, fails}
use Rattle.pg_law_numbering.proofs.UnrefusedParts.{front_none, behind_none, then_none}
use Rattle.pg_check_types.proofs.Alignments.{aligned, rounds_up, end_within, end_from, end_is, end_behind}
use Rattle.pg_check_types.proofs.SameTypes.{same_type_true}
use Rattle.pg_law_numbering.proofs.ResolvedTypes.{Has}
use Rattle.pg_law_numbering.proofs.ChoiceTests.{not_false}
use Rattle.pg_law_numbering.proofs.EachElement.{all_front, all_behind}

-- ---- bytes

little_length : (count n : ℕ) → length (little_endian count n) ≡ count
little_length zero n = refl
little_length (suc count) n = ap suc (little_length count (n / 256))

value_length : (m : Tree) (t : ResolvedType) (v : Val) → length (value_bytes m t v) ≤ size_of t
unfolding size_of
value_length m (IntegerType w) v = omega (arith, little_length (bytes_of w) (constant_word m (Some (IntegerType w)) v))
value_length m PointerType v = omega (arith, little_length 8 (pointer_word m v))
value_length m VoidType v = omega (arith, length-replicate {A = ℕ} (size_of VoidType) 0)
value_length m (ArrayType n t) v = omega (arith, length-replicate {A = ℕ} (size_of (ArrayType n t)) 0)
value_length m NoFields v = omega (arith, length-replicate {A = ℕ} (size_of NoFields) 0)
value_length m (MoreFields s t) v = omega (arith, length-replicate {A = ℕ} (size_of (MoreFields s t)) 0)

bytes_fit : (t : ResolvedType) (text : List ℕ) → fits_bytes t text ≡ true → length text ≤ size_of t
unfolding size_of
bytes_fit (ArrayType n (IntegerType W8)) text e = let z = eqb-true n (length text) e in omega (arith, z)
bytes_fit _ text e = absurd cc

filled_length : (size : ℕ) (bytes : List ℕ) → length bytes ≤ size → length (filled size bytes) ≤ size
filled_length size bytes l = omega (arith, length-append bytes (replicate (size - length bytes) 0), length-replicate {A = ℕ} (size - length bytes) 0)

-- a part's own type is the one that is asked for
pub part_is_as : (types : List NamedType) (e : ResolvedType) (t : Ty) → wrong_part types (Some e) t ≡ [] → Has (resolved types t) → resolved types t ≡ Some e
part_is_as types e t w h =
    let f : fails (is_as (Some e)) (resolved types t) ≡ false = then_none (fails (is_as (Some e)) (resolved types t)) (type_span t) w in
    let g : not (same_type e h.0) ≡ false = sym (ap (λ (o : Option ResolvedType). fails (is_as (Some e)) o) h.1) ∙ f in
    h.1 ∙ ap (λ (q : ResolvedType). Some q) (sym (same_type_true e h.0 (not_false (same_type e h.0) g)))

abbrev pub AllHave : List NamedType → List Ty → Type 0
AllHave types ts = AllByRecursion (λ (t : Ty). Has (resolved types t)) ts

array_length : (n : ℕ) (e : ResolvedType) (bytes count : ℕ) → n ≡ count → bytes ≤ count * size_of e → bytes ≤ size_of (ArrayType n e)
unfolding size_of
array_length n e bytes count h l = subst (λ (q : ℕ). bytes ≤ q * size_of e) (sym h) l

more_length : (xs ys : List ℕ) (count size : ℕ) → length xs ≤ size → length ys ≤ count * size → length (xs ++ ys) ≤ suc count * size
more_length xs ys count size a b = let z : suc count * size ≡ size + count * size = omega arith in omega (arith, length-append xs ys, a, b, z)

nothing_after : (at : ℕ) (ts : List ResolvedType) → at + 0 ≤ end_from at ts
nothing_after at ts = omega (arith, end_behind at ts)

field_length : (at from size end : ℕ) (xs ys : List ℕ) → at ≤ from → length xs ≤ size → from + size + length ys ≤ end → at + length (replicate (from - at) 0 ++ (xs ++ ys)) ≤ end
field_length at from size end xs ys l a b = omega (arith, l, a, b, length-append (replicate (from - at) 0) (xs ++ ys), length-append xs ys, length-replicate {A = ℕ} (from - at) 0)

module _ (m : Tree) where
  mutual
    unfolding wrong_const wrong_elements wrong_fields const_bytes element_bytes field_bytes const_types part_types

    pub const_length : (t : ResolvedType) (c : Const) → wrong_const m.types (Some t) c ≡ [] → AllHave m.types (const_types c) → length (const_bytes m t c) ≤ size_of t
    const_length t (ValConst v) w h = value_length m t v
    const_length t (BytesConst b) w h = bytes_fit t b.text (not_false (fits_bytes t b.text) (then_none (fails (λ u. fits_bytes u b.text) (Some t)) b.span w))
    const_length (ArrayType n e) (ArrayConst s cs) w h =
        let own = then_none (fails (fits_elements (part_count cs)) (Some (ArrayType n e))) s (front_none _ (wrong_elements m.types (Some e) cs) w) in
        let count = eqb-true n (part_count cs) (not_false (n == part_count cs) own) in
        array_length n e (length (element_bytes m e cs)) (part_count cs) count (elements_length e cs (behind_none _ (wrong_elements m.types (Some e) cs) w) h)
    const_length (IntegerType x) (ArrayConst s cs) w h = omega arith
    const_length PointerType (ArrayConst s cs) w h = omega arith
    const_length VoidType (ArrayConst s cs) w h = omega arith
    const_length NoFields (ArrayConst s cs) w h = omega arith
    const_length (MoreFields r u) (ArrayConst s cs) w h = omega arith
    const_length t (StructConst s cs) w h =
        let all = fields_length 0 (field_list t) cs (behind_none _ (wrong_fields m.types (field_list t) cs) w) h in
        filled_length (size_of t) (field_bytes m 0 (field_list t) cs) (omega (arith, all, end_is t, end_within t))

    elements_length : (e : ResolvedType) (cs : Consts) → wrong_elements m.types (Some e) cs ≡ [] → AllHave m.types (part_types cs) → length (element_bytes m e cs) ≤ part_count cs * size_of e
    elements_length e NoConsts w h = omega arith
    elements_length e (MoreConsts t c cs) w h =
        let own = part_is_as m.types e t (front_none (wrong_part m.types (Some e) t) _ w) h.0 in
        let rest = behind_none (wrong_part m.types (Some e) t) (wrong_const m.types (resolved m.types t) c ++ wrong_elements m.types (Some e) cs) w in
        let one = const_length e c (sym (ap (λ (o : Option ResolvedType). wrong_const m.types o c) own)
        ∙ front_none (wrong_const m.types (resolved m.types t) c) (wrong_elements m.types (Some e) cs) rest)
        (all_front (λ (u : Ty). Has (resolved m.types u)) (const_types c) (part_types cs) h.1) in
        let more = elements_length e cs (behind_none (wrong_const m.types (resolved m.types t) c) (wrong_elements m.types (Some e) cs) rest)
        (all_behind (λ (u : Ty). Has (resolved m.types u)) (const_types c) (part_types cs) h.1) in
        more_length (const_bytes m e c) (element_bytes m e cs) (part_count cs) (size_of e) one more

    fields_length : (at : ℕ) (ts : List ResolvedType) (cs : Consts) → wrong_fields m.types ts cs ≡ [] → AllHave m.types (part_types cs)
        → at + length (field_bytes m at ts cs) ≤ end_from at ts
    fields_length at [] NoConsts w h = omega arith
    fields_length at [] (MoreConsts t c cs) w h = omega arith
    fields_length at (f ∷ fs) NoConsts w h = nothing_after at (f ∷ fs)
    fields_length at (f ∷ fs) (MoreConsts t c cs) w h =
        let own = part_is_as m.types f t (front_none (wrong_part m.types (Some f) t) _ w) h.0 in
        let rest = behind_none (wrong_part m.types (Some f) t) (wrong_const m.types (resolved m.types t) c ++ wrong_fields m.types fs cs) w in
        let one = const_length f c (sym (ap (λ (o : Option ResolvedType). wrong_const m.types o c) own)
        ∙ front_none (wrong_const m.types (resolved m.types t) c) (wrong_fields m.types fs cs) rest) (all_front (λ (u : Ty). Has (resolved m.types u)) (const_types c) (part_types cs) h.1) in
        let more = fields_length (round_up at (alignment_of f) + size_of f) fs cs (behind_none (wrong_const m.types (resolved m.types t) c) (wrong_fields m.types fs cs) rest)
        (all_behind (λ (u : Ty). Has (resolved m.types u)) (const_types c) (part_types cs) h.1) in
        field_length at (round_up at (alignment_of f)) (size_of f) (end_from (round_up at (alignment_of f) + size_of f) fs) (const_bytes m f c)
        (field_bytes m (round_up at (alignment_of f) + size_of f) fs cs) (rounds_up at (alignment_of f) (aligned f)) one more

-- ---- without zeros at the end

unless_length : (b : ℕ) (bs : List ℕ) → length (unless_zero b bs) ≤ suc (length bs)
unless_length b [] = by (b == 0)
  where
    by : (c : Bool) → length (cond c [] (b ∷ [])) ≤ 1
    by true = omega arith
    by false = omega arith
unless_length b (c ∷ cs) = omega arith

pub trimmed_length : (bs : List ℕ) → length (trimmed bs) ≤ length bs
trimmed_length [] = omega arith
trimmed_length (b ∷ bs) = omega (arith, unless_length b (trimmed bs), trimmed_length bs)
