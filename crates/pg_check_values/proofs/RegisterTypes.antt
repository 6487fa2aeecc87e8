-- The types of registers.
use Rattle.std.proofs.Common.{◌≡◌, ℕ, zero, suc, ◌+◌, Bool, true, false, cond, List, [], ◌∷◌, map, slice_get, is_some, Option, Some, None, refl, sym, ap, ◌∙◌, arith}
use Rattle.std.proofs.Common.{◌⊎◌, inl, inr}
use Rattle.std.specs.List.{find, position, position_from}
use Rattle.std.specs.Option.{option_map, option_and_then}
use Rattle.std.proofs.lemmas.Iterator.Adapters.{position_from-zero}
use Rattle.pg_read_ast.specs.declared.names.Name.{Name}
use Rattle.pg_read_ast.specs.Syntax.{Local}
use Rattle.pg_check_rules.specs.Earliest.{earliest}
use Rattle.pg_num.specs.declared.width.Width.TheVariants.{W1, W8, W16, W32, W64}
use Rattle.pg_check_types.specs.Resolved.{ResolvedType, IntegerType, PointerType, VoidType, ArrayType, NoFields, MoreFields, same_type, is_bit, is_pointer}
use Rattle.pg_check_types.specs.Kinds.{fails, is_as}
use Rattle.pg_check_rules.specs.Names.{Register, register_named, register_number, is_called}
use Rattle.pg_check_rules.specs.ValueConditions.{Scope, unknown_value, wrong_register}
use Rattle.pg_check_values.specs.Uses.{wrong_typed}

pub bit_same : (t : Option ResolvedType) → fails (is_as (Some (IntegerType W1))) t ≡ fails is_bit t
unfolding same_type
bit_same None = refl
bit_same (Some (IntegerType W1)) = refl
bit_same (Some (IntegerType W8)) = refl
bit_same (Some (IntegerType W16)) = refl
bit_same (Some (IntegerType W32)) = refl
bit_same (Some (IntegerType W64)) = refl
bit_same (Some PointerType) = refl
bit_same (Some VoidType) = refl
bit_same (Some (ArrayType n t)) = refl
bit_same (Some NoFields) = refl
bit_same (Some (MoreFields s t)) = refl

pub pointer_same : (t : Option ResolvedType) → fails (is_as (Some PointerType)) t ≡ fails is_pointer t
unfolding same_type
pointer_same None = refl
pointer_same (Some (IntegerType w)) = refl
pointer_same (Some PointerType) = refl
pointer_same (Some VoidType) = refl
pointer_same (Some (ArrayType n t)) = refl
pointer_same (Some NoFields) = refl
pointer_same (Some (MoreFields s t)) = refl

-- the register that is found stands at its place
record Found (test : Register → Bool) (k : ℕ) (xs : List Register) : Type 0 where
  place : ℕ
  item : Register
  at : position_from test k xs ≡ Some (k + place)
  stands : slice_get xs place ≡ Some item
  same : find test xs ≡ Some item

record Missing (test : Register → Bool) (k : ℕ) (xs : List Register) : Type 0 where
  nowhere : position_from test k xs ≡ None
  none : find test xs ≡ None

search_from : (test : Register → Bool) (k : ℕ) (xs : List Register) → Found test k xs ⊎ Missing test k xs
search_from test k [] = inr (record { nowhere = refl; none = refl })
search_from test k (x ∷ xs) = by (test x) refl (search_from test (k + 1) xs)
  where
    by : (b : Bool) → test x ≡ b → Found test (k + 1) xs ⊎ Missing test (k + 1) xs → Found test k (x ∷ xs) ⊎ Missing test k (x ∷ xs)
    by true e r =
        let here : k ≡ k + 0 = omega arith in
        inl (record {
          place = 0;
          item = x;
          at = ap (λ b. cond b (Some k) (position_from test (k + 1) xs)) e ∙ ap (λ n. Some n) here;
          stands = refl;
          same = ap (λ b. cond b (Some x) (find test xs)) e;
        })
    by false e (inl f) =
        let s : k + 1 + f.place ≡ k + suc f.place = omega arith in
        inl (record {
          place = suc f.place;
          item = f.item;
          at = ap (λ b. cond b (Some k) (position_from test (k + 1) xs)) e ∙ f.at ∙ ap (λ n. Some n) s;
          stands = f.stands;
          same = ap (λ b. cond b (Some x) (find test xs)) e ∙ f.same;
        })
    by false e (inr m) = inr (record {
      nowhere = ap (λ b. cond b (Some k) (position_from test (k + 1) xs)) e ∙ m.nowhere;
      none = ap (λ b. cond b (Some x) (find test xs)) e ∙ m.none;
    })

abbrev type_of : Register → Option ResolvedType
type_of r = r.ty

map_at : {X Y : Type 0} (f : X → Y) (xs : List X) (k : ℕ) → slice_get (map f xs) k ≡ option_map f (slice_get xs k)
map_at f [] zero = refl
map_at f [] (suc k) = refl
map_at f (x ∷ xs) zero = refl
map_at f (x ∷ xs) (suc k) = map_at f xs k

-- the type of a register of a name
pub found_type : (registers : List Register) (text : List ℕ)
    → option_and_then (λ p. slice_get (map type_of registers) p) (register_number registers text) ≡ option_map type_of (register_named registers text)
unfolding register_number register_named
found_type registers text = by (search_from (is_called text) 0 registers)
  where
    by : Found (is_called text) 0 registers ⊎ Missing (is_called text) 0 registers
        → option_and_then (λ p. slice_get (map type_of registers) p) (position (is_called text) registers) ≡ option_map type_of (find (is_called text) registers)
    by (inl f) =
        let s : 0 + f.place ≡ f.place = omega arith in
        ap (λ o. option_and_then (λ p. slice_get (map type_of registers) p) o) (position_from-zero (is_called text) registers ∙ f.at ∙ ap (λ n. Some n) s)
        ∙ map_at type_of registers f.place
        ∙ ap (λ o. option_map type_of o) (f.stands ∙ sym f.same)
    by (inr m) = ap (λ o. option_and_then (λ p. slice_get (map type_of registers) p) o) (position_from-zero (is_called text) registers ∙ m.nowhere) ∙ ap (λ o. option_map type_of o) (sym m.none)

-- a name has a number where it is found
pub is_found : (registers : List Register) (text : List ℕ) → is_some (register_number registers text) ≡ is_some (register_named registers text)
unfolding register_number register_named
is_found registers text = by (search_from (is_called text) 0 registers)
  where
    by : Found (is_called text) 0 registers ⊎ Missing (is_called text) 0 registers → is_some (position (is_called text) registers) ≡ is_some (find (is_called text) registers)
    by (inl f) = ap (λ o. is_some o) (position_from-zero (is_called text) registers ∙ f.at) ∙ ap (λ o. is_some o) (sym f.same)
    by (inr m) = ap (λ o. is_some o) (position_from-zero (is_called text) registers ∙ m.nowhere) ∙ ap (λ o. is_some o) (sym m.none)

pub wrong_same : (constant : Bool) (t : Option ResolvedType) (o : Option Register) → wrong_typed constant t (option_map type_of o) ≡ wrong_register constant t o
wrong_same true t None = refl
wrong_same false t None = refl
wrong_same true t (Some r) = refl
wrong_same false t (Some r) = refl

-- a name of a register that there is, and of one that there isn't
pub known_register : (g : Scope) (n : Name) (p : ℕ) → register_number g.registers n.text ≡ Some p → None ≡ earliest (unknown_value g (Local n))
unfolding earliest
known_register g n p e = ap (λ b. earliest (cond b [] (n.span ∷ []))) (ap (λ o. is_some o) (sym e) ∙ is_found g.registers n.text)

pub no_register : (g : Scope) (n : Name) → register_number g.registers n.text ≡ None → Some n.span ≡ earliest (unknown_value g (Local n))
unfolding earliest
no_register g n e = ap (λ b. earliest (cond b [] (n.span ∷ []))) (ap (λ o. is_some o) (sym e) ∙ is_found g.registers n.text)

and_then_map : {X Y : Type 0} (f : X → Y) (xs : List X) (o : Option ℕ) → option_map f (option_and_then (λ p. slice_get xs p) o) ≡ option_and_then (λ p. slice_get (map f xs) p) o
and_then_map f xs None = refl
and_then_map f xs (Some p) = sym (map_at f xs p)

-- the type at a register's place is the register's
pub type_found : {X : Type 0} (f : X → Option ResolvedType) (xs : List X) (registers : List Register) (text : List ℕ) (o : Option ℕ)
    → o ≡ register_number registers text → map f xs ≡ map type_of registers
    → option_map f (option_and_then (λ p. slice_get xs p) o) ≡ option_map type_of (register_named registers text)
type_found f xs registers text o e m =
    and_then_map f xs o
    ∙ ap (λ ts. option_and_then (λ p. slice_get ts p) o) m
    ∙ ap (λ q. option_and_then (λ p. slice_get (map type_of registers) p) q) e
    ∙ found_type registers text
