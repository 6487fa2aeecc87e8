-- The numbers of constants of an accepted tree are numbers of their types' widths.
use Rattle.std.proofs.Common.{◌≡◌, ℕ, ◌+◌, ◌-◌, ◌*◌, ◌/◌, ◌%◌, ◌^◌, ◌<◌, ◌≤◌, List, refl, subst, arith}
use Rattle.std.specs.Prelude.{slice_get, Option, Some, None, unwrap_or, ℤ, pos, negsuc, ◌+ℤ◌}
use Rattle.std.specs.Option.{option_map}
use Rattle.std.proofs.lemmas.Option.{slice_get_within, same_Some}
use Rattle.pg_num.specs.Decimal.{decimal_between}
use Rattle.pg_num.specs.Numbers.{modulus, residue}
use Rattle.pg_num.specs.Pointers.{word_of, offset_of, moved_by}
use Rattle.pg_num.specs.declared.width.Width.{Width}
use Rattle.pg_num.specs.declared.width.Width.TheVariants.{W1, W8, W16, W32, W64}
use Rattle.pg_ir.specs.declared.value.Scalar.{Scalar}
use Rattle.pg_ir.specs.declared.value.Scalar.TheVariants as scalar
use Rattle.pg_ir.specs.WellFormed.{width_of}
use Rattle.pg_read_ast.specs.Syntax.{Val, Int, True, False, Null, Undef, Poison, ZeroInitializer, Local, Global, GepVal, IntToPtrVal, Variable, Tree}
use Rattle.pg_check_types.specs.Resolved.{ResolvedType, IntegerType, PointerType, VoidType, ArrayType, NoFields, MoreFields, resolved}
use Rattle.pg_check_types.specs.Layout.{size_or_none}
use Rattle.pg_check_rules.specs.Names.{Symbol, VariableOf, DefinitionOf, DeclarationOf, NoSymbol, symbol}
use Rattle.pg_check_rules.specs.ValueConditions.{constant_number, number_at}
use Rattle.pg_check_rules.specs.Constants.{start_granule, global_pointer, symbol_word, pointer_word, constant_word}
use Rattle.pg_check_rules.specs.Conditions.{IsUnrefused}
use Rattle.pg_check_rules.specs.Numbered.{scalar_in}
use Rattle.pg_law_numbering.proofs.GlobalSymbols.{variable_there}
use Rattle.pg_law_numbering.proofs.Globals.{start_below, size_fits}

-- ---- integers

modulus_some : (w : Width) → 2 ≤ modulus w
modulus_some W1 = omega arith
modulus_some W8 = omega arith
modulus_some W16 = omega arith
modulus_some W32 = omega arith
modulus_some W64 = omega arith

modulus_small : (w : Width) → modulus w ≤ 2 ^ 64
modulus_small W1 = omega arith
modulus_small W8 = omega arith
modulus_small W16 = omega arith
modulus_small W32 = omega arith
modulus_small W64 = omega arith

rest_below : (n k : ℕ) → 2 ≤ k → n % k < k
rest_below n k h = omega (arith, h)

residue_below : (w : Width) (z : ℤ) → residue w z < modulus w
residue_below w (pos n) = rest_below n (modulus w) (modulus_some w)
residue_below w (negsuc n) = by (modulus w) (n % modulus w) (modulus_some w)
  where
    by : (k r : ℕ) → 2 ≤ k → k - 1 - r < k
    by k r h = omega (arith, h)

number_below : (w : Width) (o : Option ℤ) → unwrap_or (option_map (residue w) o) 0 < modulus w
number_below w None = let h = modulus_some w in by (modulus w) h
  where
    by : (k : ℕ) → 2 ≤ k → 0 < k
    by k g = omega (arith, g)
number_below w (Some z) = residue_below w z

zero_below : (w : Width) → 0 < modulus w
zero_below w = by (modulus w) (modulus_some w)
  where
    by : (k : ℕ) → 2 ≤ k → 0 < k
    by k g = omega (arith, g)

one_below : (w : Width) → 1 < modulus w
one_below w = by (modulus w) (modulus_some w)
  where
    by : (k : ℕ) → 2 ≤ k → 1 < k
    by k g = omega (arith, g)

pub constant_below : (w : Width) (v : Val) → unwrap_or (constant_number w v) 0 < modulus w
constant_below w (Int n) = number_below w (decimal_between _ _ n.text)
constant_below w (True s) = one_below w
constant_below w (False s) = zero_below w
constant_below w (Null s) = zero_below w
constant_below w (Undef s) = zero_below w
constant_below w (Poison s) = zero_below w
constant_below w (ZeroInitializer s) = zero_below w
constant_below w (Local n) = zero_below w
constant_below w (Global n) = zero_below w
constant_below w (GepVal s t u p is) = zero_below w
constant_below w (IntToPtrVal s t n u) = zero_below w

-- ---- pointers

offset_below : (z : ℤ) → offset_of z < 2 ^ 21
offset_below (pos n) = omega arith
offset_below (negsuc n) = omega arith

word_below : (start length offset : ℕ) → start < 2 ^ 22 → length < 2 ^ 21 → offset < 2 ^ 21 → start * 2 ^ 42 + length * 2 ^ 21 + offset < 2 ^ 64
word_below start length offset a b c = omega (arith, a, b, c)

start_fits : (word : ℕ) → word < 2 ^ 64 → word / 2 ^ 42 < 2 ^ 22
start_fits word h = omega (arith, h)

moved_below : (word : ℕ) (z : ℤ) → word < 2 ^ 64 → moved_by word z < 2 ^ 64
moved_below word z h = word_below (word / 2 ^ 42) (word / 2 ^ 21 % 2 ^ 21) (offset_of (pos (word % 2 ^ 21) +ℤ z)) (start_fits word h) (omega arith) (offset_below (pos (word % 2 ^ 21) +ℤ z))

some_number : (t : Option ResolvedType) (v : Val) → unwrap_or (number_at t v) 0 < 2 ^ 64
some_number (Some (IntegerType w)) v = by (unwrap_or (constant_number w v) 0) (modulus w) (constant_below w v) (modulus_small w)
  where
    by : (n k : ℕ) → n < k → k ≤ 2 ^ 64 → n < 2 ^ 64
    by n k g h = omega (arith, g, h)
some_number None v = omega arith
some_number (Some PointerType) v = omega arith
some_number (Some VoidType) v = omega arith
some_number (Some (ArrayType n t)) v = omega arith
some_number (Some NoFields) v = omega arith
some_number (Some (MoreFields s t)) v = omega arith

module _ (m : Tree) (accepted : IsUnrefused m) where
  global_word : (i : ℕ) (v : Variable) → slice_get m.globals i ≡ Some v → word_of (global_pointer m i v) < 2 ^ 64
  global_word i v e =
      let within = slice_get_within m.globals i v e in
      word_below (start_granule m i) (size_or_none (resolved m.types v.ty)) 0 (omega (arith, start_below m accepted i (omega (arith, within)))) (omega (arith, size_fits m accepted i v e))
      (omega arith)

  symbol_below : (text : List ℕ) (s : Symbol) → symbol m text ≡ s → symbol_word m s < 2 ^ 64
  symbol_below text (VariableOf i v) e = global_word i v (variable_there m text i v e)
  symbol_below text (DefinitionOf f d) e = omega arith
  symbol_below text (DeclarationOf d) e = omega arith
  symbol_below text NoSymbol e = omega arith

  pointer_below : (v : Val) → pointer_word m v < 2 ^ 64
  unfolding pointer_word
  pointer_below (Global n) = symbol_below n.text (symbol m n.text) refl
  pointer_below (GepVal s t u p is) = moved_below (pointer_word m p) _ (pointer_below p)
  pointer_below (IntToPtrVal s t n u) = some_number (resolved m.types t) (Int n)
  pointer_below (Int n) = omega arith
  pointer_below (True s) = omega arith
  pointer_below (False s) = omega arith
  pointer_below (Null s) = omega arith
  pointer_below (Undef s) = omega arith
  pointer_below (Poison s) = omega arith
  pointer_below (ZeroInitializer s) = omega arith
  pointer_below (Local n) = omega arith

  -- a constant at a scalar type
  pub constant_fits : (t : Option ResolvedType) (s : Scalar) (v : Val) → scalar_in t ≡ Some s → constant_word m t v < modulus (width_of s)
  constant_fits (Some (IntegerType w)) s v e = subst (λ (q : Scalar). unwrap_or (constant_number w v) 0 < modulus (width_of q)) (same_Some (scalar.Int w) s e) (constant_below w v)
  constant_fits (Some PointerType) s v e = subst (λ (q : Scalar). pointer_word m v < modulus (width_of q)) (same_Some scalar.Ptr s e) (pointer_below v)
  constant_fits None s v e = absurd cc
  constant_fits (Some VoidType) s v e = absurd cc
  constant_fits (Some (ArrayType n t)) s v e = absurd cc
  constant_fits (Some NoFields) s v e = absurd cc
  constant_fits (Some (MoreFields r t)) s v e = absurd cc
