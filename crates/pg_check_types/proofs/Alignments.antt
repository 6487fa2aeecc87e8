-- Alignments, and where the fields of structures end.
use Rattle.std.proofs.Common.{◌≡◌, ℕ, zero, suc, ◌+◌, ◌≤◌, max, List, [], ◌∷◌, ◌++◌, refl, ap, ◌∙◌, arith}
use Rattle.pg_read_ast.specs.pg_num.declared.width.Width.{Width}
use Rattle.pg_read_ast.specs.pg_num.declared.width.Width.TheVariants.{W1, W8, W16, W32, W64}
use Rattle.pg_check_types.specs.Resolved.{ResolvedType, IntegerType, PointerType, VoidType, ArrayType, NoFields, MoreFields}
use Rattle.pg_check_types.specs.Layout.{bytes_of, round_up, alignment_of, size_of, fields_end, field_list}

bytes_some : (w : Width) → 1 ≤ bytes_of w
bytes_some W1 = omega arith
bytes_some W8 = omega arith
bytes_some W16 = omega arith
bytes_some W32 = omega arith
bytes_some W64 = omega arith

pub aligned : (t : ResolvedType) → 1 ≤ alignment_of t
unfolding alignment_of
aligned (IntegerType w) = bytes_some w
aligned PointerType = omega arith
aligned VoidType = omega arith
aligned (ArrayType n t) = aligned t
aligned NoFields = omega arith
aligned (MoreFields s t) = omega (arith, aligned s)

-- rounding up gives no less
pub rounds_up : (n a : ℕ) → 1 ≤ a → n ≤ round_up n a
rounds_up n zero l = absurd (omega (arith, l))
rounds_up n (suc a) l = omega arith

-- the last field of a structure ends within it
pub end_within : (t : ResolvedType) → fields_end t ≤ size_of t
unfolding size_of fields_end
end_within (IntegerType w) = omega arith
end_within PointerType = omega arith
end_within VoidType = omega arith
end_within (ArrayType n t) = omega arith
end_within NoFields = omega arith
end_within (MoreFields s t) =
    rounds_up (round_up (fields_end s) (alignment_of t) + size_of t) (max (alignment_of s) (alignment_of t)) (omega (arith, aligned s))

-- where further fields of these types end
abbrev pub end_from : ℕ → List ResolvedType → ℕ
end_from at [] = at
end_from at (t ∷ ts) = end_from (round_up at (alignment_of t) + size_of t) ts

end_joined : (at : ℕ) (ts us : List ResolvedType) → end_from at (ts ++ us) ≡ end_from (end_from at ts) us
end_joined at [] us = refl
end_joined at (t ∷ ts) us = end_joined (round_up at (alignment_of t) + size_of t) ts us

pub end_is : (t : ResolvedType) → end_from 0 (field_list t) ≡ fields_end t
unfolding fields_end
end_is (IntegerType w) = refl
end_is PointerType = refl
end_is VoidType = refl
end_is (ArrayType n t) = refl
end_is NoFields = refl
end_is (MoreFields s t) = end_joined 0 (field_list s) (t ∷ []) ∙ ap (λ n. round_up n (alignment_of t) + size_of t) (end_is s)

pub end_behind : (at : ℕ) (ts : List ResolvedType) → at ≤ end_from at ts
end_behind at [] = omega arith
end_behind at (t ∷ ts) =
    omega (arith, rounds_up at (alignment_of t) (aligned t), end_behind (round_up at (alignment_of t) + size_of t) ts)
