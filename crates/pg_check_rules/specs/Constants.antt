-- The numbers of constants, and the bytes of initialisers.
use Rattle.std.specs.Prelude.{ℕ, zero, suc, ◌+◌, ◌-◌, ◌/◌, ◌%◌, ◌==◌, if◌then◌else◌, List, [], ◌∷◌, ◌++◌, length, take}
use Rattle.std.specs.Prelude.{replicate, slice_get, sum_by, ℤ, pos, ◌+ℤ◌, ◌*ℤ◌, Option, Some, None, unwrap_or}
use Rattle.pg_num.specs.Pointers.{word_of, moved_by}
use Rattle.pg_num.specs.declared.pointer.Pointer.{Pointer}
use Rattle.pg_ir.specs.WellFormed.{granules_for}
use Rattle.pg_ir.specs.declared.value.Scale.{Scale}
use Rattle.pg_ir.specs.declared.value.Scale.TheVariants.{Times, Field}
use Rattle.pg_read_ast.specs.Syntax.{Ty, Val, Int, Global, GepVal, IntToPtrVal, Typed, Const, Consts, ValConst, BytesConst, ArrayConst, StructConst, NoConsts, MoreConsts, NamedType, Variable, Tree}
use Rattle.pg_check_types.specs.Resolved.{ResolvedType, IntegerType, PointerType, ArrayType, MoreFields, resolved}
use Rattle.pg_check_types.specs.Layout.{size_of, alignment_of, round_up, field_list, field_offsets, size_or_none, bytes_of}
use Rattle.pg_check_rules.specs.Names.{Symbol, VariableOf, symbol}
use Rattle.pg_check_rules.specs.Written.{typed_list}
use Rattle.pg_check_rules.specs.ValueConditions.{number_at, signed_at, chosen_field}

-- ---- globals in memory

-- globals lie one after another from granule 1 on
unfoldable pub start_granule : Tree → ℕ → ℕ
start_granule m i = 1 + sum_by (λ (v : Variable). granules_for (size_or_none (resolved m.types v.ty))) (take i m.globals)

-- a global's name is the pointer to its first byte
abbrev pub global_pointer : Tree → ℕ → Variable → Pointer
global_pointer m i v = record { start = start_granule m i; length = size_or_none (resolved m.types v.ty); offset = 0 }

abbrev pub symbol_word : Tree → Symbol → ℕ
symbol_word m (VariableOf i v) = word_of (global_pointer m i v)
symbol_word m _ = 0

-- ---- how indices move a pointer

abbrev pub offset_at : ResolvedType → Option ℤ → ℕ
offset_at s (Some (pos k)) = unwrap_or (slice_get (field_offsets s) k) 0
offset_at s _ = 0

-- the first index counts the type, the others go into arrays and structures
abbrev pub step_scales : List NamedType → Option ResolvedType → List Typed → List Scale
step_scales types t [] = []
step_scales types (Some (ArrayType n e)) (i ∷ is) = Times (size_of e) ∷ step_scales types (Some e) is
step_scales types (Some (MoreFields s t)) (i ∷ is) = Field (offset_at (MoreFields s t) (signed_at (resolved types i.ty) i.value)) ∷ step_scales types (chosen_field types (MoreFields s t) i) is
step_scales types _ (i ∷ is) = Times 0 ∷ step_scales types None is

abbrev pub index_scales : List NamedType → Ty → List Typed → List Scale
index_scales types t [] = []
index_scales types t (i ∷ is) = Times (size_or_none (resolved types t)) ∷ step_scales types (resolved types t) is

-- the bytes by which a constant index moves
abbrev pub index_move : Scale → Option ℤ → ℤ
index_move (Times n) (Some z) = z *ℤ pos n
index_move (Times n) None = pos 0
index_move (Field n) z = pos n

abbrev pub moves : List NamedType → List Scale → List Typed → ℤ
moves types (s ∷ ss) (i ∷ is) = index_move s (signed_at (resolved types i.ty) i.value) +ℤ moves types ss is
moves types _ _ = pos 0

-- ---- constants as numbers

-- the word of a pointer constant
unfoldable pub pointer_word : Tree → Val → ℕ
pointer_word m (Global n) = symbol_word m (symbol m n.text)
pointer_word m (GepVal s t u p is) = moved_by (pointer_word m p) (moves m.types (index_scales m.types t (typed_list is)) (typed_list is))
pointer_word m (IntToPtrVal s t n u) = unwrap_or (number_at (resolved m.types t) (Int n)) 0
pointer_word m _ = 0

-- undef, poison and zeroinitializer are 0
abbrev pub constant_word : Tree → Option ResolvedType → Val → ℕ
constant_word m (Some (IntegerType w)) v = unwrap_or (number_at (Some (IntegerType w)) v) 0
constant_word m (Some PointerType) v = pointer_word m v
constant_word m _ v = 0

-- ---- bytes of initialisers

-- so many bytes of a number, the lowest first
abbrev pub little_endian : ℕ → ℕ → List ℕ
little_endian zero n = []
little_endian (suc count) n = n % 256 ∷ little_endian count (n / 256)

-- zeros behind bytes, up to a size
abbrev pub filled : ℕ → List ℕ → List ℕ
filled size bytes = bytes ++ replicate (size - length bytes) 0

abbrev pub value_bytes : Tree → ResolvedType → Val → List ℕ
value_bytes m (IntegerType w) v = little_endian (bytes_of w) (constant_word m (Some (IntegerType w)) v)
value_bytes m PointerType v = little_endian 8 (pointer_word m v)
value_bytes m t v = replicate (size_of t) 0

-- the bytes of a constant of a type; what lies between fields is 0
unfoldable mutual
  pub const_bytes : Tree → ResolvedType → Const → List ℕ
  const_bytes m t (ValConst v) = value_bytes m t v
  const_bytes m t (BytesConst b) = b.text
  const_bytes m (ArrayType n e) (ArrayConst s cs) = element_bytes m e cs
  const_bytes m t (StructConst s cs) = filled (size_of t) (field_bytes m 0 (field_list t) cs)
  const_bytes m t c = []

  pub element_bytes : Tree → ResolvedType → Consts → List ℕ
  element_bytes m e NoConsts = []
  element_bytes m e (MoreConsts t c cs) = const_bytes m e c ++ element_bytes m e cs

  -- the bytes of fields from an offset on
  pub field_bytes : Tree → ℕ → List ResolvedType → Consts → List ℕ
  field_bytes m at (t ∷ ts) (MoreConsts u c cs) =
      replicate (round_up at (alignment_of t) - at) 0
      ++ (const_bytes m t c ++ field_bytes m (round_up at (alignment_of t) + size_of t) ts cs)
  field_bytes m at _ _ = []

abbrev pub unless_zero : ℕ → List ℕ → List ℕ
unless_zero b [] = if b == 0 then [] else b ∷ []
unless_zero b (c ∷ cs) = b ∷ c ∷ cs

-- without the zeros at the end
abbrev pub trimmed : List ℕ → List ℕ
trimmed [] = []
trimmed (b ∷ bs) = unless_zero b (trimmed bs)

abbrev pub bytes_at : Tree → Option ResolvedType → Const → List ℕ
bytes_at m (Some t) c = const_bytes m t c
bytes_at m None c = []
