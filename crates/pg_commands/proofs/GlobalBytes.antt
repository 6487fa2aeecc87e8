-- The globals of the program of a module of a text of bytes begin with bytes.
use Rattle.std.proofs.Common.{◌≡◌, ℕ, zero, suc, ◌+◌, ◌-◌, ◌/◌, ◌%◌, ◌<◌, List, [], ◌∷◌, ◌++◌, length, map, replicate, Bool, true, false, ◌==◌}
use Rattle.std.proofs.Common.{refl, arith, lt-ltb, ltb-true, cond, lit<}
use Rattle.std.specs.Prelude.{All, ◌^◌, Option, Some, None, slice_index}
use Rattle.std.specs.List.{list_all, enumerate_from}
use Rattle.pg_read_ast.specs.Syntax.{Val, Const, Consts, ValConst, BytesConst, ArrayConst, StructConst, NoConsts, MoreConsts, Variable, Tree}
use Rattle.pg_check_types.specs.Resolved.{ResolvedType, IntegerType, PointerType, VoidType, ArrayType, NoFields, MoreFields, resolved}
use Rattle.pg_check_types.specs.Layout.{bytes_of, round_up, alignment_of, size_of, field_list}
use Rattle.pg_check.specs.pg_check_rules.Constants.{constant_word, pointer_word, little_endian, filled, value_bytes, const_bytes, element_bytes, field_bytes, unless_zero, trimmed, bytes_at}
use Rattle.pg_check.specs.pg_check_rules.Numbered.{global_at, program_of}
use Rattle.pg_read_grammar.specs.Accepted.{IsModule}
use Rattle.pg_session_book.specs.pg_law_effects.Reached.{HoldBytes}
use Rattle.pg_law_canonical.proofs.ReadAgain.{Every}
use Rattle.pg_law_canonical.proofs.FirstTokens.{fore, aft, both}
use Rattle.pg_law_canonical.proofs.Names.{is_byte}
use Rattle.pg_commands.proofs.ModuleBytes.{HasBytes, HaveBytes, GlobalHas, globals_have}

-- ---- lists of bytes

abbrev are_bytes : List ℕ → Bool
are_bytes bs = list_all is_byte bs

joined : (xs ys : List ℕ) → are_bytes xs ≡ true → are_bytes ys ≡ true → are_bytes (xs ++ ys) ≡ true
joined [] ys h k = k
joined (x ∷ xs) ys h k = both (is_byte x) (are_bytes (xs ++ ys)) (fore (is_byte x) (are_bytes xs) h) (joined xs ys (aft (is_byte x) (are_bytes xs) h) k)

zeros : (n : ℕ) → are_bytes (replicate n 0) ≡ true
zeros zero = refl
zeros (suc n) = zeros n

little : (count n : ℕ) → are_bytes (little_endian count n) ≡ true
little zero n = refl
little (suc count) n = both (is_byte (n % 256)) (are_bytes (little_endian count (n / 256))) (lt-ltb (n % 256) 256 (omega arith)) (little count (n / 256))

unless : (b : ℕ) (bs : List ℕ) → is_byte b ≡ true → are_bytes bs ≡ true → are_bytes (unless_zero b bs) ≡ true
unless b [] h k = by (b == 0)
  where
    by : (c : Bool) → are_bytes (cond c [] (b ∷ [])) ≡ true
    by true = refl
    by false = both (is_byte b) true h refl
unless b (c ∷ cs) h k = both (is_byte b) (are_bytes (c ∷ cs)) h k

trimmed_bytes : (bs : List ℕ) → are_bytes bs ≡ true → are_bytes (trimmed bs) ≡ true
trimmed_bytes [] h = refl
trimmed_bytes (b ∷ bs) h = unless b (trimmed bs) (fore (is_byte b) (are_bytes bs) h) (trimmed_bytes bs (aft (is_byte b) (are_bytes bs) h))

index_small : (bs : List ℕ) (i : ℕ) → are_bytes bs ≡ true → slice_index bs i < 2 ^ 8
index_small [] i h = lit< tt
index_small (b ∷ bs) zero h = let k : b < 256 = ltb-true b 256 (fore (is_byte b) (are_bytes bs) h) in let z : 256 ≡ 2 ^ 8 = refl in omega (arith, k, z)
index_small (b ∷ bs) (suc i) h = index_small bs i (aft (is_byte b) (are_bytes bs) h)

-- ---- initialisers

value_small : (m : Tree) (t : ResolvedType) (v : Val) → are_bytes (value_bytes m t v) ≡ true
value_small m (IntegerType w) v = little (bytes_of w) (constant_word m (Some (IntegerType w)) v)
value_small m PointerType v = little 8 (pointer_word m v)
value_small m VoidType v = zeros (size_of VoidType)
value_small m (ArrayType n t) v = zeros (size_of (ArrayType n t))
value_small m NoFields v = zeros (size_of NoFields)
value_small m (MoreFields s t) v = zeros (size_of (MoreFields s t))

filled_small : (size : ℕ) (bytes : List ℕ) → are_bytes bytes ≡ true → are_bytes (filled size bytes) ≡ true
filled_small size bytes h = joined bytes (replicate (size - length bytes) 0) h (zeros (size - length bytes))

module _ (m : Tree) where
  mutual
    unfolding const_bytes element_bytes field_bytes

    const_small : (t : ResolvedType) (c : Const) → HasBytes c → are_bytes (const_bytes m t c) ≡ true
    const_small t (ValConst v) h = value_small m t v
    const_small t (BytesConst b) h = h.each
    const_small (ArrayType n e) (ArrayConst s cs) h = elements_small e cs h
    const_small (IntegerType x) (ArrayConst s cs) h = refl
    const_small PointerType (ArrayConst s cs) h = refl
    const_small VoidType (ArrayConst s cs) h = refl
    const_small NoFields (ArrayConst s cs) h = refl
    const_small (MoreFields r u) (ArrayConst s cs) h = refl
    const_small t (StructConst s cs) h = filled_small (size_of t) (field_bytes m 0 (field_list t) cs) (fields_small 0 (field_list t) cs h)

    elements_small : (e : ResolvedType) (cs : Consts) → HaveBytes cs → are_bytes (element_bytes m e cs) ≡ true
    elements_small e NoConsts h = refl
    elements_small e (MoreConsts t c cs) h = joined (const_bytes m e c) (element_bytes m e cs) (const_small e c h.0) (elements_small e cs h.1)

    fields_small : (at : ℕ) (ts : List ResolvedType) (cs : Consts) → HaveBytes cs → are_bytes (field_bytes m at ts cs) ≡ true
    fields_small at [] NoConsts h = refl
    fields_small at [] (MoreConsts t c cs) h = refl
    fields_small at (f ∷ fs) NoConsts h = refl
    fields_small at (f ∷ fs) (MoreConsts t c cs) h =
        let next = round_up at (alignment_of f) + size_of f in
        joined (replicate (round_up at (alignment_of f) - at) 0) (const_bytes m f c ++ field_bytes m next fs cs) (zeros (round_up at (alignment_of f) - at))
        (joined (const_bytes m f c) (field_bytes m next fs cs) (const_small f c h.0) (fields_small next fs cs h.1))

  initialiser_small : (t : Option ResolvedType) (c : Const) → HasBytes c → are_bytes (bytes_at m t c) ≡ true
  initialiser_small None c h = refl
  initialiser_small (Some t) c h = const_small t c h

  hold : (n : ℕ) (gs : List Variable) → Every GlobalHas gs → HoldBytes (map (λ (v : ℕ × Variable). global_at m v.0 v.1) (enumerate_from n gs))
  hold n [] h = tt
  hold n (g ∷ gs) h = (
    λ i. index_small (trimmed (bytes_at m (resolved m.types g.ty) g.value)) i (trimmed_bytes (bytes_at m (resolved m.types g.ty) g.value) (initialiser_small (resolved m.types g.ty) g.value h.0)),
    hold (n + 1) gs h.1,
  )

pub globals_hold_bytes : (text : List ℕ) (m : Tree) → All (λ b. b < 256) text → IsModule text m → HoldBytes (program_of m).globals
unfolding program_of
globals_hold_bytes text m h is = hold m 0 m.globals (globals_have text m h is)
