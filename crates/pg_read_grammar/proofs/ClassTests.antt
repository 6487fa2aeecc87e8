-- Tests over all classes.
use Rattle.std.proofs.Common.{◌≡◌, ℕ, zero, suc, List, [], ◌∷◌, Bool, true, false, ◌&&◌, ◌||◌, refl, IsTrue, not, subst, Option, Some, None, inl, inr, ◌⊎◌}
use Rattle.pg_read_grammar.specs.declared.class.Class.{Class}
use Rattle.pg_read_grammar.specs.declared.class.Class.TheVariants.{I1, I8, I16, I32, I64, Ptr, Void, MetadataWord, LabelWord, OtherType, X, To, Align, Volatile, Flag, Eq, Ne, Ugt, Uge, Ult, Ule}
use Rattle.pg_read_grammar.specs.declared.class.Class.TheVariants.{Sgt, Sge, Slt, Sle, TypeWord, Distinct, GlobalWord, ConstantWord, True, False, Null, Undef, Poison, ZeroInitializer}
use Rattle.pg_read_grammar.specs.declared.class.Class.TheVariants.{SourceFilename, Target, Declare, Define, Attributes, Add, Sub, Mul, Udiv, Sdiv, Urem, Srem, Shl, Lshr, Ashr, And, Or, Xor, Icmp}
use Rattle.pg_read_grammar.specs.declared.class.Class.TheVariants.{Trunc, Zext, Sext, PtrToInt, IntToPtr, Select, Phi, Br, Switch, TailWord, Call, Ret, Unreachable, Alloca, Load, Store}
use Rattle.pg_read_grammar.specs.declared.class.Class.TheVariants.{GetElementPtr, OtherLeading, Refused, OtherWord, Label, Int, Dots, CStr, Odd, Str, Local, Global, DroppedGlobal, Meta, Bang}
use Rattle.pg_read_grammar.specs.declared.class.Class.TheVariants.{Attr, DebugAttr, OpenRound, CloseRound, OpenBrace, CloseBrace, OpenSquare, CloseSquare, Less, Greater, Comma, Equals, Star, Bar}
use Rattle.pg_read_grammar.specs.declared.class.Class.TheVariants.{Colon}
use Rattle.pg_read_grammar.specs.Classes.{code, is, none}

abbrev pub all_in : (Class → Bool) → List Class → Bool
all_in p [] = true
all_in p (x ∷ xs) = p x && all_in p xs

abbrev pub nth : List Class → ℕ → Option Class
nth [] n = None
nth (x ∷ xs) zero = Some x
nth (x ∷ xs) (suc n) = nth xs n

abbrev pub classes : List Class
classes = I1 ∷ I8 ∷ I16 ∷ I32 ∷ I64 ∷ Ptr ∷ Void ∷ MetadataWord ∷ LabelWord ∷ OtherType ∷ X ∷ To ∷ Align ∷ Volatile ∷ Flag ∷ Eq ∷ Ne ∷ Ugt ∷ Uge ∷ Ult ∷
    Ule ∷ Sgt ∷ Sge ∷ Slt ∷ Sle ∷ TypeWord ∷ Distinct ∷ GlobalWord ∷ ConstantWord ∷ True ∷ False ∷ Null ∷ Undef ∷ Poison ∷ ZeroInitializer ∷ SourceFilename ∷
    Target ∷ Declare ∷ Define ∷ Attributes ∷ Add ∷ Sub ∷ Mul ∷ Udiv ∷ Sdiv ∷ Urem ∷ Srem ∷ Shl ∷ Lshr ∷ Ashr ∷ And ∷ Or ∷ Xor ∷ Icmp ∷ Trunc ∷ Zext ∷ Sext
    ∷ PtrToInt ∷ IntToPtr ∷ Select ∷ Phi ∷ Br ∷ Switch ∷ TailWord ∷ Call ∷ Ret ∷ Unreachable ∷ Alloca ∷ Load ∷ Store ∷ GetElementPtr ∷ OtherLeading ∷ Refused ∷
    OtherWord ∷ Label ∷ Int ∷ Dots ∷ CStr ∷ Odd ∷ Str ∷ Local ∷ Global ∷ DroppedGlobal ∷ Meta ∷ Bang ∷ Attr ∷ DebugAttr ∷ OpenRound ∷ CloseRound ∷ OpenBrace ∷
    CloseBrace ∷ OpenSquare ∷ CloseSquare ∷ Less ∷ Greater ∷ Comma ∷ Equals ∷ Star ∷ Bar ∷ Colon ∷ []

abbrev pub every : (Class → Bool) → Bool
every p = all_in p classes

left : (a b : Bool) → (a && b) ≡ true → a ≡ true
left true b h = refl
left false b h = h

right : (a b : Bool) → (a && b) ≡ true → b ≡ true
right true b h = h
right false b h = absurd cc

holds_at : (p : Class → Bool) (xs : List Class) (c : Class) (n : ℕ) → all_in p xs ≡ true → nth xs n ≡ Some c → p c ≡ true
holds_at p [] c n h e = absurd cc
holds_at p (x ∷ xs) c zero h e = let same : x ≡ c = cc in subst (λ y. p y ≡ true) same (left (p x) (all_in p xs) h)
holds_at p (x ∷ xs) c (suc n) h e = holds_at p xs c n (right (p x) (all_in p xs) h) e

listed : (c : Class) → nth classes (code c) ≡ Some c
listed I1 = refl
listed I8 = refl
listed I16 = refl
listed I32 = refl
listed I64 = refl
listed Ptr = refl
listed Void = refl
listed MetadataWord = refl
listed LabelWord = refl
listed OtherType = refl
listed X = refl
listed To = refl
listed Align = refl
listed Volatile = refl
listed Flag = refl
listed Eq = refl
listed Ne = refl
listed Ugt = refl
listed Uge = refl
listed Ult = refl
listed Ule = refl
listed Sgt = refl
listed Sge = refl
listed Slt = refl
listed Sle = refl
listed TypeWord = refl
listed Distinct = refl
listed GlobalWord = refl
listed ConstantWord = refl
listed True = refl
listed False = refl
listed Null = refl
listed Undef = refl
listed Poison = refl
listed ZeroInitializer = refl
listed SourceFilename = refl
listed Target = refl
listed Declare = refl
listed Define = refl
listed Attributes = refl
listed Add = refl
listed Sub = refl
listed Mul = refl
listed Udiv = refl
listed Sdiv = refl
listed Urem = refl
listed Srem = refl
listed Shl = refl
listed Lshr = refl
listed Ashr = refl
listed And = refl
listed Or = refl
listed Xor = refl
listed Icmp = refl
listed Trunc = refl
listed Zext = refl
listed Sext = refl
listed PtrToInt = refl
listed IntToPtr = refl
listed Select = refl
listed Phi = refl
listed Br = refl
listed Switch = refl
listed TailWord = refl
listed Call = refl
listed Ret = refl
listed Unreachable = refl
listed Alloca = refl
listed Load = refl
listed Store = refl
listed GetElementPtr = refl
listed OtherLeading = refl
listed Refused = refl
listed OtherWord = refl
listed Label = refl
listed Int = refl
listed Dots = refl
listed CStr = refl
listed Odd = refl
listed Str = refl
listed Local = refl
listed Global = refl
listed DroppedGlobal = refl
listed Meta = refl
listed Bang = refl
listed Attr = refl
listed DebugAttr = refl
listed OpenRound = refl
listed CloseRound = refl
listed OpenBrace = refl
listed CloseBrace = refl
listed OpenSquare = refl
listed CloseSquare = refl
listed Less = refl
listed Greater = refl
listed Comma = refl
listed Equals = refl
listed Star = refl
listed Bar = refl
listed Colon = refl

pub every_is : (p : Class → Bool) → every p ≡ true → (c : Class) → p c ≡ true
every_is p h c = holds_at p classes c (code c) h (listed c)

-- no class is in both; each class of the first is in the second
abbrev pub apart : (Class → Bool) → (Class → Bool) → Bool
apart p q = every (λ c. not (p c && q c))

abbrev pub within : (Class → Bool) → (Class → Bool) → Bool
within p q = every (λ c. not (p c) || q c)

clash : (a b : Bool) → not (a && b) ≡ true → a ≡ true → b ≡ true → ⊥
clash true true n a b = cc
clash true false n a b = cc
clash false b n a h = cc

pub apart_is : (p q : Class → Bool) → apart p q ≡ true → (c : Class) → IsTrue (p c) → IsTrue (q c) → ⊥
apart_is p q h c a b = clash (p c) (q c) (every_is (λ c. not (p c && q c)) h c) a b

goes : (a b : Bool) → (not a || b) ≡ true → a ≡ true → b ≡ true
goes true b n a = n
goes false b n a = absurd cc

pub within_is : (p q : Class → Bool) → within p q ≡ true → (c : Class) → IsTrue (p c) → IsTrue (q c)
within_is p q h c a = goes (p c) (q c) (every_is (λ c. not (p c) || q c) h c) a

pub in_left : (a b : Bool) → a ≡ true → (a || b) ≡ true
in_left true b h = refl
in_left false b h = absurd cc

pub in_right : (a b : Bool) → b ≡ true → (a || b) ≡ true
in_right true b h = refl
in_right false b h = h

pub in_one : (a b : Bool) → (a || b) ≡ true → (a ≡ true) ⊎ (b ≡ true)
in_one true b h = inl refl
in_one false b h = inr h

all_by : (p : Class → Bool) (xs : List Class) → ((c : Class) → p c ≡ true) → all_in p xs ≡ true
all_by p [] h = refl
all_by p (x ∷ xs) h = rw (h x) (all_by p xs h)

pub within_by : (p q : Class → Bool) → ((c : Class) → (not (p c) || q c) ≡ true) → within p q ≡ true
within_by p q h = all_by (λ c. not (p c) || q c) classes h

pub is_self : (c : Class) → is c c ≡ true
is_self c = every_is (λ d. is d d) refl c

pub apart_none : (p : Class → Bool) → apart p none ≡ true
apart_none p = all_by (λ c. not (p c && false)) classes (λ c. both (p c))
  where
    both : (a : Bool) → not (a && false) ≡ true
    both true = refl
    both false = refl

pub apart_from_none : (p : Class → Bool) → apart none p ≡ true
apart_from_none p = refl

pub within_none : (p : Class → Bool) → within none p ≡ true
within_none p = refl
