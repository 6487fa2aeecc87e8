-- The words of canonical texts.
use Rattle.std.proofs.Common.{◌≡◌, codes, ap, refl}
use Rattle.pg_read_ast.specs.declared.ops.BinaryOp.{BinaryOp}
use Rattle.pg_read_ast.specs.declared.ops.BinaryOp.TheVariants as binaries
use Rattle.pg_num.specs.declared.operations.Compare.{Compare}
use Rattle.pg_num.specs.declared.operations.Compare.TheVariants as predicates
use Rattle.pg_read_ast.specs.declared.ops.CastOp.{CastOp}
use Rattle.pg_read_ast.specs.declared.ops.CastOp.TheVariants as casts
use Rattle.pg_read_ast.specs.Text as text
use Rattle.pg_read_grammar.specs.declared.class.Class.TheVariants.{I1, I8, I16, I32, I64, Ptr, Void, MetadataWord, LabelWord, X, To, TypeWord, GlobalWord, ConstantWord, True, False, Null, Undef}
use Rattle.pg_read_grammar.specs.declared.class.Class.TheVariants.{Poison, ZeroInitializer, Declare, Define, Icmp, IntToPtr, Select, Phi, Br, Switch, Call, Ret, Unreachable, Alloca, Load, Store}
use Rattle.pg_read_grammar.specs.declared.class.Class.TheVariants.{GetElementPtr, Add, Sub, Mul, Udiv, Sdiv, Urem, Srem, Shl, Lshr, Ashr, And, Or, Xor, Eq, Ne, Ugt, Uge, Ult, Ule, Sgt, Sge, Slt}
use Rattle.pg_read_grammar.specs.declared.class.Class.TheVariants.{Sle, Trunc, Zext, Sext, PtrToInt}
use Rattle.pg_read_grammar.specs.Classes.{is}
use Rattle.pg_read_grammar.specs.Language.{one}
use Rattle.pg_read_grammar.specs.GrammarOps.{binary_word, binary_of, predicate_word, predicate_of, cast_word, cast_of}
use Rattle.pg_read_grammar.specs.Words.{word_class, words}
use Rattle.pg_law_canonical.proofs.TokenTexts.{stops}
use Rattle.pg_law_canonical.proofs.ReadAgain.{Again, IsToken, weaker}
use Rattle.pg_law_canonical.proofs.Tokens.{word, word_of}

pub i1_word : Again stops (one (is I1)) (codes "i1") (IsToken I1 (codes "i1"))
unfolding word_class words
i1_word = word (codes "i1") I1 refl refl

pub i8_word : Again stops (one (is I8)) (codes "i8") (IsToken I8 (codes "i8"))
unfolding word_class words
i8_word = word (codes "i8") I8 refl refl

pub i16_word : Again stops (one (is I16)) (codes "i16") (IsToken I16 (codes "i16"))
unfolding word_class words
i16_word = word (codes "i16") I16 refl refl

pub i32_word : Again stops (one (is I32)) (codes "i32") (IsToken I32 (codes "i32"))
unfolding word_class words
i32_word = word (codes "i32") I32 refl refl

pub i64_word : Again stops (one (is I64)) (codes "i64") (IsToken I64 (codes "i64"))
unfolding word_class words
i64_word = word (codes "i64") I64 refl refl

pub ptr_word : Again stops (one (is Ptr)) (codes "ptr") (IsToken Ptr (codes "ptr"))
unfolding word_class words
ptr_word = word (codes "ptr") Ptr refl refl

pub void_word : Again stops (one (is Void)) (codes "void") (IsToken Void (codes "void"))
unfolding word_class words
void_word = word (codes "void") Void refl refl

pub metadata_word : Again stops (one (is MetadataWord)) (codes "metadata") (IsToken MetadataWord (codes "metadata"))
unfolding word_class words
metadata_word = word (codes "metadata") MetadataWord refl refl

pub label_word : Again stops (one (is LabelWord)) (codes "label") (IsToken LabelWord (codes "label"))
unfolding word_class words
label_word = word (codes "label") LabelWord refl refl

pub x_word : Again stops (one (is X)) (codes "x") (IsToken X (codes "x"))
unfolding word_class words
x_word = word (codes "x") X refl refl

pub to_word : Again stops (one (is To)) (codes "to") (IsToken To (codes "to"))
unfolding word_class words
to_word = word (codes "to") To refl refl

pub type_word : Again stops (one (is TypeWord)) (codes "type") (IsToken TypeWord (codes "type"))
unfolding word_class words
type_word = word (codes "type") TypeWord refl refl

pub global_word : Again stops (one (is GlobalWord)) (codes "global") (IsToken GlobalWord (codes "global"))
unfolding word_class words
global_word = word (codes "global") GlobalWord refl refl

pub constant_word : Again stops (one (is ConstantWord)) (codes "constant") (IsToken ConstantWord (codes "constant"))
unfolding word_class words
constant_word = word (codes "constant") ConstantWord refl refl

pub true_word : Again stops (one (is True)) (codes "true") (IsToken True (codes "true"))
unfolding word_class words
true_word = word (codes "true") True refl refl

pub false_word : Again stops (one (is False)) (codes "false") (IsToken False (codes "false"))
unfolding word_class words
false_word = word (codes "false") False refl refl

pub null_word : Again stops (one (is Null)) (codes "null") (IsToken Null (codes "null"))
unfolding word_class words
null_word = word (codes "null") Null refl refl

pub undef_word : Again stops (one (is Undef)) (codes "undef") (IsToken Undef (codes "undef"))
unfolding word_class words
undef_word = word (codes "undef") Undef refl refl

pub poison_word : Again stops (one (is Poison)) (codes "poison") (IsToken Poison (codes "poison"))
unfolding word_class words
poison_word = word (codes "poison") Poison refl refl

pub zeroinitializer_word : Again stops (one (is ZeroInitializer)) (codes "zeroinitializer") (IsToken ZeroInitializer (codes "zeroinitializer"))
unfolding word_class words
zeroinitializer_word = word (codes "zeroinitializer") ZeroInitializer refl refl

pub declare_word : Again stops (one (is Declare)) (codes "declare") (IsToken Declare (codes "declare"))
unfolding word_class words
declare_word = word (codes "declare") Declare refl refl

pub define_word : Again stops (one (is Define)) (codes "define") (IsToken Define (codes "define"))
unfolding word_class words
define_word = word (codes "define") Define refl refl

pub icmp_word : Again stops (one (is Icmp)) (codes "icmp") (IsToken Icmp (codes "icmp"))
unfolding word_class words
icmp_word = word (codes "icmp") Icmp refl refl

pub inttoptr_word : Again stops (one (is IntToPtr)) (codes "inttoptr") (IsToken IntToPtr (codes "inttoptr"))
unfolding word_class words
inttoptr_word = word (codes "inttoptr") IntToPtr refl refl

pub select_word : Again stops (one (is Select)) (codes "select") (IsToken Select (codes "select"))
unfolding word_class words
select_word = word (codes "select") Select refl refl

pub phi_word : Again stops (one (is Phi)) (codes "phi") (IsToken Phi (codes "phi"))
unfolding word_class words
phi_word = word (codes "phi") Phi refl refl

pub br_word : Again stops (one (is Br)) (codes "br") (IsToken Br (codes "br"))
unfolding word_class words
br_word = word (codes "br") Br refl refl

pub switch_word : Again stops (one (is Switch)) (codes "switch") (IsToken Switch (codes "switch"))
unfolding word_class words
switch_word = word (codes "switch") Switch refl refl

pub call_word : Again stops (one (is Call)) (codes "call") (IsToken Call (codes "call"))
unfolding word_class words
call_word = word (codes "call") Call refl refl

pub ret_word : Again stops (one (is Ret)) (codes "ret") (IsToken Ret (codes "ret"))
unfolding word_class words
ret_word = word (codes "ret") Ret refl refl

pub unreachable_word : Again stops (one (is Unreachable)) (codes "unreachable") (IsToken Unreachable (codes "unreachable"))
unfolding word_class words
unreachable_word = word (codes "unreachable") Unreachable refl refl

pub alloca_word : Again stops (one (is Alloca)) (codes "alloca") (IsToken Alloca (codes "alloca"))
unfolding word_class words
alloca_word = word (codes "alloca") Alloca refl refl

pub load_word : Again stops (one (is Load)) (codes "load") (IsToken Load (codes "load"))
unfolding word_class words
load_word = word (codes "load") Load refl refl

pub store_word : Again stops (one (is Store)) (codes "store") (IsToken Store (codes "store"))
unfolding word_class words
store_word = word (codes "store") Store refl refl

pub getelementptr_word : Again stops (one (is GetElementPtr)) (codes "getelementptr") (IsToken GetElementPtr (codes "getelementptr"))
unfolding word_class words
getelementptr_word = word (codes "getelementptr") GetElementPtr refl refl

pub binary_again : (op : BinaryOp) → Again stops (one binary_word) (text.binary_word op) (λ t. binary_of t.class ≡ op)
unfolding word_class words
binary_again binaries.Add = weaker (λ t k. ap binary_of k.class_is) (word_of binary_word (codes "add") Add refl refl refl)
binary_again binaries.Sub = weaker (λ t k. ap binary_of k.class_is) (word_of binary_word (codes "sub") Sub refl refl refl)
binary_again binaries.Mul = weaker (λ t k. ap binary_of k.class_is) (word_of binary_word (codes "mul") Mul refl refl refl)
binary_again binaries.Udiv = weaker (λ t k. ap binary_of k.class_is) (word_of binary_word (codes "udiv") Udiv refl refl refl)
binary_again binaries.Sdiv = weaker (λ t k. ap binary_of k.class_is) (word_of binary_word (codes "sdiv") Sdiv refl refl refl)
binary_again binaries.Urem = weaker (λ t k. ap binary_of k.class_is) (word_of binary_word (codes "urem") Urem refl refl refl)
binary_again binaries.Srem = weaker (λ t k. ap binary_of k.class_is) (word_of binary_word (codes "srem") Srem refl refl refl)
binary_again binaries.Shl = weaker (λ t k. ap binary_of k.class_is) (word_of binary_word (codes "shl") Shl refl refl refl)
binary_again binaries.Lshr = weaker (λ t k. ap binary_of k.class_is) (word_of binary_word (codes "lshr") Lshr refl refl refl)
binary_again binaries.Ashr = weaker (λ t k. ap binary_of k.class_is) (word_of binary_word (codes "ashr") Ashr refl refl refl)
binary_again binaries.And = weaker (λ t k. ap binary_of k.class_is) (word_of binary_word (codes "and") And refl refl refl)
binary_again binaries.Or = weaker (λ t k. ap binary_of k.class_is) (word_of binary_word (codes "or") Or refl refl refl)
binary_again binaries.Xor = weaker (λ t k. ap binary_of k.class_is) (word_of binary_word (codes "xor") Xor refl refl refl)

pub predicate_again : (op : Compare) → Again stops (one predicate_word) (text.predicate_word op) (λ t. predicate_of t.class ≡ op)
unfolding word_class words
predicate_again predicates.Eq = weaker (λ t k. ap predicate_of k.class_is) (word_of predicate_word (codes "eq") Eq refl refl refl)
predicate_again predicates.Ne = weaker (λ t k. ap predicate_of k.class_is) (word_of predicate_word (codes "ne") Ne refl refl refl)
predicate_again predicates.Ugt = weaker (λ t k. ap predicate_of k.class_is) (word_of predicate_word (codes "ugt") Ugt refl refl refl)
predicate_again predicates.Uge = weaker (λ t k. ap predicate_of k.class_is) (word_of predicate_word (codes "uge") Uge refl refl refl)
predicate_again predicates.Ult = weaker (λ t k. ap predicate_of k.class_is) (word_of predicate_word (codes "ult") Ult refl refl refl)
predicate_again predicates.Ule = weaker (λ t k. ap predicate_of k.class_is) (word_of predicate_word (codes "ule") Ule refl refl refl)
predicate_again predicates.Sgt = weaker (λ t k. ap predicate_of k.class_is) (word_of predicate_word (codes "sgt") Sgt refl refl refl)
predicate_again predicates.Sge = weaker (λ t k. ap predicate_of k.class_is) (word_of predicate_word (codes "sge") Sge refl refl refl)
predicate_again predicates.Slt = weaker (λ t k. ap predicate_of k.class_is) (word_of predicate_word (codes "slt") Slt refl refl refl)
predicate_again predicates.Sle = weaker (λ t k. ap predicate_of k.class_is) (word_of predicate_word (codes "sle") Sle refl refl refl)

pub cast_again : (op : CastOp) → Again stops (one cast_word) (text.cast_word op) (λ t. cast_of t.class ≡ op)
unfolding word_class words
cast_again casts.Trunc = weaker (λ t k. ap cast_of k.class_is) (word_of cast_word (codes "trunc") Trunc refl refl refl)
cast_again casts.Zext = weaker (λ t k. ap cast_of k.class_is) (word_of cast_word (codes "zext") Zext refl refl refl)
cast_again casts.Sext = weaker (λ t k. ap cast_of k.class_is) (word_of cast_word (codes "sext") Sext refl refl refl)
cast_again casts.PtrToInt = weaker (λ t k. ap cast_of k.class_is) (word_of cast_word (codes "ptrtoint") PtrToInt refl refl refl)
cast_again casts.IntToPtr = weaker (λ t k. ap cast_of k.class_is) (word_of cast_word (codes "inttoptr") IntToPtr refl refl refl)
