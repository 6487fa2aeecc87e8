-- The constants that the globals of a module hold are of bytes, where the module's text is.
use Rattle.std.proofs.Common.{◌≡◌, ℕ, zero, suc, ◌<◌, List, [], ◌∷◌, Bool, true, false, subst, lt-ltb}
use Rattle.std.specs.Prelude.{All}
use Rattle.std.specs.List.{list_all}
use Rattle.std.proofs.lemmas.List.Sums.{list_all-from_AllPass}
use Rattle.pg_num.specs.declared.limits.TheConstants.{NESTING_LIMIT}
use Rattle.pg_read_ast.specs.Syntax.{Const, Consts, ValConst, BytesConst, ArrayConst, StructConst, NoConsts, MoreConsts, TypedC, consts, ParamOf, Variable, Tree}
use Rattle.pg_read_grammar.specs.declared.nesting.TheConstants.{INNER_NESTING_LIMIT}
use Rattle.pg_read_grammar.specs.declared.token.Token.{Token}
use Rattle.pg_read_grammar.specs.declared.token.Fault.TheVariants.{Unsupported}
use Rattle.pg_read_grammar.specs.declared.class.Class.TheVariants.{Comma, Dots, CloseRound, CloseBrace, CloseSquare}
use Rattle.pg_read_grammar.specs.Classes.{is}
use Rattle.pg_read_grammar.specs.Language.{give}
use Rattle.pg_read_grammar.specs.Grammar.{name_of, typed_const_in, simple_const_in, const_in}
use Rattle.pg_read_grammar.specs.GrammarItems.{param, dparam, node, text_item, type_item, global_item, declare_item, define_item, attributes_item, metadata_item, Item, TypeItem, GlobalItem}
use Rattle.pg_read_grammar.specs.GrammarItems.{DeclareItem, DefineItem, OtherItem, item, tree, program}
use Rattle.pg_read_grammar.specs.Words.{classified}
use Rattle.pg_read_grammar.specs.Accepted.{IsModule}
use Rattle.pg_law_canonical.proofs.Names.{is_byte}
use Rattle.pg_law_canonical.proofs.ReadAgain.{Every}
use Rattle.pg_law_canonical.proofs.PieceYields.{Yields, Any, yields_give, yields_one, yields_then, yields_or, yields_refused, yields_many, yields_listed}
use Rattle.pg_law_canonical.proofs.Types.{type_yields}
use Rattle.pg_law_canonical.proofs.Values.{value_yields}
use Rattle.pg_law_canonical.proofs.LeftOutParts.{attributes_then, attributes_yields, skip_yields}
use Rattle.pg_law_canonical.proofs.Bodies.{body_yields}
use Rattle.pg_law_canonical.proofs.Items.{global_rest, declare_rest, define_rest}
use Rattle.pg_law_canonical.proofs.ByteTokens.{tokens_formed}

-- ---- constants

pub record AreBytes (bs : List ℕ) : Type 1 where
  pub each : list_all is_byte bs ≡ true

abbrev mutual
  -- the strings of a constant are of bytes
  pub HasBytes : Const → Type 1
  HasBytes (ValConst v) = Unit {1}
  HasBytes (BytesConst b) = AreBytes b.text
  HasBytes (ArrayConst s cs) = HaveBytes cs
  HasBytes (StructConst s cs) = HaveBytes cs

  pub HaveBytes : Consts → Type 1
  HaveBytes NoConsts = Unit {1}
  HaveBytes (MoreConsts t c cs) = HasBytes c × HaveBytes cs

abbrev MemberHas : TypedC → Type 1
MemberHas t = HasBytes t.value

members_have : (ts : List TypedC) → Every MemberHas ts → HaveBytes (consts ts)
members_have [] h = tt
members_have (t ∷ ts) h = (h.0, members_have ts h.1)

simple_yields : (d : ℕ) → Yields (simple_const_in d) HasBytes
simple_yields d = yields_or (yields_then yields_one (λ t k. yields_give (record { each = k.formed.bytes }))) (yields_then (value_yields d) (λ v k. yields_give tt))

member_yields : (d : ℕ) → Yields (const_in d) HasBytes → Yields (typed_const_in d (const_in d)) MemberHas
member_yields d e = yields_then (type_yields d) (λ t x. yields_then e (λ c y. yields_give y))

const_yields : (d : ℕ) → Yields (const_in d) HasBytes
unfolding const_in
const_yields zero = yields_or (simple_yields zero) (yields_refused _ _)
const_yields (suc d) = yields_or (yields_then yields_one (λ o _. yields_then {h = λ ts. give (ArrayConst o.span (consts ts))}
    (yields_listed CloseSquare (member_yields d (const_yields d))) (λ ts h. yields_give (members_have ts h))))
    (yields_or (yields_then yields_one (λ o _. yields_then {h = λ ts. give (StructConst o.span (consts ts))}
    (yields_listed CloseBrace (member_yields d (const_yields d))) (λ ts h. yields_give (members_have ts h)))) (simple_yields (suc d)))

-- ---- items

abbrev pub GlobalHas : Variable → Type 1
GlobalHas g = HasBytes g.value

abbrev ItemHas : Item → Type 1
ItemHas (GlobalItem g) = GlobalHas g
ItemHas _ = Unit {1}

param_yields : Yields param Any
param_yields = yields_then (type_yields NESTING_LIMIT) (λ t x. attributes_then (yields_or (yields_then yields_one (λ n k. yields_give tt)) (yields_give tt)))

dparam_yields : Yields dparam Any
dparam_yields = yields_or (yields_then yields_one (λ t _. yields_give tt)) (yields_or (yields_then yields_one (λ t _. yields_give tt))
    (yields_then {h = λ p. give (ParamOf p)} param_yields (λ p e. yields_give tt)))

node_yields : Yields node Any
node_yields = yields_or (yields_then yields_one (λ m _. yields_then yields_one (λ o _. skip_yields INNER_NESTING_LIMIT CloseRound)))
    (yields_then yields_one (λ b _. yields_or (yields_then yields_one (λ o _. skip_yields INNER_NESTING_LIMIT CloseBrace))
    (yields_then yields_one (λ o _. skip_yields INNER_NESTING_LIMIT CloseRound))))

metadata_yields : Yields metadata_item ItemHas
metadata_yields = yields_then yields_one (λ m _. yields_then yields_one (λ q _. yields_or (yields_then yields_one (λ d _.
    yields_then {h = λ u. give OtherItem} node_yields (λ u _. yields_give tt))) (yields_then {h = λ u. give OtherItem} node_yields (λ u _. yields_give tt))))

global_yields : Yields global_item ItemHas
global_yields = yields_then yields_one (λ n k. yields_then yields_one (λ q _.
    attributes_then (yields_or (yields_then yields_one (λ c _. rest n false)) (yields_then yields_one (λ c _. rest n true)))))
  where
    rest : (n : Token) (c : Bool) → Yields (global_rest n c) ItemHas
    rest n c = yields_then (type_yields NESTING_LIMIT) (λ t x. yields_then (const_yields NESTING_LIMIT) (λ v y.
        yields_then (yields_many (yields_then (yields_one {test = is Comma}) (λ m _. attributes_yields))) (λ ms _. yields_give y)))

declare_yields : Yields declare_item ItemHas
declare_yields = yields_then yields_one (λ o _. attributes_then (yields_then (type_yields NESTING_LIMIT) (λ t x.
    yields_then yields_one (λ n k. yields_then yields_one (λ b _. yields_then {h = declare_rest t n} (yields_listed CloseRound dparam_yields) (λ ps z. attributes_then (yields_give tt)))))))

define_yields : Yields define_item ItemHas
define_yields = yields_then yields_one (λ o _. attributes_then (yields_then (type_yields NESTING_LIMIT) (λ t x.
    yields_then yields_one (λ n k. yields_then yields_one (λ b _.
    yields_then {h = define_rest t n} (yields_listed CloseRound (yields_or param_yields (yields_refused Unsupported (is Dots)))) (λ ps z.
    attributes_then (yields_then {h = λ bs. give (DefineItem (record { result = t; name = name_of n; params = ps; blocks = bs }))} body_yields (λ bs w. yields_give tt))))))))

type_item_yields : Yields type_item ItemHas
type_item_yields = yields_then yields_one (λ n k. yields_then yields_one (λ q _. yields_then yields_one (λ w _. yields_then (type_yields NESTING_LIMIT) (λ t x. yields_give tt))))

attributes_item_yields : Yields attributes_item ItemHas
attributes_item_yields = yields_then yields_one (λ a _. yields_then yields_one (λ n _.
    yields_then yields_one (λ q _. yields_then yields_one (λ b _. yields_then (skip_yields INNER_NESTING_LIMIT CloseBrace) (λ u _. yields_give tt)))))

text_yields : Yields text_item ItemHas
text_yields = yields_or (yields_then yields_one (λ a _. yields_then yields_one (λ q _. yields_then yields_one (λ s _. yields_give tt))))
    (yields_then yields_one (λ a _. yields_then yields_one (λ w _. yields_then yields_one (λ q _. yields_then yields_one (λ s _. yields_give tt)))))

item_yields : Yields item ItemHas
item_yields = yields_or (yields_or metadata_yields (yields_or global_yields
    (yields_or declare_yields (yields_or define_yields (yields_or type_item_yields (yields_or attributes_item_yields text_yields)))))) (yields_refused _ _)

-- ---- a whole text

record TreeHas (m : Tree) : Type 1 where
  globals : Every GlobalHas m.globals

tree_has : (xs : List Item) → Every ItemHas xs → TreeHas (tree xs)
tree_has [] h = record { globals = tt }
tree_has (TypeItem i ∷ xs) h = record { globals = (tree_has xs h.1).globals }
tree_has (GlobalItem g ∷ xs) h = record { globals = (h.0, (tree_has xs h.1).globals) }
tree_has (DeclareItem d ∷ xs) h = record { globals = (tree_has xs h.1).globals }
tree_has (DefineItem d ∷ xs) h = record { globals = (tree_has xs h.1).globals }
tree_has (OtherItem ∷ xs) h = record { globals = (tree_has xs h.1).globals }

program_yields : Yields program TreeHas
program_yields = yields_then (yields_many item_yields) (λ xs h. yields_give (tree_has xs h))

bytes_of : (text : List ℕ) → All (λ b. b < 256) text → list_all is_byte text ≡ true
bytes_of text h = list_all-from_AllPass is_byte text (λ k d l. lt-ltb _ 256 (h k d l))

pub globals_have : (text : List ℕ) (m : Tree) → All (λ b. b < 256) text → IsModule text m → Every GlobalHas m.globals
globals_have text m h (ts, w, j) =
    let f = program_yields.yields (λ b us. (b ≡ m) × (us ≡ [])) (classified text ts) (tokens_formed text ts (bytes_of text h) w) j in
    (subst TreeHas f.goes.0 f.holds).globals
