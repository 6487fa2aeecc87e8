-- Each item of a text is read again.
use Rattle.std.proofs.Common.{List, [], ◌∷◌, Bool, true, false}
use Rattle.pg_num.specs.declared.limits.TheConstants.{NESTING_LIMIT}
use Rattle.pg_read_ast.specs.Syntax.{ParamOf, Tree}
use Rattle.pg_read_grammar.specs.declared.nesting.TheConstants.{INNER_NESTING_LIMIT}
use Rattle.pg_read_grammar.specs.declared.token.Token.{Token}
use Rattle.pg_read_grammar.specs.declared.class.Class.TheVariants.{Comma, Dots, CloseRound, CloseBrace}
use Rattle.pg_read_grammar.specs.declared.token.Fault.TheVariants.{Unsupported}
use Rattle.pg_read_grammar.specs.Classes.{is}
use Rattle.pg_read_grammar.specs.Language.{give}
use Rattle.pg_read_grammar.specs.Grammar.{name_of}
use Rattle.pg_read_grammar.specs.GrammarItems.{param, dparam, node, text_item, type_item, global_item, declare_item, define_item, attributes_item, metadata_item, Item, TypeItem, GlobalItem}
use Rattle.pg_read_grammar.specs.GrammarItems.{DeclareItem, DefineItem, OtherItem, item, tree, program}
use Rattle.pg_law_canonical.proofs.ReadAgain.{Every}
use Rattle.pg_law_canonical.proofs.PieceYields.{Yields, Any, yields_give, yields_one, yields_then, yields_or, yields_refused, yields_many, yields_listed}
use Rattle.pg_law_canonical.proofs.Types.{type_yields}
use Rattle.pg_law_canonical.proofs.Constants.{const_yields}
use Rattle.pg_law_canonical.proofs.LeftOutParts.{attributes_then, attributes_yields, skip_yields}
use Rattle.pg_law_canonical.proofs.Operations.{IsNameText}
use Rattle.pg_law_canonical.proofs.Bodies.{body_yields}
use Rattle.pg_law_canonical.proofs.Numbering.{ParamAgain}
use Rattle.pg_law_canonical.proofs.Items.{DparamAgain, metadata_row, dots_row, param_of_row, TypeHas, GlobalHas, DeclareHas, DefineHas, global_rest, declare_rest, define_rest}

abbrev pub ItemHas : Item → Type 1
ItemHas (TypeItem i) = TypeHas i
ItemHas (GlobalItem g) = GlobalHas g
ItemHas (DeclareItem d) = DeclareHas d
ItemHas (DefineItem d) = DefineHas d
ItemHas OtherItem = Unit {1}

-- ---- parameters

param_yields : Yields param ParamAgain
param_yields = yields_then (type_yields NESTING_LIMIT) (λ t x. attributes_then
    (yields_or (yields_then yields_one (λ n k. yields_give (record { ty = x; name = k.formed.bytes }))) (yields_give (record { ty = x; name = tt }))))

dparam_yields : Yields dparam DparamAgain
dparam_yields = yields_or (yields_then yields_one (λ t _. yields_give (metadata_row t)))
    (yields_or (yields_then yields_one (λ t _. yields_give (dots_row t))) (yields_then {h = λ p. give (ParamOf p)} param_yields (λ p e. yields_give (param_of_row p e))))

-- ---- items

node_yields : Yields node Any
node_yields = yields_or (yields_then yields_one (λ m _. yields_then yields_one (λ o _. skip_yields INNER_NESTING_LIMIT CloseRound)))
    (yields_then yields_one (λ b _. yields_or (yields_then yields_one (λ o _. skip_yields INNER_NESTING_LIMIT CloseBrace))
    (yields_then yields_one (λ o _. skip_yields INNER_NESTING_LIMIT CloseRound))))

metadata_yields : Yields metadata_item ItemHas
metadata_yields = yields_then yields_one (λ m _. yields_then yields_one
    (λ q _. yields_or (yields_then yields_one (λ d _. yields_then {h = λ u. give OtherItem} node_yields (λ u _. yields_give tt)))
    (yields_then {h = λ u. give OtherItem} node_yields (λ u _. yields_give tt))))

global_yields : Yields global_item ItemHas
global_yields = yields_then yields_one (λ n k. yields_then yields_one
    (λ q _. attributes_then (yields_or (yields_then yields_one (λ c _. rest n false k.formed.bytes)) (yields_then yields_one (λ c _. rest n true k.formed.bytes)))))
  where
    rest : (n : Token) (c : Bool) → IsNameText n.text → Yields (global_rest n c) ItemHas
    rest n c h = yields_then (type_yields NESTING_LIMIT) (λ t x. yields_then (const_yields NESTING_LIMIT)
        (λ v y. yields_then (yields_many (yields_then (yields_one {test = is Comma}) (λ m _. attributes_yields))) (λ ms _. yields_give (record { name = h; ty = x; value = y }))))

declare_yields : Yields declare_item ItemHas
declare_yields = yields_then yields_one (λ o _. attributes_then
    (yields_then (type_yields NESTING_LIMIT) (λ t x. yields_then yields_one
    (λ n k. yields_then yields_one (λ b _. yields_then {h = declare_rest t n} (yields_listed CloseRound dparam_yields)
    (λ ps z. attributes_then (yields_give (record { result = x; name = k.formed.bytes; params = z }))))))))

define_yields : Yields define_item ItemHas
define_yields = yields_then yields_one (λ o _. attributes_then
    (yields_then (type_yields NESTING_LIMIT) (λ t x. yields_then yields_one
    (λ n k. yields_then yields_one (λ b _. yields_then {h = define_rest t n} (yields_listed CloseRound (yields_or param_yields (yields_refused Unsupported (is Dots)))) (λ ps z.
    attributes_then (yields_then {h = λ bs. give (DefineItem (record { result = t; name = name_of n; params = ps; blocks = bs }))} body_yields
    (λ bs w. yields_give (record { result = x; name = k.formed.bytes; params = z; blocks = w })))))))))

type_item_yields : Yields type_item ItemHas
type_item_yields = yields_then yields_one (λ n k. yields_then yields_one
    (λ q _. yields_then yields_one (λ w _. yields_then (type_yields NESTING_LIMIT) (λ t x. yields_give (record { name = k.formed.bytes; ty = x })))))

attributes_item_yields : Yields attributes_item ItemHas
attributes_item_yields = yields_then yields_one (λ a _. yields_then yields_one
    (λ n _. yields_then yields_one (λ q _. yields_then yields_one (λ b _. yields_then (skip_yields INNER_NESTING_LIMIT CloseBrace) (λ u _. yields_give tt)))))

text_yields : Yields text_item ItemHas
text_yields = yields_or (yields_then yields_one (λ a _. yields_then yields_one (λ q _. yields_then yields_one (λ s _. yields_give tt))))
    (yields_then yields_one (λ a _. yields_then yields_one (λ w _. yields_then yields_one (λ q _. yields_then yields_one (λ s _. yields_give tt)))))

item_yields : Yields item ItemHas
item_yields = yields_or (yields_or metadata_yields
    (yields_or global_yields (yields_or declare_yields (yields_or define_yields (yields_or type_item_yields (yields_or attributes_item_yields text_yields)))))) (yields_refused _ _)

-- ---- a whole text

pub record TreeHas (m : Tree) : Type 1 where
  pub types : Every TypeHas m.types
  pub globals : Every GlobalHas m.globals
  pub declares : Every DeclareHas m.declares
  pub functions : Every DefineHas m.functions

tree_has : (xs : List Item) → Every ItemHas xs → TreeHas (tree xs)
tree_has [] h = record { types = tt; globals = tt; declares = tt; functions = tt }
tree_has (TypeItem i ∷ xs) h = let k = tree_has xs h.1 in record { types = (h.0, k.types); globals = k.globals; declares = k.declares; functions = k.functions }
tree_has (GlobalItem g ∷ xs) h = let k = tree_has xs h.1 in record { types = k.types; globals = (h.0, k.globals); declares = k.declares; functions = k.functions }
tree_has (DeclareItem d ∷ xs) h = let k = tree_has xs h.1 in record { types = k.types; globals = k.globals; declares = (h.0, k.declares); functions = k.functions }
tree_has (DefineItem d ∷ xs) h = let k = tree_has xs h.1 in record { types = k.types; globals = k.globals; declares = k.declares; functions = (h.0, k.functions) }
tree_has (OtherItem ∷ xs) h = let k = tree_has xs h.1 in record { types = k.types; globals = k.globals; declares = k.declares; functions = k.functions }

pub program_yields : Yields program TreeHas
program_yields = yields_then (yields_many item_yields) (λ xs h. yields_give (tree_has xs h))
