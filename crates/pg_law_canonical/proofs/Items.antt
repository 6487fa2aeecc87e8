-- Items are read again.
use Rattle.std.proofs.Common.{◌≡◌, ℕ, List, [], ◌∷◌, ◌++◌, refl, ap, ap₂, ◌∙◌, append_assoc, Option, Some, None, Bool, true, false, flat_map, map, codes}
use Rattle.std.specs.List.{join_by}
use Rattle.pg_num.specs.declared.limits.TheConstants.{NESTING_LIMIT}
use Rattle.pg_read_ast.specs.declared.names.Name.{Name}
use Rattle.pg_read_ast.specs.Syntax.{Ty, Const, Block, Param, Dparam, ParamOf, Metadata, Dots, NamedType, Variable, Declaration, Definition}
use Rattle.pg_read_ast.specs.Text.{name_text, type_text, const_text, block_text, param_text, dparam_text, type_item_text, constancy_text, global_item_text, declare_text, head_text, define_text}
use Rattle.pg_read_grammar.specs.declared.token.Token.{Token}
use Rattle.pg_read_grammar.specs.declared.class.Class.TheVariants as classes
use Rattle.pg_read_grammar.specs.declared.token.Fault.TheVariants.{Unsupported}
use Rattle.pg_read_grammar.specs.Classes.{is}
use Rattle.pg_read_grammar.specs.Language.{Gram, give, one, refused, ◌or◌, many}
use Rattle.pg_read_grammar.specs.Language.{◌>>=◌ as ◌then◌}
use Rattle.pg_read_grammar.specs.Grammar.{drop_value, type_in, attributes, listed, const_in, name_of}
use Rattle.pg_read_grammar.specs.GrammarItems.{body, param, dparam, type_item, constancy, global_item, declare_item, define_item, Item, TypeItem, GlobalItem, DeclareItem, DefineItem}
use Rattle.pg_read_grammar.specs.Endings.{end_last}
use Rattle.pg_law_canonical.specs.Spans.{nowhere, plain_type, plain_const, plain_block, plain_param, plain_dparam, plain_named, plain_variable, plain_declaration, plain_definition}
use Rattle.pg_law_canonical.proofs.TokenTexts.{stops}
use Rattle.pg_law_canonical.proofs.ReadAgain.{Again, Every, every_more, anything, given, then_text, last_text, left_text, right_text, text_as, spaced, fed, none_text}
use Rattle.pg_law_canonical.proofs.CommaLists.{mark_then, end_text, separated_text}
use Rattle.pg_law_canonical.proofs.Tokens.{open_round, close_round, equals, dots, local_again, global_again}
use Rattle.pg_law_canonical.proofs.WordTexts.{metadata_word, type_word, global_word, constant_word, declare_word, define_word}
use Rattle.pg_law_canonical.proofs.Types.{TypeAgain}
use Rattle.pg_law_canonical.proofs.Values.{ap₃}
use Rattle.pg_law_canonical.proofs.Constants.{ConstAgain}
use Rattle.pg_law_canonical.proofs.LeftOutParts.{no_attributes}
use Rattle.pg_law_canonical.proofs.Operations.{IsNameText, same_name}
use Rattle.pg_law_canonical.proofs.Bodies.{BlockAgain, are_labelled, body_row}
use Rattle.pg_law_canonical.proofs.Numbering.{ParamAgain}

-- ---- parameters

param_by : (t : Ty) (n : Option Name) → ParamAgain (record { ty = t; name = n })
    → Again stops param (param_text (record { ty = t; name = n })) (λ q. plain_param q ≡ plain_param (record { ty = t; name = n }))
unfolding param_text
param_by t None e = then_text e.ty (λ r i. i) (λ u x. no_attributes (right_text (given (ap (λ (v : Ty). let p : Param = record { ty = v; name = None } in p) x))))
param_by t (Some n) e = then_text e.ty (λ r i. refl) (λ u x. no_attributes
    (left_text (last_text {f = λ m. record { ty = u; name = Some (name_of m) }} (spaced (local_again n.text e.name))
    (λ m y. ap₂ (λ (v : Ty) (w : Name). let p : Param = record { ty = v; name = Some w } in p) x (same_name y)))))

pub param_row : (p : Param) → ParamAgain p → Again stops param (param_text p) (λ q. plain_param q ≡ plain_param p)
param_row p e = param_by p.ty p.name e

abbrev pub define_param : Gram Param
define_param = param or refused Unsupported (is classes.Dots)

params_row : (ps : List Param) → Every ParamAgain ps → Again stops (listed classes.CloseRound define_param) (join_by param_text (codes ", ") ps ++ codes ")")
    (λ qs. map plain_param qs ≡ map plain_param ps)
params_row [] h = left_text (last_text close_round (λ c _. refl))
params_row (p ∷ ps) h = right_text (then_text
    (separated_text {g = define_param} param_text plain_param p ps (left_text (param_row p h.0)) (every_more _ _ (λ q e. left_text (param_row q e)) ps h.1)) (λ r i. refl)
    (λ us e. last_text close_round (λ c _. e)))

abbrev pub DparamAgain : Dparam → Type 1
DparamAgain d = Again stops dparam (dparam_text d) (λ e. plain_dparam e ≡ plain_dparam d)

dparams_row : (ps : List Dparam) → Every DparamAgain ps → Again stops (listed classes.CloseRound dparam) (join_by dparam_text (codes ", ") ps ++ codes ")")
    (λ qs. map plain_dparam qs ≡ map plain_dparam ps)
dparams_row [] h = left_text (last_text close_round (λ c _. refl))
dparams_row (p ∷ ps) h = right_text (then_text (separated_text dparam_text plain_dparam p ps h.0 h.1) (λ r i. refl) (λ us e. last_text close_round (λ c _. e)))

pub metadata_row : (t : Token) → DparamAgain (Metadata t.span)
unfolding dparam_text
metadata_row t = left_text (last_text metadata_word (λ u _. refl))

pub dots_row : (t : Token) → DparamAgain (Dots t.span)
unfolding dparam_text
dots_row t = right_text (left_text (last_text dots (λ u _. refl)))

pub param_of_row : (p : Param) → ParamAgain p → DparamAgain (ParamOf p)
unfolding dparam_text
param_of_row p e = right_text (right_text (last_text {f = λ q. ParamOf q} (param_row p e) (λ q x. ap ParamOf x)))

-- ---- items without a body

abbrev pub plain_item : Item → Item
plain_item (TypeItem i) = TypeItem (plain_named i)
plain_item (GlobalItem g) = GlobalItem (plain_variable g)
plain_item (DeclareItem d) = DeclareItem (plain_declaration d)
plain_item (DefineItem d) = DefineItem (plain_definition d)
plain_item x = x

pub record TypeHas (i : NamedType) : Type 1 where
  pub name : IsNameText i.name.text
  pub ty : TypeAgain NESTING_LIMIT i.ty

pub record GlobalHas (g : Variable) : Type 1 where
  pub name : IsNameText g.name.text
  pub ty : TypeAgain NESTING_LIMIT g.ty
  pub value : ConstAgain NESTING_LIMIT g.value

pub record DeclareHas (d : Declaration) : Type 1 where
  pub result : TypeAgain NESTING_LIMIT d.result
  pub name : IsNameText d.name.text
  pub params : Every DparamAgain d.params

pub record DefineHas (d : Definition) : Type 1 where
  pub result : TypeAgain NESTING_LIMIT d.result
  pub name : IsNameText d.name.text
  pub params : Every ParamAgain d.params
  pub blocks : Every BlockAgain d.blocks

type_texts : (n t : List ℕ) → (37 ∷ (n ++ (codes " =" ++ (codes " type" ++ (32 ∷ t))))) ++ codes "\n" ≡ 37 ∷ n ++ (codes " = type " ++ (t ++ codes "\n"))
type_texts n t = ap (λ bs. 37 ∷ bs) (append_assoc n (codes " = type " ++ t) (codes "\n"))

pub type_row : (i : NamedType) → TypeHas i → Again anything type_item (type_item_text i) (λ x. plain_item x ≡ TypeItem (plain_named i))
unfolding type_item_text
type_row i h = text_as (type_texts (name_text i.name.text) (type_text i.ty))
    (fed (λ r s. refl) (then_text (local_again i.name.text h.name) (λ r s. refl) (λ n x. mark_then (spaced equals) (λ q _. then_text (spaced type_word) (λ r s. refl) (λ w _.
    last_text (spaced h.ty) (λ t y. ap₂ (λ (a : Name) (b : Ty). let j : NamedType = record { name = a; ty = b } in TypeItem j) (same_name x) y))))))

abbrev constancy_word : Bool → List ℕ
constancy_word true = codes "constant"
constancy_word false = codes "global"

constant_row : (c : Bool) → Again stops constancy (constancy_word c) (λ b. b ≡ c)
constant_row true = right_text (last_text constant_word (λ t _. refl))
constant_row false = left_text (last_text global_word (λ t _. refl))

global_texts : (c : Bool) (n t v : List ℕ) → (64 ∷ (n ++ (codes " =" ++ ((32 ∷ constancy_word c) ++ ((32 ∷ t) ++ (32 ∷ v)))))) ++ codes "\n" ≡ 64 ∷ n
    ++ (constancy_text c ++ (t ++ (codes " " ++ (v ++ codes "\n"))))
unfolding constancy_text
global_texts true n t v = rw (append_assoc n (codes " = constant " ++ (t ++ (32 ∷ v))) (codes "\n"), append_assoc t (32 ∷ v) (codes "\n")) refl
global_texts false n t v = rw (append_assoc n (codes " = global " ++ (t ++ (32 ∷ v))) (codes "\n"), append_assoc t (32 ∷ v) (codes "\n")) refl

abbrev pub global_rest : Token → Bool → Gram Item
global_rest n c = type_in NESTING_LIMIT then (λ t. const_in NESTING_LIMIT then
    (λ v. drop_value (many (one (is classes.Comma) then (λ m. attributes))) then (λ u. give (GlobalItem (record { name = name_of n; is_constant = c; ty = t; value = v })))))

pub global_row : (g : Variable) → GlobalHas g → Again anything global_item (global_item_text g) (λ x. plain_item x ≡ GlobalItem (plain_variable g))
unfolding global_item_text
global_row g h = text_as (global_texts g.is_constant (name_text g.name.text) (type_text g.ty) (const_text g.value))
    (fed (λ r s. refl) (then_text (global_again g.name.text h.name) (λ r s. refl)
    (λ n x. mark_then (spaced equals) (λ q _. no_attributes (then_text {h = global_rest n} (spaced (constant_row g.is_constant)) (λ r s. refl) (λ c y.
    then_text (spaced h.ty) (λ r s. refl) (λ t z. end_text (spaced h.value)
    (λ v w. end_text (none_text (one (is classes.Comma) then (λ m. attributes))) (λ ms _. given (same n.text c t v x y z w))))))))))
  where
    same : (n : List ℕ) (c : Bool) (t : Ty) (v : Const) → n ≡ g.name.text → c ≡ g.is_constant → plain_type t ≡ plain_type g.ty → plain_const v ≡ plain_const g.value
        → GlobalItem (record { name = record { text = n; span = nowhere }; is_constant = c; ty = plain_type t; value = plain_const v }) ≡ GlobalItem (plain_variable g)
    same n c t v x y z w = ap₃ (λ (a : List ℕ) (b : Bool) (d : Ty). GlobalItem (record { name = record { text = a; span = nowhere }; is_constant = b; ty = d; value = plain_const v })) x y z
        ∙ ap (λ e. GlobalItem (record { name = record { text = g.name.text; span = nowhere }; is_constant = g.is_constant; ty = plain_type g.ty; value = e })) w

declare_texts : (t n p : List ℕ) → (codes "declare" ++ ((32 ∷ t) ++ ((32 ∷ 64 ∷ n) ++ (codes "(" ++ (p ++ codes ")"))))) ++ codes "\n" ≡ codes "declare "
    ++ (t ++ (codes " " ++ (64 ∷ n ++ (codes "(" ++ (p ++ codes ")\n")))))
declare_texts t n p = rw (
  append_assoc t (32 ∷ 64 ∷ (n ++ (40 ∷ (p ++ 41 ∷ [])))) (10 ∷ []),
  append_assoc n (40 ∷ (p ++ 41 ∷ [])) (10 ∷ []),
  append_assoc p (41 ∷ []) (10 ∷ []),
) refl

abbrev pub declare_rest : Ty → Token → List Dparam → Gram Item
declare_rest t n ps = attributes then (λ u. give (DeclareItem (record { result = t; name = name_of n; params = ps })))

pub declare_row : (d : Declaration) → DeclareHas d → Again anything declare_item (declare_text d) (λ x. plain_item x ≡ DeclareItem (plain_declaration d))
unfolding declare_text
declare_row d h = text_as (declare_texts (type_text d.result) (name_text d.name.text) (join_by dparam_text (codes ", ") d.params))
    (fed (λ r s. refl) (then_text declare_word (λ r s. refl)
    (λ o _. no_attributes (then_text (spaced h.result) (λ r s. refl) (λ t x. then_text (spaced (global_again d.name.text h.name)) (λ r s. refl) (λ n y. mark_then open_round (λ b _.
    end_text {h = declare_rest t n} (dparams_row d.params h.params)
    (λ ps z. no_attributes (given (ap₃ (λ (a : Ty) (b : Name) (c : List Dparam). let e : Declaration = record { result = a; name = b; params = c } in DeclareItem e) x (same_name y) z))))))))))

-- ---- definitions

define_texts : (t n p b : List ℕ) → (codes "define" ++ ((32 ∷ t) ++ ((32 ∷ 64 ∷ n) ++ (codes "(" ++ ((p ++ codes ")") ++ (codes " {\n" ++ (b ++ codes "}")))))))
    ++ codes "\n" ≡ (codes "define " ++ (t ++ (codes " " ++ (64 ∷ n ++ (codes "(" ++ (p ++ codes ") {\n")))))) ++ (b ++ codes "}\n")
define_texts t n p b =
    let y : List ℕ = 32 ∷ 123 ∷ 10 ∷ (b ++ 125 ∷ []) in
    let z : List ℕ = b ++ 125 ∷ 10 ∷ [] in
    let w : List ℕ = 41 ∷ 32 ∷ 123 ∷ 10 ∷ [] in
    rw (
      append_assoc t (32 ∷ 64 ∷ (n ++ (40 ∷ ((p ++ 41 ∷ []) ++ y)))) (10 ∷ []),
      append_assoc n (40 ∷ ((p ++ 41 ∷ []) ++ y)) (10 ∷ []),
      append_assoc (p ++ 41 ∷ []) y (10 ∷ []),
      append_assoc p (41 ∷ []) (y ++ 10 ∷ []),
      append_assoc b (125 ∷ []) (10 ∷ []),
      append_assoc t (32 ∷ 64 ∷ (n ++ (40 ∷ (p ++ w)))) z,
      append_assoc n (40 ∷ (p ++ w)) z,
      append_assoc p w z,
    ) refl

abbrev pub define_rest : Ty → Token → List Param → Gram Item
define_rest t n ps = attributes then (λ u. body then (λ bs. give (DefineItem (record { result = t; name = name_of n; params = ps; blocks = bs }))))

pub define_row : (d : Definition) → DefineHas d → are_labelled d.blocks ≡ true → end_last d.blocks ≡ true
    → Again anything define_item (define_text d) (λ x. plain_item x ≡ DefineItem (plain_definition d))
unfolding define_text head_text
define_row d h l e = text_as (define_texts (type_text d.result) (name_text d.name.text) (join_by param_text (codes ", ") d.params) (flat_map block_text d.blocks))
    (fed (λ r s. refl) (then_text define_word (λ r s. refl)
    (λ o _. no_attributes (then_text (spaced h.result) (λ r s. refl) (λ t x. then_text (spaced (global_again d.name.text h.name)) (λ r s. refl) (λ n y. mark_then open_round (λ b _.
    then_text {h = define_rest t n} (params_row d.params h.params) (λ r s. refl)
    (λ ps z. no_attributes (last_text {f = λ bs. DefineItem (record { result = t; name = name_of n; params = ps; blocks = bs })} (spaced (body_row d.blocks h.blocks l e))
    (λ bs w. same n.text t ps bs x y z w))))))))))
  where
    same : (n : List ℕ) (t : Ty) (ps : List Param) (bs : List Block) → plain_type t ≡ plain_type d.result → n ≡ d.name.text → map plain_param ps ≡ map plain_param d.params
        → map plain_block bs ≡ map plain_block d.blocks → DefineItem
        (record { result = plain_type t; name = record { text = n; span = nowhere }; params = map plain_param ps; blocks = map plain_block bs }) ≡ DefineItem (plain_definition d)
    same n t ps bs x y z w = ap₃ (λ (a : Ty) (b : List ℕ) (c : List Param). DefineItem
        (record { result = a; name = record { text = b; span = nowhere }; params = c; blocks = map plain_block bs })) x y z
        ∙ ap (λ cs. DefineItem (record { result = plain_type d.result; name = record { text = d.name.text; span = nowhere }; params = map plain_param d.params; blocks = cs })) w
