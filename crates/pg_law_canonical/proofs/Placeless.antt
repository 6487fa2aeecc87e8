-- The places of parts don't show in a text.
use Rattle.std.proofs.Common.{◌≡◌, ℕ, List, [], ◌∷◌, ◌++◌, refl, ap, ap₂, Option, Some, None, Bool, true, false, flat_map, map, codes}
use Rattle.std.specs.List.{join_by}
use Rattle.pg_read_ast.specs.declared.names.Name.{Name}
use Rattle.pg_read_ast.specs.Syntax.{Ty, Tys, I1, I8, I16, I32, I64, Ptr, Void, Array, Struct, Named, NoTys, MoreTys, Val, Vals, Int, True, False, Null, Undef, Poison, ZeroInitializer, Local}
use Rattle.pg_read_ast.specs.Syntax.{Global, GepVal, IntToPtrVal, NoVals, MoreVals, Typed, Const, Consts, ValConst, BytesConst, ArrayConst, StructConst, NoConsts, MoreConsts, Incoming, Case}
use Rattle.pg_read_ast.specs.Syntax.{Written, Count, Op, Binary, Icmp, Cast, Select, Phi, Br, CondBr, Switch, Call, RetVoid, Ret, Unreachable, Alloca, Load, Store, GetElementPtr, Line, Block}
use Rattle.pg_read_ast.specs.Syntax.{Param, Dparam, ParamOf, Metadata, Dots, NamedType, Variable, Declaration, Definition, Tree}
use Rattle.pg_read_ast.specs.Text.{local_text, global_text, type_text, fields_text, more_fields_text, int_to_ptr_text, gep_text, gep_head, val_text, more_vals_text, typed_text, padding_text}
use Rattle.pg_read_ast.specs.Text.{const_text, consts_text, more_consts_text, binary_word, predicate_word, cast_word, label_text, more_label_text, pair_text, incoming_text, more_incoming_text}
use Rattle.pg_read_ast.specs.Text.{case_text, dots_text, written_text, types_written_text, count_text, more_typed_text, cast_text, phi_text, switch_text, called_text, gep_op_text, op_text}
use Rattle.pg_read_ast.specs.Text.{result_text, line_text, label_line, block_text, param_name_text, param_text, dparam_text, type_item_text, constancy_text, global_item_text, declare_text}
use Rattle.pg_read_ast.specs.Text.{head_text, define_text, tree_text}
use Rattle.pg_law_canonical.specs.Spans.{plain_name, plain_option, plain_type, plain_types, plain_value, plain_values, plain_typed, plain_const, plain_consts, plain_incoming, plain_case}
use Rattle.pg_law_canonical.specs.Spans.{plain_written, plain_count, plain_op, plain_line, plain_block, plain_param, plain_dparam, plain_named, plain_variable, plain_declaration}
use Rattle.pg_law_canonical.specs.Spans.{plain_definition, without_spans}
use Rattle.pg_law_canonical.proofs.Values.{ap₃}

-- ---- lists

flat_same : {X : Type 0} (f : X → List ℕ) (p : X → X) → ((x : X) → f (p x) ≡ f x) → (xs : List X) → flat_map f (map p xs) ≡ flat_map f xs
flat_same f p e [] = refl
flat_same f p e (x ∷ xs) = ap₂ (λ a b. a ++ b) (e x) (flat_same f p e xs)

join_same : {X : Type 0} (f : X → List ℕ) (p : X → X) (sep : List ℕ) → ((x : X) → f (p x) ≡ f x) → (xs : List X) → join_by f sep (map p xs) ≡ join_by f sep xs
join_same f p sep e [] = refl
join_same f p sep e (x ∷ xs) = ap₂ (λ a b. a ++ b) (e x) (flat_same (λ y. sep ++ f y) p (λ y. ap (λ t. sep ++ t) (e y)) xs)

-- ---- types, values, constants

mutual
  unfolding type_text

  type_same : (t : Ty) → type_text (plain_type t) ≡ type_text t
  type_same (I1 s) = refl
  type_same (I8 s) = refl
  type_same (I16 s) = refl
  type_same (I32 s) = refl
  type_same (I64 s) = refl
  type_same (Ptr s) = refl
  type_same (Void s) = refl
  type_same (Array s n t) = ap (λ x. codes "[" ++ (n.text ++ (codes " x " ++ (x ++ codes "]")))) (type_same t)
  type_same (Struct s ts) = ap (λ x. codes "{" ++ x) (fields_same ts)
  type_same (Named n) = refl

  fields_same : (ts : Tys) → fields_text (plain_types ts) ≡ fields_text ts
  fields_same NoTys = refl
  fields_same (MoreTys t ts) = ap₂ (λ x y. codes " " ++ (x ++ (y ++ codes " }"))) (type_same t) (more_fields_same ts)

  more_fields_same : (ts : Tys) → more_fields_text (plain_types ts) ≡ more_fields_text ts
  more_fields_same NoTys = refl
  more_fields_same (MoreTys t ts) = ap₂ (λ x y. codes ", " ++ (x ++ y)) (type_same t) (more_fields_same ts)

head_same : (t u : Ty) → gep_head (plain_type t) (plain_type u) ≡ gep_head t u
unfolding gep_head
head_same t u = ap₂ (λ x y. gep_text ++ (codes "(" ++ (x ++ (codes ", " ++ (y ++ codes " "))))) (type_same t) (type_same u)

mutual
  unfolding val_text int_to_ptr_text

  value_same : (v : Val) → val_text (plain_value v) ≡ val_text v
  value_same (Int n) = refl
  value_same (True s) = refl
  value_same (False s) = refl
  value_same (Null s) = refl
  value_same (Undef s) = refl
  value_same (Poison s) = refl
  value_same (ZeroInitializer s) = refl
  value_same (Local n) = refl
  value_same (Global n) = refl
  value_same (GepVal s t u p vs) = ap₃ (λ x y z. x ++ (y ++ (z ++ codes ")"))) (head_same t u) (value_same p) (more_values_same vs)
  value_same (IntToPtrVal s t n u) = ap₂ (λ x y. codes "inttoptr (" ++ (x ++ (codes " " ++ (n.text ++ (codes " to " ++ (y ++ codes ")")))))) (type_same t) (type_same u)

  more_values_same : (vs : Vals) → more_vals_text (plain_values vs) ≡ more_vals_text vs
  more_values_same NoVals = refl
  more_values_same (MoreVals t v vs) = ap₃ (λ x y z. (codes ", " ++ (x ++ (codes " " ++ y))) ++ z) (type_same t) (value_same v) (more_values_same vs)

typed_same : (t : Typed) → typed_text (plain_typed t) ≡ typed_text t
unfolding typed_text
typed_same t = ap₂ (λ x y. x ++ (codes " " ++ y)) (type_same t.ty) (value_same t.value)

more_typed_same : (t : Typed) → more_typed_text (plain_typed t) ≡ more_typed_text t
more_typed_same t = ap (λ x. codes ", " ++ x) (typed_same t)

padding_same : (cs : Consts) → padding_text (plain_consts cs) ≡ padding_text cs
unfolding padding_text
padding_same NoConsts = refl
padding_same (MoreConsts t c cs) = refl

mutual
  unfolding const_text

  const_same : (c : Const) → const_text (plain_const c) ≡ const_text c
  const_same (ValConst v) = value_same v
  const_same (BytesConst b) = refl
  const_same (ArrayConst s cs) = ap (λ x. codes "[" ++ (x ++ codes "]")) (consts_same cs)
  const_same (StructConst s cs) = ap₂ (λ x y. codes "{" ++ (x ++ (y ++ (x ++ codes "}")))) (padding_same cs) (consts_same cs)

  consts_same : (cs : Consts) → consts_text (plain_consts cs) ≡ consts_text cs
  consts_same NoConsts = refl
  consts_same (MoreConsts t c cs) = ap₃ (λ x y z. (x ++ (codes " " ++ y)) ++ z) (type_same t) (const_same c) (more_consts_same cs)

  more_consts_same : (cs : Consts) → more_consts_text (plain_consts cs) ≡ more_consts_text cs
  more_consts_same NoConsts = refl
  more_consts_same (MoreConsts t c cs) = ap₃ (λ x y z. (codes ", " ++ (x ++ (codes " " ++ y))) ++ z) (type_same t) (const_same c) (more_consts_same cs)

-- ---- instructions

pair_same : (t : Ty) (a b : Val) → pair_text (plain_type t) (plain_value a) (plain_value b) ≡ pair_text t a b
unfolding pair_text
pair_same t a b = ap₃ (λ x y z. codes " " ++ (x ++ (codes " " ++ (y ++ (codes ", " ++ z))))) (type_same t) (value_same a) (value_same b)

incoming_same : (i : Incoming) → incoming_text (plain_incoming i) ≡ incoming_text i
unfolding incoming_text
incoming_same i = ap (λ x. codes "[ " ++ (x ++ (codes ", " ++ (local_text i.block ++ codes " ]")))) (value_same i.value)

case_same : (i : Case) → case_text (plain_case i) ≡ case_text i
unfolding case_text label_text
case_same i = ap (λ x. codes " " ++ (x ++ more_label_text i.block)) (typed_same i.value)

dots_same : (d : Bool) (ts : List Ty) → dots_text d (map plain_type ts) ≡ dots_text d ts
dots_same false ts = refl
dots_same true [] = refl
dots_same true (t ∷ ts) = refl

written_same : (w : Option Written) → types_written_text (plain_option plain_written w) ≡ types_written_text w
unfolding written_text
written_same None = refl
written_same (Some w) = ap₂ (λ x y. codes " (" ++ (x ++ (y ++ codes ")"))) (join_same type_text plain_type (codes ", ") type_same w.types) (dots_same w.dots w.types)

count_same : (n : Option Count) → count_text (plain_option plain_count n) ≡ count_text n
count_same None = refl
count_same (Some n) = ap (λ x. codes ", " ++ (x ++ (codes " " ++ n.count.text))) (type_same n.ty)

called_same : (f : Name) (all : List Typed) → called_text (plain_name f) (map plain_typed all) ≡ called_text f all
unfolding called_text
called_same f all = ap (λ x. codes " " ++ (global_text f ++ (codes "(" ++ (x ++ codes ")")))) (join_same typed_text plain_typed (codes ", ") typed_same all)

op_same : (p : Op) → op_text (plain_op p) ≡ op_text p
unfolding op_text cast_text phi_text switch_text gep_op_text label_text
op_same (Binary s o t a b) = ap (λ x. binary_word o ++ x) (pair_same t a b)
op_same (Icmp s o t a b) = ap (λ x. codes "icmp " ++ (predicate_word o ++ x)) (pair_same t a b)
op_same (Cast s o v t) = ap₂ (λ x y. cast_word o ++ (codes " " ++ (x ++ (codes " to " ++ y)))) (typed_same v) (type_same t)
op_same (Select s c a b) = ap₃ (λ x y z. codes "select " ++ (x ++ (y ++ z))) (typed_same c) (more_typed_same a) (more_typed_same b)
op_same (Phi s t i all) = ap₃ (λ x y z. codes "phi " ++ (x ++ (codes " " ++ (y ++ z)))) (type_same t) (incoming_same i)
    (flat_same more_incoming_text plain_incoming (λ j. ap (λ x. codes ", " ++ x) (incoming_same j)) all)
op_same (Br s b) = refl
op_same (CondBr s c a b) = ap (λ x. codes "br " ++ (x ++ (more_label_text a ++ more_label_text b))) (typed_same c)
op_same (Switch s v b all) = ap₂ (λ x y. codes "switch " ++ (x ++ (more_label_text b ++ (codes " [" ++ (y ++ codes " ]"))))) (typed_same v) (flat_same case_text plain_case case_same all)
op_same (Call s t w f all) = ap₃ (λ x y z. codes "call " ++ (x ++ (y ++ z))) (type_same t) (written_same w) (called_same f all)
op_same (RetVoid s v) = refl
op_same (Ret s v) = ap (λ x. codes "ret " ++ x) (typed_same v)
op_same (Unreachable s) = refl
op_same (Alloca s t n) = ap₂ (λ x y. codes "alloca " ++ (x ++ y)) (type_same t) (count_same n)
op_same (Load s t p) = ap₂ (λ x y. codes "load " ++ (x ++ y)) (type_same t) (more_typed_same p)
op_same (Store s v p) = ap₂ (λ x y. codes "store " ++ (x ++ y)) (typed_same v) (more_typed_same p)
op_same (GetElementPtr s t p all) = ap₃ (λ x y z. gep_text ++ (x ++ (y ++ z))) (type_same t) (more_typed_same p) (flat_same more_typed_text plain_typed more_typed_same all)

-- ---- functions and items

result_same : (n : Option Name) → result_text (plain_option plain_name n) ≡ result_text n
result_same None = refl
result_same (Some n) = refl

line_same : (l : Line) → line_text (plain_line l) ≡ line_text l
unfolding line_text
line_same l = ap₂ (λ x y. codes "  " ++ (x ++ (y ++ codes "\n"))) (result_same l.name) (op_same l.op)

label_same : (n : Option Name) → label_line (plain_option plain_name n) ≡ label_line n
label_same None = refl
label_same (Some n) = refl

block_same : (b : Block) → block_text (plain_block b) ≡ block_text b
unfolding block_text
block_same b = ap₂ (λ x y. x ++ y) (label_same b.label) (flat_same line_text plain_line line_same b.lines)

param_name_same : (n : Option Name) → param_name_text (plain_option plain_name n) ≡ param_name_text n
param_name_same None = refl
param_name_same (Some n) = refl

param_same : (p : Param) → param_text (plain_param p) ≡ param_text p
unfolding param_text
param_same p = ap₂ (λ x y. x ++ y) (type_same p.ty) (param_name_same p.name)

dparam_same : (d : Dparam) → dparam_text (plain_dparam d) ≡ dparam_text d
unfolding dparam_text
dparam_same (ParamOf p) = param_same p
dparam_same (Metadata s) = refl
dparam_same (Dots s) = refl

item_same : (i : NamedType) → type_item_text (plain_named i) ≡ type_item_text i
unfolding type_item_text
item_same i = ap (λ x. local_text i.name ++ (codes " = type " ++ (x ++ codes "\n"))) (type_same i.ty)

variable_same : (g : Variable) → global_item_text (plain_variable g) ≡ global_item_text g
unfolding global_item_text
variable_same g = ap₂ (λ x y. global_text g.name ++ (constancy_text g.is_constant ++ (x ++ (codes " " ++ (y ++ codes "\n"))))) (type_same g.ty) (const_same g.value)

declaration_same : (d : Declaration) → declare_text (plain_declaration d) ≡ declare_text d
unfolding declare_text
declaration_same d = ap₂ (λ x y. codes "declare " ++ (x ++ (codes " " ++ (global_text d.name ++ (codes "(" ++ (y ++ codes ")\n")))))) (type_same d.result)
    (join_same dparam_text plain_dparam (codes ", ") dparam_same d.params)

definition_same : (d : Definition) → define_text (plain_definition d) ≡ define_text d
unfolding define_text head_text
definition_same d = ap₃ (λ x y z. (codes "define " ++ (x ++ (codes " " ++ (global_text d.name ++ (codes "(" ++ (y ++ codes ") {\n")))))) ++ (z ++ codes "}\n")) (type_same d.result)
    (join_same param_text plain_param (codes ", ") param_same d.params) (flat_same block_text plain_block block_same d.blocks)

pub tree_same : (m : Tree) → tree_text (without_spans m) ≡ tree_text m
tree_same m = ap₂ (λ x y. x ++ y) (flat_same type_item_text plain_named item_same m.types)
    (ap₃ (λ x y z. x ++ (y ++ z)) (flat_same global_item_text plain_variable variable_same m.globals) (flat_same declare_text plain_declaration declaration_same m.declares)
    (flat_same define_text plain_definition definition_same m.functions))
