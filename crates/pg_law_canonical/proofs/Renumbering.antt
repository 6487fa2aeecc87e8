-- Numbers don't depend on places, and a numbered tree keeps its names.
use Rattle.std.proofs.Common.{◌≡◌, ℕ, zero, suc, List, [], ◌∷◌, length, refl, ap, ap₂, ◌∙◌, Option, Some, None, Bool, true, false, not, if◌then◌else◌, bytes_eq, map}
use Rattle.pg_read_ast.specs.declared.names.Name.{Name}
use Rattle.pg_read_ast.specs.Syntax.{Ty, I1, I8, I16, I32, I64, Ptr, Void, Array, Struct, Named, Op, Binary, Icmp, Cast, Select, Phi, Br, CondBr, Switch, Call, RetVoid, Ret, Unreachable, Alloca}
use Rattle.pg_read_ast.specs.Syntax.{Load, Store, GetElementPtr, Line, Block, Param, NamedType, Definition, Tree}
use Rattle.pg_read_ast.specs.Numbers.{name_at, after, each_at, behind_all, param_at, behind_param, type_named, void_by, is_some_and, name_void, void_within, is_void, gives, result_at}
use Rattle.pg_read_ast.specs.Numbers.{after_result, line_at, behind_line, block_at, behind_block, numbered, numbered_tree}
use Rattle.pg_law_canonical.specs.Spans.{plain_name, plain_option, plain_type, plain_op, plain_line, plain_block, plain_param, plain_named, plain_definition, without_spans}

-- ---- lists

at_same : {X : Type 0} (p : X → X) (behind behind' : ℕ → X → ℕ) (give give' : ℕ → X → X) → ((n : ℕ) (x : X) → behind' n (p x) ≡ behind n x)
    → ((n : ℕ) (x : X) → give' n (p x) ≡ p (give n x)) → (next : ℕ) (xs : List X) → each_at behind' give' next (map p xs) ≡ map p (each_at behind give next xs)
at_same p behind behind' give give' e f next [] = refl
at_same p behind behind' give give' e f next (x ∷ xs) = ap₂ (λ a b. a ∷ b) (f next x)
    (ap (λ n. each_at behind' give' n (map p xs)) (e next x) ∙ at_same p behind behind' give give' e f (behind next x) xs)

behind_same : {X : Type 0} (p : X → X) (behind behind' : ℕ → X → ℕ) → ((n : ℕ) (x : X) → behind' n (p x) ≡ behind n x) → (next : ℕ) (xs : List X)
    → behind_all behind' next (map p xs) ≡ behind_all behind next xs
behind_same p behind behind' e next [] = refl
behind_same p behind behind' e next (x ∷ xs) = ap (λ n. behind_all behind' n (map p xs)) (e next x) ∙ behind_same p behind behind' e (behind next x) xs

at_twice : {X : Type 0} (behind behind' : ℕ → X → ℕ) (give : ℕ → X → X) → ((k n : ℕ) (x : X) → give k (give n x) ≡ give n x) → (k next : ℕ) (xs : List X)
    → each_at behind' give k (each_at behind give next xs) ≡ each_at behind give next xs
at_twice behind behind' give f k next [] = refl
at_twice behind behind' give f k next (x ∷ xs) = ap₂ (λ a b. a ∷ b) (f k next x) (at_twice behind behind' give f (behind' k (give next x)) (behind next x) xs)

length_same : {X : Type 0} (p : X → X) (xs : List X) → length (map p xs) ≡ length xs
length_same p [] = refl
length_same p (x ∷ xs) = ap suc (length_same p xs)

-- ---- types without a value

named_same : (types : List NamedType) (name : List ℕ) → type_named (map plain_named types) name ≡ plain_option plain_type (type_named types name)
named_same [] name = refl
named_same (i ∷ is) name = by (bytes_eq i.name.text name) (named_same is name)
  where
    by : (c : Bool) → type_named (map plain_named is) name ≡ plain_option plain_type (type_named is name)
        → (if c then Some (plain_type i.ty) else type_named (map plain_named is) name) ≡ plain_option plain_type (if c then Some i.ty else type_named is name)
    by true e = refl
    by false e = e

void_by_same : (f g : List ℕ → Bool) → ((name : List ℕ) → f name ≡ g name) → (t : Ty) → void_by f (plain_type t) ≡ void_by g t
void_by_same f g e (I1 s) = refl
void_by_same f g e (I8 s) = refl
void_by_same f g e (I16 s) = refl
void_by_same f g e (I32 s) = refl
void_by_same f g e (I64 s) = refl
void_by_same f g e (Ptr s) = refl
void_by_same f g e (Void s) = refl
void_by_same f g e (Array s n t) = refl
void_by_same f g e (Struct s ts) = refl
void_by_same f g e (Named n) = e n.text

some_same : (f g : Ty → Bool) → ((t : Ty) → f (plain_type t) ≡ g t) → (o : Option Ty) → is_some_and (plain_option plain_type o) f ≡ is_some_and o g
some_same f g e None = refl
some_same f g e (Some t) = e t

name_void_same : (n : ℕ) (types : List NamedType) (name : List ℕ) → name_void n (map plain_named types) name ≡ name_void n types name
unfolding name_void
name_void_same zero types name = refl
name_void_same (suc n) types name = ap (λ o. is_some_and o (λ t. void_by (name_void n (map plain_named types)) t)) (named_same types name)
    ∙ some_same (λ t. void_by (name_void n (map plain_named types)) t) (λ t. void_by (name_void n types) t)
    (void_by_same (name_void n (map plain_named types)) (name_void n types) (name_void_same n types)) (type_named types name)

void_same : (types : List NamedType) (t : Ty) → is_void (map plain_named types) (plain_type t) ≡ is_void types t
unfolding is_void
void_same types t = ap (λ n. void_within n (map plain_named types) (plain_type t)) (length_same plain_named types)
    ∙ void_by_same (name_void (length types) (map plain_named types)) (name_void (length types) types) (name_void_same (length types) types) t

gives_same : (types : List NamedType) (p : Op) → gives (map plain_named types) (plain_op p) ≡ gives types p
unfolding gives
gives_same types (Binary s o t a b) = ap not (void_same types t)
gives_same types (Icmp s o t a b) = refl
gives_same types (Cast s o v t) = ap not (void_same types t)
gives_same types (Select s c a b) = ap not (void_same types a.ty)
gives_same types (Phi s t i all) = ap not (void_same types t)
gives_same types (Br s b) = refl
gives_same types (CondBr s c a b) = refl
gives_same types (Switch s v b all) = refl
gives_same types (Call s t w f all) = ap not (void_same types t)
gives_same types (RetVoid s v) = refl
gives_same types (Ret s v) = refl
gives_same types (Unreachable s) = refl
gives_same types (Alloca s t n) = refl
gives_same types (Load s t p) = ap not (void_same types t)
gives_same types (Store s v p) = refl
gives_same types (GetElementPtr s t p all) = refl

-- ---- names

name_same : (next : ℕ) (n : Option Name) → name_at next (plain_option plain_name n) ≡ plain_name (name_at next n)
name_same next None = refl
name_same next (Some n) = refl

after_same : (next : ℕ) (n : Option Name) → after next (plain_option plain_name n) ≡ after next n
after_same next None = refl
after_same next (Some n) = refl

result_same : (c : Bool) (next : ℕ) (n : Option Name) → result_at c next (plain_option plain_name n) ≡ plain_option plain_name (result_at c next n)
result_same c next (Some n) = refl
result_same true next None = refl
result_same false next None = refl

after_result_same : (c : Bool) (next : ℕ) (n : Option Name) → after_result c next (plain_option plain_name n) ≡ after_result c next n
after_result_same c next (Some n) = refl
after_result_same true next None = refl
after_result_same false next None = refl

-- ---- functions

line_at_same : (types : List NamedType) (next : ℕ) (l : Line) → line_at (map plain_named types) next (plain_line l) ≡ plain_line (line_at types next l)
line_at_same types next l = ap (λ n. let x : Line = record { name = n; op = plain_op l.op } in x)
    (ap (λ c. result_at c next (plain_option plain_name l.name)) (gives_same types l.op) ∙ result_same (gives types l.op) next l.name)

behind_line_same : (types : List NamedType) (next : ℕ) (l : Line) → behind_line (map plain_named types) next (plain_line l) ≡ behind_line types next l
behind_line_same types next l = ap (λ c. after_result c next (plain_option plain_name l.name)) (gives_same types l.op) ∙ after_result_same (gives types l.op) next l.name

block_at_same : (types : List NamedType) (next : ℕ) (b : Block) → block_at (map plain_named types) next (plain_block b) ≡ plain_block (block_at types next b)
unfolding block_at
block_at_same types next b = ap₂ (λ n ls. let x : Block = record { label = Some n; lines = ls } in x) (name_same next b.label)
    (ap (λ n. each_at (behind_line (map plain_named types)) (line_at (map plain_named types)) n (map plain_line b.lines)) (after_same next b.label)
    ∙ at_same plain_line (behind_line types) (behind_line (map plain_named types)) (line_at types) (line_at (map plain_named types)) (behind_line_same types) (line_at_same types)
    (after next b.label) b.lines)

behind_block_same : (types : List NamedType) (next : ℕ) (b : Block) → behind_block (map plain_named types) next (plain_block b) ≡ behind_block types next b
unfolding behind_block
behind_block_same types next b = ap (λ n. behind_all (behind_line (map plain_named types)) n (map plain_line b.lines)) (after_same next b.label)
    ∙ behind_same plain_line (behind_line types) (behind_line (map plain_named types)) (behind_line_same types) (after next b.label) b.lines

param_at_same : (next : ℕ) (p : Param) → param_at next (plain_param p) ≡ plain_param (param_at next p)
param_at_same next p = ap (λ n. let x : Param = record { ty = plain_type p.ty; name = Some n } in x) (name_same next p.name)

behind_param_same : (next : ℕ) (p : Param) → behind_param next (plain_param p) ≡ behind_param next p
behind_param_same next p = after_same next p.name

numbered_same : (types : List NamedType) (d : Definition) → numbered (map plain_named types) (plain_definition d) ≡ plain_definition (numbered types d)
unfolding numbered
numbered_same types d = ap₂ (λ ps bs. let x : Definition = record { result = plain_type d.result; name = plain_name d.name; params = ps; blocks = bs } in x)
    (at_same plain_param behind_param behind_param param_at param_at behind_param_same param_at_same 0 d.params)
    (ap (λ n. each_at (behind_block (map plain_named types)) (block_at (map plain_named types)) n (map plain_block d.blocks))
    (behind_same plain_param behind_param behind_param behind_param_same 0 d.params)
    ∙ at_same plain_block (behind_block types) (behind_block (map plain_named types)) (block_at types) (block_at (map plain_named types)) (behind_block_same types) (block_at_same types)
    (behind_all behind_param 0 d.params) d.blocks)

all_same : (types : List NamedType) (ds : List Definition) → map (numbered (map plain_named types)) (map plain_definition ds) ≡ map plain_definition (map (numbered types) ds)
all_same types [] = refl
all_same types (d ∷ ds) = ap₂ (λ a b. a ∷ b) (numbered_same types d) (all_same types ds)

pub tree_numbers_same : (m : Tree) → numbered_tree (without_spans m) ≡ without_spans (numbered_tree m)
unfolding numbered_tree
tree_numbers_same m = ap (λ fs. record (without_spans m) { functions = fs }) (all_same m.types m.functions)

-- ---- a numbered tree keeps its names

result_twice : (c : Bool) (k n : ℕ) (name : Option Name) → result_at c k (result_at c n name) ≡ result_at c n name
result_twice c k n (Some name) = refl
result_twice true k n None = refl
result_twice false k n None = refl

line_twice : (types : List NamedType) (k n : ℕ) (l : Line) → line_at types k (line_at types n l) ≡ line_at types n l
line_twice types k n l = ap (λ x. let y : Line = record { name = x; op = l.op } in y) (result_twice (gives types l.op) k n l.name)

block_twice : (types : List NamedType) (k n : ℕ) (b : Block) → block_at types k (block_at types n b) ≡ block_at types n b
unfolding block_at
block_twice types k n b = ap (λ ls. let x : Block = record { label = Some (name_at n b.label); lines = ls } in x)
    (at_twice (behind_line types) (behind_line types) (line_at types) (line_twice types) (after k (Some (name_at n b.label))) (after n b.label) b.lines)

param_twice : (k n : ℕ) (p : Param) → param_at k (param_at n p) ≡ param_at n p
param_twice k n p = refl

numbered_twice : (types : List NamedType) (d : Definition) → numbered types (numbered types d) ≡ numbered types d
unfolding numbered
numbered_twice types d = ap₂ (λ ps bs. let x : Definition = record { result = d.result; name = d.name; params = ps; blocks = bs } in x)
    (at_twice behind_param behind_param param_at param_twice 0 0 d.params)
    (at_twice (behind_block types) (behind_block types) (block_at types) (block_twice types) (behind_all behind_param 0 (each_at behind_param param_at 0 d.params))
    (behind_all behind_param 0 d.params) d.blocks)

all_twice : (types : List NamedType) (ds : List Definition) → map (numbered types) (map (numbered types) ds) ≡ map (numbered types) ds
all_twice types [] = refl
all_twice types (d ∷ ds) = ap₂ (λ a b. a ∷ b) (numbered_twice types d) (all_twice types ds)

pub tree_twice : (m : Tree) → numbered_tree (numbered_tree m) ≡ numbered_tree m
unfolding numbered_tree
tree_twice m = ap (λ fs. record m { functions = fs }) (all_twice m.types m.functions)
