-- The registers of a function, one after the other.
use Rattle.std.proofs.Common.{◌≡◌, ℕ, suc, Bool, true, false, cond, List, [], ◌∷◌, ◌++◌, length, map, Option, Some, None, refl, sym, ap, ◌∙◌}
use Rattle.std.specs.List.{filter_map, flat_map, cons_option}
use Rattle.std.specs.Option.{option_map}
use Rattle.pg_read_ast.specs.declared.names.Name.{Name}
use Rattle.pg_read_ast.specs.Syntax.{NamedType, Param, Line, Block, Definition}
use Rattle.pg_read_ast.specs.Numbers.{name_at, each_at, behind_param, param_at, result_at, gives, line_at, behind_all, behind_block, block_at, numbered}
use Rattle.pg_check_types.specs.Resolved.{ResolvedType, resolved}
use Rattle.pg_check_rules.specs.Names.{Register, register, param_register, result_type, line_register, block_registers, registers_of, labels_of}
use Rattle.pg_check_rules.specs.Numbering.{param_name}
use Rattle.pg_check_names.specs.declared.register_type.RegisterType.{RegisterType}
use Rattle.pg_check_names.specs.Registers.{register_type, registers_by, block_label}

-- one register more
registers_push : (types : List NamedType) (ns : List Name) (ts : List RegisterType) (n : Name) (t : RegisterType) → length ts ≡ length ns
    → registers_by types (ns ++ n ∷ []) (ts ++ t ∷ []) ≡ registers_by types ns ts ++ register (register_type types t) n ∷ []
registers_push types [] [] n t e = refl
registers_push types [] (u ∷ ts) n t e = absurd cc
registers_push types (m ∷ ns) [] n t e = absurd cc
registers_push types (m ∷ ns) (u ∷ ts) n t e =
    let more : length ts ≡ length ns = cc in
    ap (λ rs. register (register_type types u) m ∷ rs) (registers_push types ns ts n t more)

line_gives : (r : Option ResolvedType) (next : ℕ) (b : Bool) (o : Option Name) → b ≡ true
    → cons_option (cond b (option_map (register r) (result_at b next o)) None) [] ≡ register r (name_at next o) ∷ []
line_gives r next true None e = refl
line_gives r next true (Some n) e = refl
line_gives r next false o e = absurd cc

-- the result of a line more
pub line_push : (types : List NamedType) (ns : List Name) (ts : List RegisterType) (n : Name) (t : RegisterType) (next : ℕ) (l : Line) (names : List Name) (kinds : List RegisterType)
    → length ts ≡ length ns → names ≡ ns ++ n ∷ [] → kinds ≡ ts ++ t ∷ [] → gives types l.op ≡ true → register_type types t ≡ result_type types l.op
    → n ≡ name_at next l.name
    → registers_by types names kinds ≡ registers_by types ns ts ++ cons_option (line_register types (line_at types next l)) []
line_push types ns ts n t next l names kinds e a b g r m =
    ap (λ xs. registers_by types xs kinds) a
    ∙ ap (λ xs. registers_by types (ns ++ n ∷ []) xs) b
    ∙ registers_push types ns ts n t e
    ∙ ap (λ x. registers_by types ns ts ++ register x n ∷ []) r
    ∙ ap (λ x. registers_by types ns ts ++ register (result_type types l.op) x ∷ []) m
    ∙ ap (λ xs. registers_by types ns ts ++ xs) (sym (line_gives (result_type types l.op) next (gives types l.op) l.name g))

-- the parameters
params_are : (types : List NamedType) (next : ℕ) (ps : List Param) (ts : List RegisterType) → map (register_type types) ts ≡ map (λ (p : Param). resolved types p.ty) ps
    → registers_by types (filter_map param_name (each_at behind_param param_at next ps)) ts ≡ filter_map (param_register types) (each_at behind_param param_at next ps)
params_are types next [] [] e = refl
params_are types next [] (t ∷ ts) e = absurd cc
params_are types next (p ∷ ps) [] e = absurd cc
params_are types next (p ∷ ps) (t ∷ ts) e =
    let one : register_type types t ≡ resolved types p.ty = cc in
    let more : map (register_type types) ts ≡ map (λ (q : Param). resolved types q.ty) ps = cc in
    let name = name_at next p.name in
    let names = filter_map param_name (each_at behind_param param_at (behind_param next p) ps) in
    ap (λ x. register x name ∷ registers_by types names ts) one ∙ ap (λ rs. register (resolved types p.ty) name ∷ rs) (params_are types (behind_param next p) ps ts more)

param_registers : (types : List NamedType) (ps : List Param) (ns : List Name) (ts : List RegisterType) → ns ≡ filter_map param_name (each_at behind_param param_at 0 ps)
    → map (register_type types) ts ≡ map (λ (p : Param). resolved types p.ty) ps
    → registers_by types ns ts ≡ filter_map (param_register types) (each_at behind_param param_at 0 ps)
param_registers types ps ns ts n e = ap (λ xs. registers_by types xs ts) n ∙ params_are types 0 ps ts e

lengths_are : (types : List NamedType) (next : ℕ) (ps : List Param) (ts : List RegisterType) → map (register_type types) ts ≡ map (λ (p : Param). resolved types p.ty) ps
    → length ts ≡ length (filter_map param_name (each_at behind_param param_at next ps))
lengths_are types next [] [] e = refl
lengths_are types next [] (t ∷ ts) e = absurd cc
lengths_are types next (p ∷ ps) [] e = absurd cc
lengths_are types next (p ∷ ps) (t ∷ ts) e =
    let more : map (register_type types) ts ≡ map (λ (q : Param). resolved types q.ty) ps = cc in
    ap (λ n. suc n) (lengths_are types (behind_param next p) ps ts more)

pub param_lengths : (ps : List Param) (ns : List Name) (ts : List RegisterType) → ns ≡ filter_map param_name (each_at behind_param param_at 0 ps)
    → ((types : List NamedType) → map (register_type types) ts ≡ map (λ (p : Param). resolved types p.ty) ps)
    → length ts ≡ length ns
param_lengths ps ns ts n e = lengths_are [] 0 ps ts (e []) ∙ sym (ap length n)

-- ---- the whole function

pub own_labels : (types : List NamedType) (d : Definition) (next : ℕ) (bs : List Block) (front labels : List Name) → next ≡ behind_all behind_param 0 d.params → bs ≡ d.blocks
    → front ≡ []
    → labels ≡ front ++ filter_map block_label (each_at (behind_block types) (block_at types) next bs) → labels ≡ labels_of (numbered types d)
unfolding numbered
own_labels types d next bs front labels n b f e =
    e
    ∙ ap (λ ls. ls ++ filter_map block_label (each_at (behind_block types) (block_at types) next bs)) f
    ∙ ap (λ m. filter_map block_label (each_at (behind_block types) (block_at types) m bs)) n
    ∙ ap (λ xs. filter_map block_label (each_at (behind_block types) (block_at types) (behind_all behind_param 0 d.params) xs)) b

pub own_registers : (types : List NamedType) (d : Definition) (next : ℕ) (bs : List Block) (names : List Name) (kinds : List RegisterType) (rs : List Register)
    → next ≡ behind_all behind_param 0 d.params → bs ≡ d.blocks
    → names ≡ filter_map param_name (each_at behind_param param_at 0 d.params) → map (register_type types) kinds ≡ map (λ (p : Param). resolved types p.ty) d.params
    → rs ≡ registers_by types names kinds ++ flat_map (block_registers types) (each_at (behind_block types) (block_at types) next bs) → rs ≡ registers_of types (numbered types d)
unfolding numbered registers_of
own_registers types d next bs names kinds rs n b m k e =
    let params = filter_map (param_register types) (each_at behind_param param_at 0 d.params) in
    e
    ∙ ap (λ xs. xs ++ flat_map (block_registers types) (each_at (behind_block types) (block_at types) next bs)) (param_registers types d.params names kinds m k)
    ∙ ap (λ i. params ++ flat_map (block_registers types) (each_at (behind_block types) (block_at types) i bs)) n
    ∙ ap (λ xs. params ++ flat_map (block_registers types) (each_at (behind_block types) (block_at types) (behind_all behind_param 0 d.params) xs)) b
