-- The body of a function in which each parameter, block and result has its name.
use Rattle.std.proofs.Common.{◌≡◌, ℕ, suc, ◌+◌, ◌≤◌, ◌==◌, ◌||◌, not, Bool, true, false, cond, List, [], ◌∷◌, ◌++◌, length, map, drop, Option, Some, None}
use Rattle.std.proofs.Common.{refl, sym, ap, ◌∙◌, arith, length-append}
use Rattle.std.specs.List.{flat_map, filter_map, cons_option, list_any, enumerate_from, prefix_len, fold, sum_by}
use Rattle.std.proofs.lemmas.List.{drop-map, length-map}
use Rattle.std.proofs.lemmas.List.Concat.{flat_map-append}
use Rattle.std.proofs.lemmas.List.Folds.{flat_map-map, list_any-append}
use Rattle.pg_read_ast.specs.declared.names.Name.{Name}
use Rattle.pg_read_ast.specs.declared.nodes.LineNode.{LineNode}
use Rattle.pg_read_ast.specs.declared.nodes.BlockNode.{BlockNode}
use Rattle.pg_read_ast.specs.Syntax.{NamedType, Param, Line, Block, Definition}
use Rattle.pg_read_ast.specs.Numbers.{name_at, after, each_at, behind_all, behind_param, param_at, result_at, gives, line_at, behind_line, block_at, behind_block, numbered}
use Rattle.pg_read_ast.specs.Views.{line_of, block_of}
use Rattle.pg_check_calls.specs.pg_check_names.declared.register_type.RegisterType.{RegisterType}
use Rattle.pg_check_calls.specs.pg_check_names.Registers.{register_type, registers_by}
use Rattle.pg_check_rules.specs.declared.fault.CheckKind.{CheckKind}
use Rattle.pg_check_rules.specs.declared.fault.CheckKind.TheVariants.{UnknownName, Doubled, WrongType, NoBlock, BadPhi, Unsupported, BadSignature, TooLarge, NoMain}
use Rattle.pg_check_rules.specs.Names.{Register, param_register, block_registers, registers_of, labels_of, line_count}
use Rattle.pg_check_rules.specs.Written.{op_demands, label_targets, is_phi_op, is_ending}
use Rattle.pg_check_rules.specs.TypeConditions.{wrong_types, unmet, is_large, any_large}
use Rattle.pg_check_rules.specs.ValueConditions.{Scope, wrong_use}
use Rattle.pg_check_rules.specs.CallConditions.{call_demands, thread_functions, wrong_thread}
use Rattle.pg_check_rules.specs.LineConditions.{line_types, line_uses, wrong_call, wrong_return, wrong_path, wrong_name, line_refused}
use Rattle.pg_check_rules.specs.BlockConditions.{phi_span, has_text, goes_to, label_if, predecessors, wrong_sources, bad_phis, is_endless}
use Rattle.pg_check_rules.specs.Written.{types_within}
use Rattle.pg_check_rules.specs.Conditions.{all_of, all_lines, body_types, is_unfinished}
use Rattle.pg_check_bodies.specs.BodyBlocks.{node_count, bare_line, bare_node, bare_block, bare_blocks}
use Rattle.pg_check_bodies.specs.BodyParts.{block_refused, is_large_line, is_large_block}

-- ---- lines

name_same : (b : Bool) (next : ℕ) (o : Option Name) → wrong_name b (result_at b next o) ≡ wrong_name b o
name_same true next None = refl
name_same true next (Some n) = refl
name_same false next None = refl
name_same false next (Some n) = refl

line_named : (g : Scope) (next : ℕ) (l : Line) (kind : CheckKind) → line_refused g (line_at g.tree.types next l) kind ≡ line_refused g l kind
unfolding line_refused
line_named g next l UnknownName = refl
line_named g next l Doubled = refl
line_named g next l WrongType =
    ap (λ ss. wrong_types g.tree.types (line_types l.op)
    ++ (flat_map (unmet g.tree.types) (op_demands g.tree.types g.result l.op ++ call_demands g l.op)
    ++ (flat_map (wrong_use g) (line_uses g l.op)
    ++ (wrong_call g l.op
    ++ (flat_map (wrong_thread g) (thread_functions g l.op)
    ++ (wrong_return g l.op
    ++ (wrong_path g l.op ++ ss)))))))
    (name_same (gives g.tree.types l.op) next l.name)
line_named g next l NoBlock = refl
line_named g next l BadPhi = refl
line_named g next l Unsupported = refl
line_named g next l BadSignature = refl
line_named g next l TooLarge = refl
line_named g next l NoMain = refl

lines_named : (g : Scope) (next : ℕ) (ls : List Line) (kind : CheckKind)
    → flat_map (λ l. line_refused g l kind) (each_at (behind_line g.tree.types) (line_at g.tree.types) next ls) ≡ flat_map (λ l. line_refused g l kind) ls
lines_named g next [] kind = refl
lines_named g next (l ∷ ls) kind =
    ap (λ ss. ss ++ flat_map (λ l. line_refused g l kind) (each_at (behind_line g.tree.types) (line_at g.tree.types) (behind_line g.tree.types next l) ls)) (line_named g next l kind)
    ∙ ap (λ ss. line_refused g l kind ++ ss) (lines_named g (behind_line g.tree.types next l) ls kind)

blocks_named : (g : Scope) (next : ℕ) (bs : List Block) (kind : CheckKind)
    → flat_map (λ l. line_refused g l kind) (flat_map (λ (b : Block). b.lines) (each_at (behind_block g.tree.types) (block_at g.tree.types) next bs)) ≡ flat_map (λ b. block_refused g b kind) bs
unfolding block_at
blocks_named g next [] kind = refl
blocks_named g next (b ∷ bs) kind =
    let rest = flat_map (λ (b : Block). b.lines) (each_at (behind_block g.tree.types) (block_at g.tree.types) (behind_block g.tree.types next b) bs) in
    flat_map-append (λ l. line_refused g l kind) (each_at (behind_line g.tree.types) (line_at g.tree.types) (after next b.label) b.lines) rest
    ∙ ap (λ ss. ss ++ flat_map (λ l. line_refused g l kind) rest) (lines_named g (after next b.label) b.lines kind)
    ∙ ap (λ ss. block_refused g b kind ++ ss) (blocks_named g (behind_block g.tree.types next b) bs kind)

pub all_lines_refused : (g : Scope) (d : Definition) (kind : CheckKind) → all_of (line_refused g) (all_lines (numbered g.tree.types d)) kind ≡ all_of (block_refused g) d.blocks kind
unfolding numbered
all_lines_refused g d kind = blocks_named g (behind_all behind_param 0 d.params) d.blocks kind

-- ---- limits

any_lines : (types : List NamedType) (ls : List Line) → any_large types (flat_map (λ (l : Line). line_types l.op) ls) ≡ list_any (is_large_line types) ls
unfolding any_large
any_lines types [] = refl
any_lines types (l ∷ ls) =
    ap (λ ts. list_any (is_large types) ts) (flat_map-append types_within (line_types l.op) (flat_map (λ (x : Line). line_types x.op) ls))
    ∙ list_any-append (is_large types) (flat_map types_within (line_types l.op)) (flat_map types_within (flat_map (λ (x : Line). line_types x.op) ls))
    ∙ ap (λ b. is_large_line types l || b) (any_lines types ls)

large_lines : (types : List NamedType) (next : ℕ) (ls : List Line) → list_any (is_large_line types) (each_at (behind_line types) (line_at types) next ls) ≡ list_any (is_large_line types) ls
large_lines types next [] = refl
large_lines types next (l ∷ ls) = ap (λ b. is_large_line types l || b) (large_lines types (behind_line types next l) ls)

large_blocks : (types : List NamedType) (next : ℕ) (bs : List Block)
    → list_any (is_large_line types) (flat_map (λ (b : Block). b.lines) (each_at (behind_block types) (block_at types) next bs)) ≡ list_any (is_large_block types) bs
unfolding block_at
large_blocks types next [] = refl
large_blocks types next (b ∷ bs) =
    let rest = flat_map (λ (b : Block). b.lines) (each_at (behind_block types) (block_at types) (behind_block types next b) bs) in
    list_any-append (is_large_line types) (each_at (behind_line types) (line_at types) (after next b.label) b.lines) rest
    ∙ ap (λ x. x || list_any (is_large_line types) rest) (large_lines types (after next b.label) b.lines)
    ∙ ap (λ x. is_large_block types b || x) (large_blocks types (behind_block types next b) bs)

pub large_body : (types : List NamedType) (d : Definition) → any_large types (body_types (numbered types d)) ≡ list_any (is_large_block types) d.blocks
unfolding numbered
large_body types d =
    any_lines types (flat_map (λ (b : Block). b.lines) (each_at (behind_block types) (block_at types) (behind_all behind_param 0 d.params) d.blocks))
    ∙ large_blocks types (behind_all behind_param 0 d.params) d.blocks

count_same : {X Y : Type 0} (behind : ℕ → X → ℕ) (give : ℕ → X → Y) (next : ℕ) (xs : List X) → length (each_at behind give next xs) ≡ length xs
count_same behind give next [] = refl
count_same behind give next (x ∷ xs) = ap (λ n. suc n) (count_same behind give (behind next x) xs)

lines_counted : (types : List NamedType) (next count : ℕ) (bs : List Block)
    → fold (λ a (b : Block). a + length b.lines) count (each_at (behind_block types) (block_at types) next bs) ≡ fold (λ a (b : Block). a + length b.lines) count bs
unfolding block_at
lines_counted types next count [] = refl
lines_counted types next count (b ∷ bs) =
    lines_counted types (behind_block types next b) (count + length (each_at (behind_line types) (line_at types) (after next b.label) b.lines)) bs
    ∙ ap (λ n. fold (λ a (c : Block). a + length c.lines) (count + n) bs) (count_same (behind_line types) (line_at types) (after next b.label) b.lines)

pub line_count_same : (types : List NamedType) (d : Definition) → line_count (numbered types d) ≡ line_count d
unfolding numbered
line_count_same types d = lines_counted types (behind_all behind_param 0 d.params) 0 d.blocks

counted_from : (count : ℕ) (bs : List BlockNode) → fold (λ a (b : Block). a + length b.lines) count (map block_of bs) ≡ fold (λ a (b : BlockNode). a + node_count b) count bs
counted_from count [] = refl
counted_from count (b ∷ bs) =
    counted_from (count + length (map line_of b.lines.items)) bs
    ∙ ap (λ n. fold (λ a (x : BlockNode). a + node_count x) (count + n) bs) (length-map b.lines.items line_of)

pub nodes_counted : (bs : List BlockNode) → sum_by (λ (b : Block). length b.lines) (map block_of bs) ≡ sum_by node_count bs
nodes_counted bs = counted_from 0 bs

-- ---- blocks

ends_same : (types : List NamedType) (next : ℕ) (ls : List Line) → list_any (λ (l : Line). is_ending l.op) (each_at (behind_line types) (line_at types) next ls)
    ≡ list_any (λ (l : Line). is_ending l.op) ls
ends_same types next [] = refl
ends_same types next (l ∷ ls) = ap (λ b. is_ending l.op || b) (ends_same types (behind_line types next l) ls)

endless_same : (types : List NamedType) (next : ℕ) (bs : List Block) → list_any is_endless (each_at (behind_block types) (block_at types) next bs) ≡ list_any is_endless bs
unfolding block_at
endless_same types next [] = refl
endless_same types next (b ∷ bs) =
    ap (λ x. not x || list_any is_endless (each_at (behind_block types) (block_at types) (behind_block types next b) bs)) (ends_same types (after next b.label) b.lines)
    ∙ ap (λ x. is_endless b || x) (endless_same types (behind_block types next b) bs)

pub unfinished_same : (types : List NamedType) (d : Definition) → is_unfinished (numbered types d) ≡ is_unfinished d
unfolding numbered
unfinished_same types d =
    let next = behind_all behind_param 0 d.params in
    ap (λ n. (n == 0) || list_any is_endless (each_at (behind_block types) (block_at types) next d.blocks)) (count_same (behind_block types) (block_at types) next d.blocks)
    ∙ ap (λ x. (length d.blocks == 0) || x) (endless_same types next d.blocks)

bare_lines : (types : List NamedType) (next : ℕ) (ls : List LineNode) → map bare_node ls ≡ map bare_line (each_at (behind_line types) (line_at types) next (map line_of ls))
bare_lines types next [] = refl
bare_lines types next (l ∷ ls) = ap (λ xs. bare_node l ∷ xs) (bare_lines types (behind_line types next (line_of l)) ls)

bare_from : (types : List NamedType) (next : ℕ) (bs : List BlockNode)
    → bare_blocks (filter_map (λ (b : Block). b.label) (each_at (behind_block types) (block_at types) next (map block_of bs))) bs
    ≡ map bare_block (each_at (behind_block types) (block_at types) next (map block_of bs))
unfolding block_at
bare_from types next [] = refl
bare_from types next (b ∷ bs) =
    let rest : ℕ → List Block = λ n. each_at (behind_block types) (block_at types) n (map block_of bs) in
    let more = behind_block types next (block_of b) in
    let name = name_at next b.label in
    ap (λ ls. record { label = Some name; lines = ls } ∷ bare_blocks (filter_map (λ (b : Block). b.label) (rest more)) bs) (bare_lines types (after next b.label) b.lines.items)
    ∙ ap (λ xs. record { label = Some name; lines = map bare_line (each_at (behind_line types) (line_at types) (after next b.label) (map line_of b.lines.items)) } ∷ xs) (bare_from types more bs)

pub bare_body : (types : List NamedType) (d : Definition) (bs : List BlockNode) → d.blocks ≡ map block_of bs
    → bare_blocks (labels_of (numbered types d)) bs ≡ map bare_block (numbered types d).blocks
unfolding numbered
bare_body types d bs e =
    let next = behind_all behind_param 0 d.params in
    ap (λ xs. bare_blocks (filter_map (λ (b : Block). b.label) (each_at (behind_block types) (block_at types) next xs)) bs) e
    ∙ bare_from types next bs
    ∙ ap (λ xs. map bare_block (each_at (behind_block types) (block_at types) next xs)) (sym e)

labels_from : (types : List NamedType) (next : ℕ) (bs : List Block) → length (filter_map (λ (b : Block). b.label) (each_at (behind_block types) (block_at types) next bs)) ≡ length bs
unfolding block_at
labels_from types next [] = refl
labels_from types next (b ∷ bs) = ap (λ n. suc n) (labels_from types (behind_block types next b) bs)

pub labels_count : (types : List NamedType) (d : Definition) → length (labels_of (numbered types d)) ≡ length d.blocks
unfolding numbered
labels_count types d = labels_from types (behind_all behind_param 0 d.params) d.blocks

-- ---- phis

prefix_bare : (ls : List Line) → prefix_len (λ (l : Line). is_phi_op l.op) (map bare_line ls) ≡ prefix_len (λ (l : Line). is_phi_op l.op) ls
prefix_bare [] = refl
prefix_bare (l ∷ ls) = ap (λ n. cond (is_phi_op l.op) (1 + n) 0) (prefix_bare ls)

behind_bare : (ls : List Line)
    → flat_map phi_span (drop (prefix_len (λ (l : Line). is_phi_op l.op) (map bare_line ls)) (map bare_line ls)) ≡ flat_map phi_span (drop (prefix_len (λ (l : Line). is_phi_op l.op) ls) ls)
behind_bare ls =
    ap (λ n. flat_map phi_span (drop n (map bare_line ls))) (prefix_bare ls)
    ∙ ap (λ xs. flat_map phi_span xs) (drop-map bare_line (prefix_len (λ (l : Line). is_phi_op l.op) ls) ls)
    ∙ flat_map-map phi_span bare_line (drop (prefix_len (λ (l : Line). is_phi_op l.op) ls) ls)

before_bare : (label : Option Name) (bs : List Block)
    → filter_map (λ (b : Block). label_if (goes_to label b) b.label) (map bare_block bs) ≡ filter_map (λ (b : Block). label_if (goes_to label b) b.label) bs
before_bare label [] = refl
before_bare None (b ∷ bs) = before_bare None bs
before_bare (Some n) (b ∷ bs) =
    let rest = filter_map (λ (b : Block). label_if (goes_to (Some n) b) b.label) (map bare_block bs) in
    ap (λ names. cons_option (label_if (has_text names n.text) b.label) rest) (flat_map-map (λ (l : Line). label_targets l.op) bare_line b.lines)
    ∙ ap (λ xs. cons_option (label_if (goes_to (Some n) b) b.label) xs) (before_bare (Some n) bs)

predecessors_bare : (label : Option Name) (bs : List Block) → predecessors (map bare_block bs) label ≡ predecessors bs label
unfolding predecessors
predecessors_bare label bs = before_bare label bs

block_bare : (labels : List Name) (blocks : List Block) (i : ℕ) (b : Block) → bad_phis labels (map bare_block blocks) i (bare_block b) ≡ bad_phis labels blocks i b
unfolding bad_phis
block_bare labels blocks i b =
    let behind = flat_map phi_span (drop (prefix_len (λ (l : Line). is_phi_op l.op) b.lines) b.lines) in
    let before = predecessors (map bare_block blocks) b.label in
    let first = cond (i == 0) (flat_map phi_span b.lines) [] in
    ap (λ ss. ss ++ (cond (i == 0) (flat_map phi_span (map bare_line b.lines)) [] ++ flat_map (wrong_sources labels before) (map bare_line b.lines))) (behind_bare b.lines)
    ∙ ap (λ ss. behind ++ (cond (i == 0) ss [] ++ flat_map (wrong_sources labels before) (map bare_line b.lines))) (flat_map-map phi_span bare_line b.lines)
    ∙ ap (λ ss. behind ++ (first ++ ss)) (flat_map-map (wrong_sources labels before) bare_line b.lines)
    ∙ ap (λ names. behind ++ (first ++ flat_map (wrong_sources labels names) b.lines)) (predecessors_bare b.label blocks)

pub phis_bare : (labels : List Name) (blocks : List Block) (k : ℕ) (bs : List Block)
    → flat_map (λ (b : ℕ × Block). bad_phis labels (map bare_block blocks) b.0 b.1) (enumerate_from k (map bare_block bs))
    ≡ flat_map (λ (b : ℕ × Block). bad_phis labels blocks b.0 b.1) (enumerate_from k bs)
phis_bare labels blocks k [] = refl
phis_bare labels blocks k (b ∷ bs) =
    ap (λ ss. ss ++ flat_map (λ (b : ℕ × Block). bad_phis labels (map bare_block blocks) b.0 b.1) (enumerate_from (k + 1) (map bare_block bs))) (block_bare labels blocks k b)
    ∙ ap (λ ss. bad_phis labels blocks k b ++ ss) (phis_bare labels blocks (k + 1) bs)

-- ---- registers

pub register_names : (types : List NamedType) (ns : List Name) (ts : List RegisterType) → length ts ≡ length ns → map (λ (r : Register). r.name) (registers_by types ns ts) ≡ ns
register_names types [] ts e = refl
register_names types (n ∷ ns) [] e = absurd cc
register_names types (n ∷ ns) (t ∷ ts) e =
    let more : length ts ≡ length ns = cc in
    ap (λ xs. n ∷ xs) (register_names types ns ts more)

pub register_types : (types : List NamedType) (ns : List Name) (ts : List RegisterType) → length ts ≡ length ns
    → map (λ (r : Register). r.ty) (registers_by types ns ts) ≡ map (register_type types) ts
register_types types [] [] e = refl
register_types types [] (t ∷ ts) e = absurd cc
register_types types (n ∷ ns) [] e = absurd cc
register_types types (n ∷ ns) (t ∷ ts) e =
    let more : length ts ≡ length ns = cc in
    ap (λ xs. register_type types t ∷ xs) (register_types types ns ts more)

params_from : (types : List NamedType) (next : ℕ) (ps : List Param) → length (filter_map (param_register types) (each_at behind_param param_at next ps)) ≡ length ps
params_from types next [] = refl
params_from types next (p ∷ ps) = ap (λ n. suc n) (params_from types (behind_param next p) ps)

pub params_within : (types : List NamedType) (d : Definition) → length d.params ≤ length (registers_of types (numbered types d))
unfolding numbered registers_of
params_within types d =
    let params = filter_map (param_register types) (each_at behind_param param_at 0 d.params) in
    let results = flat_map (block_registers types) (each_at (behind_block types) (block_at types) (behind_all behind_param 0 d.params) d.blocks) in
    omega (arith, params_from types 0 d.params, length-append params results)

pub params_count : (types : List NamedType) (d : Definition) → length (numbered types d).params ≡ length d.params
unfolding numbered
params_count types d = count_same behind_param param_at 0 d.params
