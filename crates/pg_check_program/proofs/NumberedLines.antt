-- The instructions of a function whose lines are numbered, by the names of its registers.
use Rattle.std.proofs.Common.{◌≡◌, ℕ, ◌+◌, Bool, true, false, if◌then◌else◌, List, [], ◌∷◌, ◌++◌, length, map, drop, Option, Some, None, refl, ap, ◌∙◌, arith}
use Rattle.std.specs.Option.{option_map}
use Rattle.std.specs.List.{flat_map, filter_map, cons_option, enumerate_from}
use Rattle.std.proofs.lemmas.List.{map-append}
use Rattle.pg_ir.specs.declared.instr.Op as numbered_op
use Rattle.pg_ir.specs.declared.instr.Instr.{Instr}
use Rattle.pg_read_ast.specs.declared.names.Name.{Name}
use Rattle.pg_read_ast.specs.Syntax.{NamedType, Line, Block, Param, Definition, Tree}
use Rattle.pg_read_ast.specs.Numbers.{gives, numbered, after, each_at, behind_all, result_at, line_at, behind_line, block_at, behind_block, param_at, behind_param}
use Rattle.pg_check_types.specs.Resolved.{ResolvedType}
use Rattle.pg_check_rules.specs.Names.{Register, register, registers_of, result_type, line_register, block_registers, param_register}
use Rattle.pg_check_rules.specs.ValueConditions.{Scope}
use Rattle.pg_check_rules.specs.Numbered.{op_at, number_of_name, instr_at, function_instrs}
use Rattle.pg_check_rules.specs.Conditions.{scope_of}
use Rattle.pg_check_program.specs.LineRows.{result_by, names_after, block_number, lines_by, names_after_lines, blocks_by, name_in}

abbrev line_names : List NamedType → List Line → List Name
line_names types ls = map name_in (filter_map (line_register types) ls)

abbrev numbered_lines : List NamedType → ℕ → List Line → List Line
numbered_lines types next ls = each_at (behind_line types) (line_at types) next ls

abbrev numbered_blocks : List NamedType → ℕ → List Block → List Block
numbered_blocks types next bs = each_at (behind_block types) (block_at types) next bs

abbrev block_names : List NamedType → List Block → List Name
block_names types bs = map name_in (flat_map (block_registers types) bs)

abbrev given_register : Option ResolvedType → Bool → Option Name → Option Register
given_register t b name = if b then option_map (register t) name else None

abbrev instr : numbered_op.Op → ℕ → Option ℕ → Instr
instr o block result = record { op = o; block = block_number block; result = result }

-- ---- lines

-- a result has the first of the names
line_same : (g : Scope) (o : numbered_op.Op) (block next : ℕ) (t : Option ResolvedType) (b : Bool) (name : Option Name) (regs : List Register) (rest : List Name)
    → instr o block (result_by g b (map name_in (cons_option (given_register t b (result_at b next name)) regs) ++ rest))
    ≡ instr o block (if b then number_of_name g (result_at b next name) else None)
line_same g o block next t true (Some n) regs rest = refl
line_same g o block next t true None regs rest = refl
line_same g o block next t false (Some n) regs rest = refl
line_same g o block next t false None regs rest = refl

-- and behind it are the names of the others
after_same : (next : ℕ) (t : Option ResolvedType) (b : Bool) (name : Option Name) (regs : List Register) (rest : List Name)
    → names_after b (map name_in (cons_option (given_register t b (result_at b next name)) regs) ++ rest) ≡ map name_in regs ++ rest
after_same next t true (Some n) regs rest = refl
after_same next t true None regs rest = refl
after_same next t false (Some n) regs rest = refl
after_same next t false None regs rest = refl

lines_numbered : (g : Scope) (first b next : ℕ) (rest : List Name) (ls : List Line)
    → lines_by g first (first + b) (line_names g.tree.types (numbered_lines g.tree.types next ls) ++ rest) ls ≡ map (instr_at g first b) (numbered_lines g.tree.types next ls)
unfolding lines_by
lines_numbered g first b next rest [] = refl
lines_numbered g first b next rest (l ∷ ls) =
    let types = g.tree.types in
    let has = gives types l.op in
    let more = behind_line types next l in
    let regs = filter_map (line_register types) (numbered_lines types more ls) in
    let names = line_names types (numbered_lines types next (l ∷ ls)) ++ rest in
    ap (λ i. i ∷ lines_by g first (first + b) (names_after has names) ls) (line_same g (op_at g first l.op) (first + b) next (result_type types l.op) has l.name regs rest)
    ∙ ap (λ ns. instr_at g first b (line_at types next l) ∷ lines_by g first (first + b) ns ls) (after_same next (result_type types l.op) has l.name regs rest)
    ∙ ap (λ is. instr_at g first b (line_at types next l) ∷ is) (lines_numbered g first b more rest ls)

lines_named : (types : List NamedType) (next : ℕ) (rest : List Name) (ls : List Line)
    → names_after_lines types (line_names types (numbered_lines types next ls) ++ rest) ls ≡ rest
unfolding names_after_lines
lines_named types next rest [] = refl
lines_named types next rest (l ∷ ls) =
    let more = behind_line types next l in
    ap (λ ns. names_after_lines types ns ls) (after_same next (result_type types l.op) (gives types l.op) l.name (filter_map (line_register types) (numbered_lines types more ls)) rest)
    ∙ lines_named types more rest ls

-- ---- basic blocks

blocks_numbered : (g : Scope) (first b next : ℕ) (bs : List Block)
    → blocks_by g first (first + b) (block_names g.tree.types (numbered_blocks g.tree.types next bs)) bs
    ≡ flat_map (λ (k : ℕ × Block). map (instr_at g first k.0) k.1.lines) (enumerate_from b (numbered_blocks g.tree.types next bs))
unfolding blocks_by block_at behind_block
blocks_numbered g first b next [] = refl
blocks_numbered g first b next (k ∷ ks) =
    let types = g.tree.types in
    let inner = after next k.label in
    let tail = numbered_blocks types (behind_block types next k) ks in
    let rest = block_names types tail in
    let here = numbered_lines types inner k.lines in
    let instrs = map (instr_at g first b) here in
    let e : first + b + 1 ≡ first + (b + 1) = omega arith in
    ap (λ ns. lines_by g first (first + b) ns k.lines ++ blocks_by g first (first + b + 1) (names_after_lines types ns k.lines) ks)
    (map-append name_in (filter_map (line_register types) here) (flat_map (block_registers types) tail))
    ∙ ap (λ is. is ++ blocks_by g first (first + b + 1) (names_after_lines types (line_names types here ++ rest) k.lines) ks) (lines_numbered g first b inner rest k.lines)
    ∙ ap (λ ns. instrs ++ blocks_by g first (first + b + 1) ns ks) (lines_named types inner rest k.lines)
    ∙ ap (λ n. instrs ++ blocks_by g first n rest ks) e
    ∙ ap (λ is. instrs ++ is) (blocks_numbered g first (b + 1) (behind_block types next k) ks)

-- ---- functions

params_named : (types : List NamedType) (next : ℕ) (ps : List Param) (rest : List Register)
    → drop (length ps) (map name_in (filter_map (param_register types) (each_at behind_param param_at next ps) ++ rest)) ≡ map name_in rest
params_named types next [] rest = refl
params_named types next (p ∷ ps) rest = params_named types (behind_param next p) ps rest

-- the results take the names behind those of the parameters
pub function_numbered : (m : Tree) (first : ℕ) (d : Definition)
    → blocks_by (scope_of m (numbered m.types d)) first first (drop (length d.params) (map name_in (registers_of m.types (numbered m.types d)))) d.blocks
    ≡ function_instrs m first (numbered m.types d)
unfolding numbered registers_of
function_numbered m first d =
    let g = scope_of m (numbered m.types d) in
    let next = behind_all behind_param 0 d.params in
    let e : first ≡ first + 0 = omega arith in
    ap (λ ns. blocks_by g first first ns d.blocks) (params_named m.types 0 d.params (flat_map (block_registers m.types) (numbered_blocks m.types next d.blocks)))
    ∙ ap (λ n. blocks_by g first n (block_names m.types (numbered_blocks m.types next d.blocks)) d.blocks) e
    ∙ blocks_numbered g first 0 next d.blocks
