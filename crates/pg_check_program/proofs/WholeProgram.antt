-- The parts of a program are those of the numbered program.
use Rattle.std.proofs.Common.{◌≡◌, ℕ, List, map, unwrap_or, sym, ap, ◌∙◌}
use Rattle.std.specs.List.{position, position_from, enumerate_from}
use Rattle.std.specs.Str.{bytes_eq}
use Rattle.std.proofs.lemmas.Iterator.Adapters.{position_from-zero}
use Rattle.pg_ir.specs.declared.function.Function.{Function}
use Rattle.pg_ir.specs.declared.function.Block.{Block}
use Rattle.pg_ir.specs.declared.function.GlobalInfo.{GlobalInfo}
use Rattle.pg_ir.specs.declared.instr.Instr.{Instr}
use Rattle.pg_ir.specs.Program.{numbered_program}
use Rattle.pg_read_ast.specs.declared.nodes.DefineItem.{DefineItem}
use Rattle.pg_read_ast.specs.declared.nodes.Module.{Module}
use Rattle.pg_read_ast.specs.Syntax.{Variable, Definition}
use Rattle.pg_read_ast.specs.Views.{define_of, tree_of}
use Rattle.pg_check_rules.specs.Names.{first_block}
use Rattle.pg_check_rules.specs.Conditions.{main_name}
use Rattle.pg_check_rules.specs.Numbered.{function_at, function_instrs, global_at, program_of}
use Rattle.pg_check_program.specs.FunctionRows.{rows_from, function_row, block_row, instr_row, is_main_item}
use Rattle.pg_check_program.proofs.NamePlaces.{position_map}
use Rattle.pg_check_program.proofs.EqualParts.{same_five}
use Rattle.pg_check_program.proofs.ProgramRows.{rows_are, singles_are, block_rows_are}

main_place : (items : List DefineItem) → position_from is_main_item 0 items ≡ position (λ (d : Definition). bytes_eq d.name.text main_name) (map define_of items)
main_place items =
    sym (position_map (λ (d : Definition). bytes_eq d.name.text main_name) define_of items 0)
    ∙ sym (position_from-zero (λ (d : Definition). bytes_eq d.name.text main_name) (map define_of items))

pub program_made : (tree : Module) (all : List DefineItem) (functions : List Function) (blocks : List Block) (instrs : List Instr) (globals : List GlobalInfo) (main : ℕ)
    → all ≡ tree.functions.items
    → functions ≡ rows_from (function_row (tree_of tree) (map define_of all)) 0 all
    → blocks ≡ rows_from (block_row (map define_of all)) 0 all
    → instrs ≡ rows_from (instr_row (tree_of tree) (map define_of all)) 0 all
    → globals ≡ map (λ (v : ℕ × Variable). global_at (tree_of tree) v.0 v.1) (enumerate_from 0 (tree_of tree).globals)
    → main ≡ unwrap_or (position_from is_main_item 0 all) 0
    → numbered_program functions blocks instrs globals main ≡ program_of (tree_of tree)
unfolding program_of
program_made tree all functions blocks instrs globals main a f b i g n =
    let m = tree_of tree in
    let items = tree.functions.items in
    same_five numbered_program
    (f ∙ ap (λ xs. rows_from (function_row m (map define_of xs)) 0 xs) a ∙ singles_are (λ k d. function_at m (first_block m.functions k) d) m.types 0 items)
    (b ∙ ap (λ xs. rows_from (block_row (map define_of xs)) 0 xs) a ∙ block_rows_are m.functions m.types 0 items)
    (i ∙ ap (λ xs. rows_from (instr_row m (map define_of xs)) 0 xs) a
    ∙ rows_are (λ k d. function_instrs m (first_block m.functions k) d) m.types 0 items)
    g
    (n ∙ ap (λ xs. unwrap_or (position_from is_main_item 0 xs) 0) a ∙ ap (λ o. unwrap_or o 0) (main_place items))
