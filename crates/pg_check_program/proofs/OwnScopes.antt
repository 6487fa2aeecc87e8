-- A function's names as its lines look them up, and what follows for its instructions and its row.
use Rattle.std.proofs.Common.{◌≡◌, ℕ, suc, List, [], ◌∷◌, ◌++◌, length, map, drop, Option, refl, sym, ap, ◌∙◌}
use Rattle.std.specs.List.{filter_map}
use Rattle.pg_ir.specs.declared.value.Scalar.{Scalar}
use Rattle.pg_ir.specs.declared.function.Function.{Function}
use Rattle.pg_ir.specs.declared.instr.Instr.{Instr}
use Rattle.pg_read_ast.specs.declared.names.Name.{Name}
use Rattle.pg_read_ast.specs.declared.nodes.BlockNode.{BlockNode}
use Rattle.pg_read_ast.specs.declared.nodes.DefineItem.{DefineItem}
use Rattle.pg_read_ast.specs.Syntax.{Definition, Tree}
use Rattle.pg_read_ast.specs.Numbers.{numbered, each_at, behind_all, param_at, behind_param, block_at, behind_block}
use Rattle.pg_read_ast.specs.Views.{ty_of, param_of, block_of, define_of, tree_of}
use Rattle.pg_check_types.specs.NameIndex.{known_place}
use Rattle.pg_check_types.specs.Resolved.{resolved}
use Rattle.pg_check_rules.specs.Names.{Register, registers_of, labels_of, label_number}
use Rattle.pg_check_rules.specs.Conditions.{scope_of}
use Rattle.pg_check_rules.specs.Numbered.{scalar_in, function_at, function_instrs}
use Rattle.pg_check_program.specs.declared.function_scope.FunctionScope.{FunctionScope}
use Rattle.pg_check_program.specs.ScopeNames.{ScopeNames, scope_in}
use Rattle.pg_check_program.specs.LineRows.{blocks_by, name_in}
use Rattle.pg_check_program.specs.FunctionRows.{numbered_item}
use Rattle.pg_check_program.proofs.NamePlaces.{register_place}
use Rattle.pg_check_program.proofs.NumberedLines.{function_numbered}

abbrev tree_in : FunctionScope → Tree
tree_in s = tree_of s.globals.now.symbols.tree.now

abbrev own_scope : (s : FunctionScope) (d : Definition) (registers labels : List Name)
    → ((text : List ℕ) → known_place s.registers.now text ≡ label_number registers text) → ((text : List ℕ) → known_place s.labels.now text ≡ label_number labels text)
    → registers ≡ map name_in (registers_of (tree_in s).types d) → labels ≡ labels_of d → ScopeNames s
own_scope s d registers labels r l a b = record {
  registers = registers_of (tree_in s).types d;
  labels = labels_of d;
  result = resolved (tree_in s).types d.result;
  register_known = λ text. r text ∙ ap (λ ns. label_number ns text) a ∙ register_place (registers_of (tree_in s).types d) text;
  label_known = λ text. l text ∙ ap (λ ns. label_number ns text) b;
}

pub map_count : {X Y : Type 0} (f : X → Y) (xs : List X) → length (map f xs) ≡ length xs
map_count f [] = refl
map_count f (x ∷ xs) = ap (λ n. suc n) (map_count f xs)

each_count : {X Y : Type 0} (behind : ℕ → X → ℕ) (give : ℕ → X → Y) (next : ℕ) (xs : List X) → length (each_at behind give next xs) ≡ length xs
each_count behind give next [] = refl
each_count behind give next (x ∷ xs) = ap (λ n. suc n) (each_count behind give (behind next x) xs)

-- the instructions that are found by the names are those of the function
pub function_added : (s : FunctionScope) (item : DefineItem) (registers labels names : List Name) (start : ℕ) (blocks : List BlockNode) (front found : List Instr)
    → ((text : List ℕ) → known_place s.registers.now text ≡ label_number registers text) → ((text : List ℕ) → known_place s.labels.now text ≡ label_number labels text)
    → registers ≡ map name_in (registers_of (tree_in s).types (numbered_item (tree_in s).types item)) → labels ≡ labels_of (numbered_item (tree_in s).types item)
    → names ≡ registers → start ≡ length item.params.items → blocks ≡ item.blocks.items
    → ((own : ScopeNames s) → found ≡ front ++ blocks_by (scope_in s own) s.first s.first (drop start names) (map block_of blocks))
    → found ≡ front ++ function_instrs (tree_in s) s.first (numbered_item (tree_in s).types item)
function_added s item registers labels names start blocks front found r l a b n st bl f =
    let m = tree_in s in
    let d = numbered_item m.types item in
    let g = scope_of m d in
    let all = map name_in (registers_of m.types d) in
    f (own_scope s d registers labels r l a b)
    ∙ ap (λ ns. front ++ blocks_by g s.first s.first (drop start ns) (map block_of blocks)) (n ∙ a)
    ∙ ap (λ k. front ++ blocks_by g s.first s.first (drop k all) (map block_of blocks)) (st ∙ sym (map_count param_of item.params.items))
    ∙ ap (λ bs. front ++ blocks_by g s.first s.first (drop (length (define_of item).params) all) (map block_of bs)) bl
    ∙ ap (λ is. front ++ is) (function_numbered m s.first (define_of item))

abbrev function : ℕ → List Scalar → ℕ → ℕ → Option Scalar → Function
function params registers first blocks result = record { params = params; registers = registers; first_block = record { 0 = first }; blocks = blocks; result = result }

param_count : (m : Tree) (item : DefineItem) → length item.params.items ≡ length (numbered_item m.types item).params
unfolding numbered
param_count m item = sym (each_count behind_param param_at 0 (define_of item).params ∙ map_count param_of item.params.items)

block_count : (m : Tree) (item : DefineItem) → length item.blocks.items ≡ length (numbered_item m.types item).blocks
unfolding numbered
block_count m item = sym (each_count (behind_block m.types) (block_at m.types) (behind_all behind_param 0 (define_of item).params) (define_of item).blocks ∙ map_count block_of item.blocks.items)

result_same : (m : Tree) (item : DefineItem) → scalar_in (resolved m.types (ty_of item.result)) ≡ scalar_in (resolved m.types (numbered_item m.types item).result)
unfolding numbered
result_same m item = refl

-- a function of these parts
pub function_made : (m : Tree) (item : DefineItem) (first params blocks : ℕ) (registers : List Scalar) (result : Option Scalar)
    → params ≡ length item.params.items → blocks ≡ length item.blocks.items
    → registers ≡ filter_map (λ (r : Register). scalar_in r.ty) (registers_of m.types (numbered_item m.types item))
    → result ≡ scalar_in (resolved m.types (ty_of item.result))
    → function params registers first blocks result ≡ function_at m first (numbered_item m.types item)
function_made m item first params blocks registers result p b r t =
    let d = numbered_item m.types item in
    let all = filter_map (λ (r : Register). scalar_in r.ty) (registers_of m.types d) in
    ap (λ n. function n registers first blocks result) (p ∙ param_count m item)
    ∙ ap (λ rs. function (length d.params) rs first blocks result) r
    ∙ ap (λ n. function (length d.params) all first n result) (b ∙ block_count m item)
    ∙ ap (λ o. function (length d.params) all first (length d.blocks) o) (t ∙ result_same m item)
