-- The basic blocks of a function with their labels and operations, and without the names of results.
use Rattle.std.specs.Prelude.{ℕ, min, ◌-◌, ◌^◌, Bool, List, [], ◌∷◌, map, length, Some, None, is_some}
use Rattle.std.specs.List.{list_all}
use Rattle.indexmap.specs.IndexMap.{IndexMap}
use denote.Ref.{Bor}
use Rattle.pg_read_ast.specs.declared.names.Name.{Name}
use Rattle.pg_read_ast.specs.declared.nodes.LineNode.{LineNode}
use Rattle.pg_read_ast.specs.declared.nodes.BlockNode.{BlockNode}
use Rattle.pg_read_ast.specs.Syntax.{Op, Line, Block}
use Rattle.pg_read_ast.specs.Views.{op_of}
use Rattle.pg_check_types.specs.NameIndex.{known_place}
use Rattle.pg_check_bodies.specs.declared.blocks.NamedBlock.{NamedBlock}

abbrev pub bare_op : Op → Line
bare_op op = record { name = None; op = op }

abbrev pub bare_line : Line → Line
bare_line l = bare_op l.op

abbrev pub bare_node : LineNode → Line
bare_node l = bare_op (op_of l.op)

abbrev pub bare_block : Block → Block
bare_block b = record { label = b.label; lines = map bare_line b.lines }

abbrev pub named_block : NamedBlock → Block
named_block b = record { label = Some b.label.now; lines = map bare_node b.lines.now }

-- blocks with these labels
abbrev pub bare_blocks : List Name → List BlockNode → List Block
bare_blocks (n ∷ ns) (b ∷ bs) = record { label = Some n; lines = map bare_node b.lines.items } ∷ bare_blocks ns bs
bare_blocks _ _ = []

abbrev pub name_text : Name → List ℕ
name_text n = n.text

-- a map has a place for each of the names
abbrev pub are_known : {S : Type 0} → IndexMap (Bor (List ℕ)) ℕ S → List Name → Bool
are_known m names = list_all (λ (n : Name). is_some (known_place m n.text)) names

-- a number, and the greatest that fits where it is greater
abbrev pub capped : ℕ → ℕ
capped n = min n (2 ^ 64 - 1)

-- the instructions of a block
abbrev pub node_count : BlockNode → ℕ
node_count b = length b.lines.items
