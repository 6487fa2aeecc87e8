-- When a phi is refused for the block in which it stands (LLVM Language Reference, "phi Instruction").
use Rattle.std.specs.Prelude.{ℕ, ◌&&◌, ◌==◌, Bool, true, false, not, if◌then◌else◌, List, [], ◌∷◌, ◌++◌, drop, Option, Some, None, is_some}
use Rattle.std.specs.List.{flat_map, filter_map, list_any, list_all, prefix_len}
use Rattle.std.specs.Str.{bytes_eq}
use Rattle.pg_read_ast.specs.pg_read_lex.declared.token.Span.{Span}
use Rattle.pg_read_ast.specs.declared.names.Name.{Name}
use Rattle.pg_read_ast.specs.Syntax.{Op, Phi, Line, Block}
use Rattle.pg_check_rules.specs.Names.{label_number}
use Rattle.pg_check_rules.specs.Written.{label_targets, label_sources, is_phi_op, is_ending}

-- the word phi
abbrev pub phi_word : Op → List Span
phi_word (Phi s t i all) = s ∷ []
phi_word _ = []

abbrev pub phi_span : Line → List Span
phi_span l = phi_word l.op

-- the labels to which a block may go on
abbrev pub block_targets : Block → List Name
block_targets b = flat_map (λ (l : Line). label_targets l.op) b.lines

abbrev pub has_text : List Name → List ℕ → Bool
has_text names text = list_any (λ (n : Name). bytes_eq n.text text) names

abbrev pub goes_to : Option Name → Block → Bool
goes_to None b = false
goes_to (Some n) b = has_text (block_targets b) n.text

abbrev pub label_if : Bool → Option Name → Option Name
label_if true label = label
label_if false label = None

-- the labels of the blocks that go on to a block
unfoldable pub predecessors : List Block → Option Name → List Name
predecessors blocks label = filter_map (λ (b : Block). label_if (goes_to label b) b.label) blocks

-- the same labels, each at least once
abbrev pub same_labels : List Name → List Name → Bool
same_labels ms ns = list_all (λ (n : Name). has_text ms n.text) ns && list_all (λ (m : Name). has_text ns m.text) ms

abbrev pub are_labels : List Name → List Name → Bool
are_labels labels names = list_all (λ (n : Name). is_some (label_number labels n.text)) names

-- a phi that lists other blocks than the predecessors; a label without a block is refused by itself
abbrev pub wrong_sources : List Name → List Name → Line → List Span
wrong_sources labels before l =
    if are_labels labels (label_sources l.op) && not (same_labels before (label_sources l.op)) then phi_span l else []

-- the lines behind the phis with which a block begins
abbrev pub behind_phis : Block → List Line
behind_phis b = drop (prefix_len (λ (l : Line). is_phi_op l.op) b.lines) b.lines

-- a phi behind another instruction, in the first block, or with other blocks than the predecessors
unfoldable pub bad_phis : List Name → List Block → ℕ → Block → List Span
bad_phis labels blocks i b =
    flat_map phi_span (behind_phis b)
    ++ ((if i == 0 then flat_map phi_span b.lines else [])
    ++ flat_map (wrong_sources labels (predecessors blocks b.label)) b.lines)

-- a block that has no ending line
abbrev pub is_endless : Block → Bool
is_endless b = not (list_any (λ (l : Line). is_ending l.op) b.lines)
