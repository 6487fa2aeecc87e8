-- What the body of a function is refused for, from what is found of its parts.
use Rattle.std.proofs.Common.{◌≡◌, ℕ, ◌+◌, ◌≤◌, ◌==◌, ◌||◌, nat_lt, Bool, List, [], ◌∷◌, ◌++◌, length, map, drop, Option, refl, sym, ap, ◌∙◌, arith}
use Rattle.std.specs.List.{flat_map, list_any, enumerate_from}
use Rattle.std.proofs.lemmas.List.{append-nil, drop-map, length-map}
use Rattle.pg_read_lex.specs.declared.token.Span.{Span}
use Rattle.pg_num.specs.declared.limits.TheConstants.{INSTRUCTION_LIMIT, FUNCTION_REGISTER_LIMIT}
use Rattle.pg_read_ast.specs.declared.names.Name.{Name}
use Rattle.pg_read_ast.specs.declared.nodes.BlockNode.{BlockNode}
use Rattle.pg_read_ast.specs.Syntax.{NamedType, Line, Block, Definition, Tree}
use Rattle.pg_read_ast.specs.Numbers.{numbered}
use Rattle.pg_read_ast.specs.Views.{block_of, tree_of, ty_of}
use Rattle.pg_check_types.specs.NameIndex.{known_place}
use Rattle.pg_check_types.specs.NumberedTypes.{named_types}
use Rattle.pg_check_types.specs.Resolved.{resolved}
use Rattle.pg_check_calls.specs.pg_check_names.declared.naming.OwnNames.{OwnNames}
use Rattle.pg_check_calls.specs.pg_check_names.Registers.{register_type}
use Rattle.pg_check_rules.specs.declared.fault.CheckKind.{CheckKind}
use Rattle.pg_check_rules.specs.declared.fault.CheckKind.TheVariants.{BadPhi, BadSignature, TooLarge, NoMain}
use Rattle.pg_check_rules.specs.Names.{Register, doubled, labels_of, registers_of, label_number, line_count}
use Rattle.pg_check_rules.specs.Earliest.{earliest, joined}
use Rattle.pg_check_rules.specs.ValueConditions.{Scope}
use Rattle.pg_check_rules.specs.TypeConditions.{any_large}
use Rattle.pg_check_rules.specs.LineConditions.{line_refused}
use Rattle.pg_check_rules.specs.BlockConditions.{bad_phis, is_endless}
use Rattle.pg_check_rules.specs.Conditions.{all_of, all_lines, body_types, scope_of, own_names, body_names, is_unfinished, is_too_large, body_refused}
use Rattle.pg_check_calls.specs.pg_check_values.declared.scope.LineScope.{LineScope}
use Rattle.pg_check_calls.specs.pg_check_values.Scopes.{IsLineScope}
use Rattle.pg_check_bodies.specs.BodyBlocks.{bare_blocks}
use Rattle.pg_check_bodies.specs.BodyParts.{is_large_block, whole_refused, AreOwn}
use Rattle.pg_check_bodies.proofs.LabelPlaces.{register_place}
use Rattle.pg_check_bodies.proofs.NumberedBodies.{large_body, line_count_same, unfinished_same, bare_body, phis_bare, register_names, register_types, params_count, params_within}

-- ---- names

own_registers : (types : List NamedType) (d : Definition) (o : OwnNames) → AreOwn types d o → o.registers.items ≡ map (λ (r : Register). r.name) (registers_of types (numbered types d))
own_registers types d o own =
    sym (register_names types o.registers.items o.types.items own.lengths) ∙ ap (λ rs. map (λ (r : Register). r.name) rs) own.registers

pub doubled_body : (types : List NamedType) (d : Definition) (o : OwnNames) (labels registers : List Name) (params : ℕ) (found : Option Span) → AreOwn types d o
    → labels ≡ o.labels.items → registers ≡ o.registers.items → params ≡ length d.params
    → found ≡ earliest (flat_map (doubled (labels ++ registers)) (labels ++ drop params registers))
    → found ≡ earliest (flat_map (doubled (own_names types (numbered types d))) (body_names types (numbered types d)))
doubled_body types d o labels registers params found own l r p e =
    let rs = registers_of types (numbered types d) in
    let ls = labels_of (numbered types d) in
    let names = map (λ (x : Register). x.name) rs in
    e
    ∙ ap (λ ns. earliest (flat_map (doubled (ns ++ registers)) (ns ++ drop params registers))) (l ∙ own.labels)
    ∙ ap (λ ns. earliest (flat_map (doubled (ls ++ ns)) (ls ++ drop params ns))) (r ∙ own_registers types d o own)
    ∙ ap (λ ns. earliest (flat_map (doubled (ls ++ names)) (ls ++ ns))) (drop-map (λ (x : Register). x.name) params rs)
    ∙ ap (λ n. earliest (flat_map (doubled (ls ++ names)) (ls ++ map (λ (x : Register). x.name) (drop n rs)))) (p ∙ sym (params_count types d))

-- ---- blocks

pub unfinished_body : (types : List NamedType) (d : Definition) (nodes all : List BlockNode) (found : Bool) → d.blocks ≡ map block_of nodes → all ≡ nodes
    → found ≡ ((length all == 0) || list_any is_endless (map block_of all)) → found ≡ is_unfinished (numbered types d)
unfinished_body types d nodes all found b a e =
    e
    ∙ ap (λ bs. (length bs == 0) || list_any is_endless (map block_of bs)) a
    ∙ ap (λ n. (n == 0) || list_any is_endless (map block_of nodes)) (sym (length-map nodes block_of))
    ∙ ap (λ bs. (length bs == 0) || list_any is_endless bs) (sym b)
    ∙ sym (unfinished_same types d)

pub phis_body : (types : List NamedType) (d : Definition) (nodes : List BlockNode) (blocks : List Block) (found : Option Span) → d.blocks ≡ map block_of nodes
    → blocks ≡ bare_blocks (labels_of (numbered types d)) nodes
    → found ≡ earliest (flat_map (λ (b : ℕ × Block). bad_phis (labels_of (numbered types d)) blocks b.0 b.1) (enumerate_from 0 blocks))
    → found ≡ earliest (flat_map (λ (b : ℕ × Block). bad_phis (labels_of (numbered types d)) (numbered types d).blocks b.0 b.1) (enumerate_from 0 (numbered types d).blocks))
phis_body types d nodes blocks found b a e =
    let labels = labels_of (numbered types d) in
    e
    ∙ ap (λ bs. earliest (flat_map (λ (x : ℕ × Block). bad_phis labels bs x.0 x.1) (enumerate_from 0 bs))) (a ∙ bare_body types d nodes b)
    ∙ ap (λ ss. earliest ss) (phis_bare labels (numbered types d).blocks 0 (numbered types d).blocks)

-- ---- limits

pub too_large : (m : Tree) (lines : ℕ) (d : Definition) (o : OwnNames) (nodes : List BlockNode) (large many over : Bool) (count : ℕ) → AreOwn m.types d o → d.blocks ≡ map block_of nodes
    → large ≡ list_any (is_large_block m.types) (map block_of nodes) → count ≡ length o.registers.items → many ≡ nat_lt INSTRUCTION_LIMIT (lines + line_count d)
    → over ≡ (large || nat_lt FUNCTION_REGISTER_LIMIT count || many) → over ≡ is_too_large m lines (numbered m.types d)
too_large m lines d o nodes large many over count own b l c n e =
    let rs = registers_of m.types (numbered m.types d) in
    let whole = any_large m.types (body_types (numbered m.types d)) in
    e
    ∙ ap (λ x. x || nat_lt FUNCTION_REGISTER_LIMIT count || many) (l ∙ ap (λ bs. list_any (is_large_block m.types) bs) (sym b) ∙ sym (large_body m.types d))
    ∙ ap (λ x. whole || nat_lt FUNCTION_REGISTER_LIMIT x || many) (c ∙ ap (λ ns. length ns) (own_registers m.types d o own) ∙ length-map rs (λ (r : Register). r.name))
    ∙ ap (λ x. whole || nat_lt FUNCTION_REGISTER_LIMIT (length rs) || x) (n ∙ ap (λ x. nat_lt INSTRUCTION_LIMIT (lines + x)) (sym (line_count_same m.types d)))

-- ---- lines

pub scope_is : (m : Tree) (d : Definition) (o : OwnNames) (s : LineScope) → tree_of s.values.symbols.now.tree.now ≡ m → m.types ≡ named_types s.values.types.now → AreOwn m.types d o
    → ((text : List ℕ) → known_place s.values.registers.now text ≡ label_number o.registers.items text) → s.values.register_types.now ≡ o.types.items
    → ((text : List ℕ) → known_place s.labels.now text ≡ label_number o.labels.items text) → ty_of s.result.now ≡ d.result → IsLineScope s (scope_of m (numbered m.types d))
unfolding numbered
scope_is m d o s t i own k y l r = record {
  values = record {
    tree = t;
    types = i;
    known = λ text. k text ∙ ap (λ ns. label_number ns text) (own_registers m.types d o own) ∙ register_place (registers_of m.types (numbered m.types d)) text;
    registers = ap (λ ts. map (register_type m.types) ts) y ∙ sym (register_types m.types o.registers.items o.types.items own.lengths) ∙ ap (λ rs. map (λ (x : Register). x.ty) rs) own.registers;
  };
  labels = λ text. l text ∙ ap (λ ns. label_number ns text) own.labels;
  result = ap (λ x. resolved m.types x) (sym r);
}

-- ---- the whole

no_phi_lines : (g : Scope) (ls : List Line) → flat_map (λ l. line_refused g l BadPhi) ls ≡ []
unfolding line_refused
no_phi_lines g [] = refl
no_phi_lines g (l ∷ ls) = no_phi_lines g ls

no_signature_lines : (g : Scope) (ls : List Line) → flat_map (λ l. line_refused g l BadSignature) ls ≡ []
unfolding line_refused
no_signature_lines g [] = refl
no_signature_lines g (l ∷ ls) = no_signature_lines g ls

no_large_lines : (g : Scope) (ls : List Line) → flat_map (λ l. line_refused g l TooLarge) ls ≡ []
unfolding line_refused
no_large_lines g [] = refl
no_large_lines g (l ∷ ls) = no_large_lines g ls

no_main_lines : (g : Scope) (ls : List Line) → flat_map (λ l. line_refused g l NoMain) ls ≡ []
unfolding line_refused
no_main_lines g [] = refl
no_main_lines g (l ∷ ls) = no_main_lines g ls

pub body_parts : (m : Tree) (lines : ℕ) (d : Definition) (kind : CheckKind)
    → joined (whole_refused m lines d) (all_of (line_refused (scope_of m d)) (all_lines d)) kind ≡ body_refused m lines d kind
unfolding body_refused
body_parts m lines d BadPhi = ap (λ ss. whole_refused m lines d BadPhi ++ ss) (no_phi_lines (scope_of m d) (all_lines d)) ∙ append-nil (whole_refused m lines d BadPhi)
body_parts m lines d BadSignature = no_signature_lines (scope_of m d) (all_lines d)
body_parts m lines d TooLarge = ap (λ ss. whole_refused m lines d TooLarge ++ ss) (no_large_lines (scope_of m d) (all_lines d)) ∙ append-nil (whole_refused m lines d TooLarge)
body_parts m lines d NoMain = no_main_lines (scope_of m d) (all_lines d)
body_parts m lines d _ = refl

pub registers_within : (types : List NamedType) (d : Definition) (o : OwnNames) (registers : List Name) (params : ℕ) → AreOwn types d o → registers ≡ o.registers.items
    → params ≡ length d.params → params ≤ length registers
registers_within types d o registers params own r p =
    let count : length registers ≡ length (registers_of types (numbered types d)) =
    ap (λ ns. length ns) (r ∙ own_registers types d o own) ∙ length-map (registers_of types (numbered types d)) (λ (x : Register). x.name) in
    omega (arith, params_within types d)
