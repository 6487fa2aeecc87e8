-- The numbers of an accepted tree's program have 32 bits, and its sizes are within their limits.
use Rattle.std.proofs.Common.{◌≡◌, ℕ, zero, suc, ◌+◌, ◌≤◌, List, [], ◌∷◌, ◌++◌, length, map, take, true, false, ◌||◌, refl, ap, ◌∙◌, subst, arith, nat_lt}
use Rattle.std.specs.Prelude.{slice_get, Some, sum_by, nat_le}
use Rattle.std.specs.List.{flat_map, list_any, AllByRecursion}
use Rattle.std.proofs.lemmas.Bool.{or_parts}
use Rattle.std.proofs.lemmas.Grind.{flat_map-append}
use Rattle.std.proofs.lemmas.List.{take_all}
use Rattle.std.proofs.lemmas.List.Sums.{sum_by-cons}
use Rattle.std.proofs.lemmas.Option.{same_Some}
use Rattle.pg_num.specs.declared.limits.TheConstants.{GLOBAL_LIMIT, INSTRUCTION_LIMIT, FUNCTION_REGISTER_LIMIT}
use Rattle.pg_num.specs.declared.layout.TheConstants.{GLOBALS_END}
use Rattle.pg_read_ast.specs.Syntax.{Ty, Line, Block, NamedType, Variable, Definition, Tree}
use Rattle.pg_read_ast.specs.Numbers.{each_at, line_at, behind_line, block_at, behind_block, behind_all, behind_param, after, numbered}
use Rattle.pg_check_rules.specs.declared.fault.CheckKind.TheVariants.{TooLarge}
use Rattle.pg_check_rules.specs.Written.{const_types, is_ending}
use Rattle.pg_check_rules.specs.TypeConditions.{any_large}
use Rattle.pg_check_rules.specs.LineConditions.{line_types}
use Rattle.pg_check_rules.specs.Names.{registers_of, line_count, first_line}
use Rattle.pg_check_rules.specs.Constants.{start_granule}
use Rattle.pg_check_rules.specs.Numbered.{named_functions}
use Rattle.pg_check_rules.specs.Conditions.{global_types, globals_end, global_refused, body_types, is_too_large, body_refused, IsUnrefused}
use Rattle.pg_law_numbering.proofs.EachElement.{all_front, all_behind}
use Rattle.pg_law_numbering.proofs.UnrefusedParts.{at_if_none, globals_pass, bodies_pass}
use Rattle.pg_law_numbering.proofs.NamedDefinitions.{blocks_kept, lines_kept, params_kept}
use Rattle.pg_law_numbering.proofs.NumberedPlaces.{functions_count, instrs_total}
use Rattle.pg_law_numbering.proofs.Headers.{named_there}
use Rattle.pg_law_numbering.proofs.Globals.{start_below, few_globals, globals_count}
use Rattle.pg_law_numbering.proofs.FitsFunctions.{has_ending, few_functions, few_instrs}
use Rattle.pg_law_numbering.proofs.Registers.{scalars_count, params_within, few_registers}
use Rattle.pg_check_constants.specs.Sizes.{TypeFits, GlobalFits, GlobalsFit}
use Rattle.pg_check_program.specs.Room.{Each, BlockFits, FunctionFits, FunctionsFit, ProgramFits, blocks_in}
use Rattle.pg_check_program.proofs.SmallTypes.{types_fit}
use Rattle.pg_check_program.proofs.SmallUses.{op_fits, const_fits}

-- ---- the types of lines, whatever their names

abbrev line_tys : Line → List Ty
line_tys l = line_types l.op

abbrev block_tys : Block → List Ty
block_tys b = flat_map line_tys b.lines

lines_same : (types : List NamedType) (next : ℕ) (ls : List Line) → flat_map line_tys (each_at (behind_line types) (line_at types) next ls) ≡ flat_map line_tys ls
lines_same types next [] = refl
lines_same types next (l ∷ ls) = ap (λ (ts : List Ty). line_tys l ++ ts) (lines_same types (behind_line types next l) ls)

blocks_same : (types : List NamedType) (next : ℕ) (bs : List Block) → flat_map line_tys (flat_map (λ (b : Block). b.lines) (each_at (behind_block types) (block_at types) next bs))
    ≡ flat_map block_tys bs
unfolding block_at
blocks_same types next [] = refl
blocks_same types next (b ∷ bs) =
    let rest = each_at (behind_block types) (block_at types) (behind_block types next b) bs in
    flat_map-append line_tys (block_at types next b).lines (flat_map (λ (c : Block). c.lines) rest)
    ∙ ap (λ (ts : List Ty). ts ++ flat_map line_tys (flat_map (λ (c : Block). c.lines) rest)) (lines_same types (after next b.label) b.lines)
    ∙ ap (λ (ts : List Ty). block_tys b ++ ts) (blocks_same types (behind_block types next b) bs)

types_same : (types : List NamedType) (d : Definition) → body_types (numbered types d) ≡ flat_map block_tys d.blocks
unfolding numbered
types_same types d = blocks_same types (behind_all behind_param 0 d.params) d.blocks

-- what holds of all that the elements of a list have holds of what each has
piece : {X Y : Type 0} (P : Y → Type 0) (g : X → List Y) (xs : List X) → AllByRecursion P (flat_map g xs) → (i : ℕ) (x : X) → slice_get xs i ≡ Some x → AllByRecursion P (g x)
piece P g [] h i x e = absurd cc
piece {X} P g (y ∷ ys) h zero x e = subst (λ (q : X). AllByRecursion P (g q)) (same_Some y x e) (all_front P (g y) (flat_map g ys) h)
piece P g (y ∷ ys) h (suc i) x e = piece P g ys (all_behind P (g y) (flat_map g ys) h) i x e

-- ---- counts

-- where each of some things has at least one of others
sum_more : {X : Type 0} (f g : X → ℕ) (xs : List X) → ((i : ℕ) (x : X) → slice_get xs i ≡ Some x → f x ≤ g x) → sum_by f xs ≤ sum_by g xs
sum_more f g [] h = omega arith
sum_more f g (x ∷ xs) h = omega (arith, sum_by-cons f x xs, sum_by-cons g x xs, h 0 x refl, sum_more f g xs (λ i y e. h (suc i) y e))

abbrev one : Block → ℕ
one b = 1

ones : (bs : List Block) → sum_by one bs ≡ length bs
ones [] = refl
ones (b ∷ bs) = omega (arith, sum_by-cons one b bs, ones bs)

some_lines : (ls : List Line) → list_any (λ (l : Line). is_ending l.op) ls ≡ true → 1 ≤ length ls
some_lines [] e = absurd cc
some_lines (l ∷ ls) e = omega arith

map_count : {X Y : Type 0} (f : X → Y) (xs : List X) → length (map f xs) ≡ length xs
map_count f [] = refl
map_count f (x ∷ xs) = ap suc (map_count f xs)

module _ (m : Tree) (accepted : IsUnrefused m) where
  -- ---- globals

  small_global : (i : ℕ) (v : Variable) → slice_get m.globals i ≡ Some v → any_large m.types (global_types v) ≡ false
  unfolding global_refused
  small_global i v e =
      let large = any_large m.types (global_types v) in
      let over = nat_le GLOBAL_LIMIT i in
      let behind = nat_lt GLOBALS_END (globals_end m.types (take (i + 1) m.globals)) in
      (or_parts large over (or_parts (large || over) behind (at_if_none (large || over || behind) v.name.span (globals_pass m accepted i v e TooLarge))).0).0

  global_fits : (i : ℕ) (v : Variable) → slice_get m.globals i ≡ Some v → GlobalFits m.types v
  global_fits i v e =
      let all = types_fit m accepted (global_types v) (small_global i v e) in
      record { ty = all.0; value = const_fits m.types v.ty v.value (all_behind (TypeFits m.types) (const_types v.value) _ all.1) }

  globals_fit : GlobalsFit m.types m.globals
  unfolding start_granule globals_end
  globals_fit =
      let whole = take_all (length m.globals) m.globals (omega arith) in
      record {
        each = global_fits;
        ended = subst (λ (vs : List Variable). globals_end m.types vs ≤ GLOBALS_END) whole (start_below m accepted (length m.globals) (omega arith));
      }

  -- ---- functions

  module _ (f : ℕ) (d : Definition) (there : slice_get m.functions f ≡ Some d) where
    named : slice_get (named_functions m) f ≡ Some (numbered m.types d)
    named = named_there m f d there

    small_body : any_large m.types (body_types (numbered m.types d)) ≡ false
    unfolding body_refused
    small_body =
        let large = any_large m.types (body_types (numbered m.types d)) in
        let registers = nat_lt FUNCTION_REGISTER_LIMIT (length (registers_of m.types (numbered m.types d))) in
        let lines = nat_lt INSTRUCTION_LIMIT (first_line m.functions f + line_count (numbered m.types d)) in
        let small = at_if_none (is_too_large m (first_line m.functions f) (numbered m.types d)) (numbered m.types d).name.span (bodies_pass m accepted f (numbered m.types d) named TooLarge) in
        (or_parts large registers (or_parts (large || registers) lines small).0).0

    blocks_fit : Each (BlockFits m.types) d.blocks
    blocks_fit i b e j l h =
        let all = subst (λ (ts : List Ty). AllByRecursion (TypeFits m.types) ts) (types_same m.types d) (types_fit m accepted (body_types (numbered m.types d)) small_body) in
        op_fits m.types l.op (piece (TypeFits m.types) line_tys b.lines (piece (TypeFits m.types) block_tys d.blocks all i b e) j l h)

    function_fits : FunctionFits m.types d
    function_fits = record {
      params = omega (
        arith,
        params_kept m.types d,
        params_within m accepted f (numbered m.types d) named,
        scalars_count m accepted f (numbered m.types d) named,
        few_registers m accepted f (numbered m.types d) named,
      );
      registers = few_registers m accepted f (numbered m.types d) named;
      blocks = blocks_fit;
    }

    -- each basic block has a line
    fewer_blocks : blocks_in d ≤ line_count d
    fewer_blocks =
        let s = sum_more one (λ (b : Block). length b.lines) (numbered m.types d).blocks (λ i b e. some_lines b.lines (has_ending m accepted f (numbered m.types d) i b named e)) in
        omega (arith, s, ones (numbered m.types d).blocks, blocks_kept m.types d, lines_kept m.types d)

  few_lines : sum_by line_count m.functions ≤ INSTRUCTION_LIMIT
  few_lines = omega (arith, few_instrs m accepted, instrs_total m)

  functions_fit : FunctionsFit m.types m.functions
  functions_fit = record {
    few = omega (arith, few_functions m accepted, functions_count m, map_count (numbered m.types) m.functions);
    each = function_fits;
    blocks = omega (arith, sum_more blocks_in line_count m.functions fewer_blocks, few_lines);
    lines = few_lines;
  }

  pub program_fits : ProgramFits m
  program_fits = record {
    few_globals = omega (arith, few_globals m accepted, globals_count m accepted);
    globals = globals_fit;
    functions = functions_fit;
  }
