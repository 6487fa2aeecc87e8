-- The functions and basic blocks of an accepted tree's program are those of a program, and so is its main.
use Rattle.std.proofs.Common.{◌≡◌, ℕ, zero, suc, ◌+◌, ◌-◌, ◌<◌, ◌≤◌, List, [], ◌∷◌, length, map, take, drop, get_or, Bool, true, false, ◌||◌, ◌==◌}
use Rattle.std.proofs.Common.{refl, sym, ap, ◌∙◌, subst, arith, cond, length-append}
use Rattle.std.specs.Prelude.{slice_get, Option, Some, None, sum_by, unwrap_or, nat_le}
use Rattle.std.specs.List.{list_any, flat_map, filter_map, cons_option, prefix_len, position}
use Rattle.std.specs.Option.{option_map}
use Rattle.std.specs.Str.{bytes_eq}
use Rattle.std.proofs.lemmas.Bool.{or_parts, leb-false, and_parts}
use Rattle.std.proofs.lemmas.List.Sums.{sum_by-cons, prefix_len_passes}
use Rattle.std.proofs.lemmas.List.Folds.{length-prefix_len}
use Rattle.std.proofs.lemmas.Option.{slice_get_within, slice_get-get_or, same_Some}
use Rattle.pg_num.specs.declared.limits.TheConstants.{FUNCTION_LIMIT, INSTRUCTION_LIMIT, FUNCTION_REGISTER_LIMIT}
use Rattle.pg_num.specs.declared.width.Width.TheVariants.{W32}
use Rattle.pg_ir.specs.declared.value.Scalar.TheVariants as scalar
use Rattle.pg_ir.specs.declared.function.Function.{Function}
use Rattle.pg_ir.specs.declared.function.Block as numbered_block
use Rattle.pg_ir.specs.declared.instr.Instr.{Instr}
use Rattle.pg_ir.specs.Program.{first_of, first_in, end_of, end_in}
use Rattle.pg_ir.specs.Edges.{is_phi, instrs_of, phis_of}
use Rattle.pg_ir.specs.WellFormed.{FitsFunction, FitsBlock, IsInFunction, IsInBlock, IsMain}
use Rattle.pg_read_ast.specs.Syntax.{Line, Block, Param, ParamOf, Definition, Tree}
use Rattle.pg_read_ast.specs.Numbers.{gives, numbered}
use Rattle.pg_check_rules.specs.declared.fault.CheckKind.TheVariants.{NoBlock, TooLarge}
use Rattle.pg_check_rules.specs.Names.{Register, line_register, block_registers, param_register, registers_of, register, result_type, line_count, first_block, first_line}
use Rattle.pg_check_rules.specs.Written.{is_ending, is_phi_op}
use Rattle.pg_check_types.specs.Resolved.{resolved}
use Rattle.pg_check_rules.specs.BlockConditions.{is_endless}
use Rattle.pg_check_rules.specs.TypeConditions.{any_large}
use Rattle.pg_check_rules.specs.CallConditions.{definition_header}
use Rattle.pg_check_rules.specs.LineConditions.{line_refused}
use Rattle.pg_check_rules.specs.Conditions.{all_of, head_types, scope_of, all_lines, is_unfinished, body_refused, definition_refused, main_name, is_result, are_params, IsUnrefused}
use Rattle.pg_check_rules.specs.Numbered.{named_functions, function_at, instr_at, program_of}
use Rattle.pg_law_numbering.proofs.FlattenedLists.{sum_within, there_at, front_at, rest_at}
use Rattle.pg_law_numbering.proofs.UnrefusedParts.{front_none, at_if_none, bodies_pass, definitions_pass, named_from, main_is}
use Rattle.pg_law_numbering.proofs.NamedDefinitions.{block_count, first_block_named, first_line_named, all_lines_named, has_name}
use Rattle.pg_law_numbering.proofs.NumberedPlaces.{IsFunctionOf, function_found, function_there, functions_count, block_of, lines_in, IsBlockOf, block_there, block_found, blocks_total, line_there}
use Rattle.pg_law_numbering.proofs.NumberedPlaces.{instrs_total}
use Rattle.pg_law_numbering.proofs.Headers.{main_header, named_there}
use Rattle.pg_law_numbering.proofs.Scalars.{result_is}
use Rattle.pg_law_numbering.proofs.AcceptedLines.{IsLine}
use Rattle.pg_law_numbering.proofs.LineOperations.{passes}
use Rattle.pg_law_numbering.proofs.FirstPassing.{from_any, first_position}
use Rattle.pg_law_numbering.proofs.PhisAndEnds.{op_phi, phi_gives}
use Rattle.pg_law_numbering.proofs.Registers.{scalars_count, params_within, few_registers, few_lines}
use Rattle.pg_law_numbering.proofs.ChoiceTests.{not_false, none_at}

some_number : (n : ℕ) → (n == 0) ≡ false → 0 < n
some_number zero e = absurd cc
some_number (suc n) e = omega arith

module _ (m : Tree) (accepted : IsUnrefused m) where
  finished : (f : ℕ) (d : Definition) → slice_get (named_functions m) f ≡ Some d → is_unfinished d ≡ false
  unfolding body_refused
  finished f d e = at_if_none (is_unfinished d) d.name.span (front_none _ (all_of (line_refused (scope_of m d)) (all_lines d) NoBlock) (bodies_pass m accepted f d e NoBlock))

  -- ---- functions

  blocks_within : (f : ℕ) (d : Definition) → slice_get (named_functions m) f ≡ Some d → first_block m.functions f + length d.blocks ≤ length (program_of m).blocks
  blocks_within f d e = omega (arith, blocks_total m, sum_within block_count (named_functions m) f d e, first_block_named m f)

  pub in_function : (f : ℕ) (d : Definition) (i : ℕ) (b : Block) → slice_get (named_functions m) f ≡ Some d → slice_get d.blocks i ≡ Some b
      → IsInFunction f (slice_get (program_of m).blocks (first_block m.functions f + i))
  in_function f d i b e h = subst (IsInFunction f) (sym (block_there m f d i b e h)) refl

  pub fits_function : (f : ℕ) (x : Function) → slice_get (program_of m).functions f ≡ Some x → FitsFunction (program_of m) f x
  fits_function f x e = by (function_found m f x e)
    where
      holds : (r : IsFunctionOf m f x) (b : ℕ) → first_block m.functions f ≤ b → b < first_block m.functions f + length r.plain.blocks → IsInFunction f (slice_get (program_of m).blocks b)
      holds r b l h =
          let i = b - first_block m.functions f in
          let at = there_at r.plain.blocks i (omega (arith, l, h)) in
          let z : first_block m.functions f + i ≡ b = omega (arith, l) in
          subst (λ (q : ℕ). IsInFunction f (slice_get (program_of m).blocks q)) z (in_function f r.plain i at.0 r.there at.1)

      fits : (r : IsFunctionOf m f x) → FitsFunction (program_of m) f (function_at m (first_block m.functions f) r.plain)
      fits r = record {
        some = some_number (length r.plain.blocks) (or_parts (length r.plain.blocks == 0) (list_any is_endless r.plain.blocks) (finished f r.plain r.there)).0;
        within = blocks_within f r.plain r.there;
        holds = holds r;
        params = params_within m accepted f r.plain r.there;
        few = omega (arith, scalars_count m accepted f r.plain r.there, few_registers m accepted f r.plain r.there);
      }

      by : IsFunctionOf m f x → FitsFunction (program_of m) f x
      by r = subst (FitsFunction (program_of m) f) (sym r.is) (fits r)

  -- ---- basic blocks

  some_lines : (ls : List Line) → list_any (λ (l : Line). is_ending l.op) ls ≡ true → 0 < length ls
  some_lines [] e = absurd cc
  some_lines (l ∷ ls) e = omega arith

  -- a block has a line that ends it
  pub has_ending : (f : ℕ) (d : Definition) (i : ℕ) (b : Block) → slice_get (named_functions m) f ≡ Some d → slice_get d.blocks i ≡ Some b
      → list_any (λ (l : Line). is_ending l.op) b.lines ≡ true
  has_ending f d i b e h =
      not_false (list_any (λ (l : Line). is_ending l.op) b.lines) (none_at is_endless d.blocks i b (or_parts (length d.blocks == 0) (list_any is_endless d.blocks) (finished f d e)).1 h)

  -- the lines of a block are lines of the program
  pub lines_within : (f : ℕ) (d : Definition) (i : ℕ) (b : Block) → slice_get (named_functions m) f ≡ Some d → slice_get d.blocks i ≡ Some b
      → first_line m.functions f + sum_by lines_in (take i d.blocks) + length b.lines ≤ length (program_of m).instrs
  lines_within f d i b e h =
      let a : sum_by lines_in (take i d.blocks) + length b.lines ≤ line_count d = sum_within lines_in d.blocks i b h in
      let c : sum_by line_count (take f (named_functions m)) + line_count d ≤ sum_by line_count (named_functions m) = sum_within line_count (named_functions m) f d e in
      omega (arith, a, c, first_line_named m f, all_lines_named m, instrs_total m)

  pub in_block : (f : ℕ) (d : Definition) (i : ℕ) (b : Block) (j : ℕ) (l : Line) → slice_get (named_functions m) f ≡ Some d → slice_get d.blocks i ≡ Some b
      → slice_get b.lines j ≡ Some l
      → IsInBlock (first_block m.functions f + i) (slice_get (program_of m).instrs (first_line m.functions f + sum_by lines_in (take i d.blocks) + j))
  in_block f d i b j l e h g = subst (IsInBlock (first_block m.functions f + i)) (sym (line_there m f d i b j l e h g)) refl

  -- ---- few phis

  -- where all up to a place are kept, at least as many are kept
  kept_count : {X Y : Type 0} (h : X → Option Y) (xs : List X) (n : ℕ) → n ≤ length xs → ((j : ℕ) (x : X) → j < n → slice_get xs j ≡ Some x → (y : Y) × (h x ≡ Some y))
      → n ≤ length (filter_map h xs)
  kept_count h xs zero l g = omega arith
  kept_count h [] (suc n) l g = absurd (omega (arith, l))
  kept_count {X} {Y} h (x ∷ xs) (suc n) l g =
      let r = g 0 x (omega arith) refl in
      let more = kept_count h xs n (omega (arith, l)) (λ (j : ℕ) (y : X) k e. g (suc j) y (omega (arith, k)) e) in
      let e : length (cons_option (h x) (filter_map h xs)) ≡ suc (length (filter_map h xs)) = ap (λ (o : Option Y). length (cons_option o (filter_map h xs))) r.1 in
      omega (arith, more, e)

  piece_length : {X Y : Type 0} (g : X → List Y) (xs : List X) (i : ℕ) (x : X) → slice_get xs i ≡ Some x → length (g x) ≤ length (flat_map g xs)
  piece_length g [] i x e = absurd cc
  piece_length {X} g (y ∷ ys) zero x e =
      let same : length (g y) ≡ length (g x) = ap (λ (q : X). length (g q)) (same_Some y x e) in
      omega (arith, same, length-append (g y) (flat_map g ys))
  piece_length g (y ∷ ys) (suc i) x e = omega (arith, piece_length g ys i x e, length-append (g y) (flat_map g ys))

  own_registers : (d : Definition) (i : ℕ) (b : Block) → slice_get d.blocks i ≡ Some b → length (block_registers m.types b) ≤ length (registers_of m.types d)
  unfolding registers_of
  own_registers d i b e =
      omega (arith, piece_length (block_registers m.types) d.blocks i b e, length-append (filter_map (param_register m.types) d.params) (flat_map (block_registers m.types) d.blocks))

  phi_register : (f : ℕ) (d : Definition) (i : ℕ) (b : Block) (j : ℕ) (l : Line) → slice_get (named_functions m) f ≡ Some d → slice_get d.blocks i ≡ Some b
      → slice_get b.lines j ≡ Some l → is_phi_op l.op ≡ true → (r : Register) × (line_register m.types l ≡ Some r)
  phi_register f d i b j l e h g t =
      let at : IsLine m d l = record { function = f; there = e; place = i; block = b; within = h; inner = j; inside = g } in
      let given : gives m.types l.op ≡ true = phi_gives m d l.op (passes m accepted d l at) t in
      let n = named_from m f d e in
      let name = has_name m.types n.plain i b j l (subst (λ (q : Definition). slice_get q.blocks i ≡ Some b) n.named h) g given in (
        register (result_type m.types l.op) name.0,
        ap (λ (c : Bool). cond c (option_map (register (result_type m.types l.op)) l.name) None) given ∙ ap (λ o. option_map (register (result_type m.types l.op)) o) name.1,
      )

front_length : {X : Type 0} (n : ℕ) (xs : List X) → length (take n xs) ≤ n
front_length zero xs = omega arith
front_length (suc n) [] = omega arith
front_length (suc n) (x ∷ xs) = omega (arith, front_length n xs)

prefix_within : {X : Type 0} (p : X → Bool) (xs : List X) → prefix_len p xs ≤ length xs
prefix_within p [] = omega arith
prefix_within p (x ∷ xs) = by (p x) (prefix_within p xs)
  where
    by : (b : Bool) → prefix_len p xs ≤ length xs → cond b (1 + prefix_len p xs) 0 ≤ suc (length xs)
    by true h = omega (arith, h)
    by false h = omega arith

module _ (m : Tree) (accepted : IsUnrefused m) where
  module _ (f : ℕ) (d : Definition) (i : ℕ) (b : Block) (e : slice_get (named_functions m) f ≡ Some d) (h : slice_get d.blocks i ≡ Some b) where
    pub first_is : first_of (program_of m) (first_block m.functions f + i) ≡ first_line m.functions f + sum_by lines_in (take i d.blocks)
    unfolding first_of
    first_is = ap (λ (o : Option numbered_block.Block). first_in o) (block_there m f d i b e h)

    pub end_is : end_of (program_of m) (first_block m.functions f + i) ≡ first_line m.functions f + sum_by lines_in (take i d.blocks) + length b.lines
    unfolding end_of
    end_is = ap (λ (o : Option numbered_block.Block). end_in o) (block_there m f d i b e h)

    -- an instruction of the block is that of a line
    pub instr_in : (j : ℕ) (l : Line) → slice_get b.lines j ≡ Some l
        → slice_get (instrs_of (program_of m) (first_block m.functions f + i)) j ≡ Some (instr_at (scope_of m d) (first_block m.functions f) i l)
    unfolding instrs_of
    instr_in j l g =
        let p = program_of m in
        let k = first_block m.functions f + i in
        let in_range : j < end_of p k - first_of p k = omega (arith, first_is, end_is, slice_get_within b.lines j l g) in
        front_at (end_of p k - first_of p k) (drop (first_of p k) p.instrs) j in_range
        ∙ rest_at (first_of p k) p.instrs j
        ∙ ap (λ (q : ℕ). slice_get p.instrs (q + j)) first_is
        ∙ line_there m f d i b j l e h g

    pub instrs_length : length (instrs_of (program_of m) (first_block m.functions f + i)) ≤ length b.lines
    unfolding instrs_of
    instrs_length =
        let p = program_of m in
        let k = first_block m.functions f + i in
        omega (arith, front_length (end_of p k - first_of p k) (drop (first_of p k) p.instrs), first_is, end_is)

    phis_before : (j : ℕ) (l : Line) → j < prefix_len (λ (x : Instr). is_phi x.op) (instrs_of (program_of m) (first_block m.functions f + i)) → slice_get b.lines j ≡ Some l
        → is_phi_op l.op ≡ true
    phis_before j l k g =
        let x = instr_at (scope_of m d) (first_block m.functions f) i l in
        let at = instr_in j l g in
        let same : get_or (instrs_of (program_of m) (first_block m.functions f + i)) j x ≡ x =
        same_Some _ x (sym (slice_get-get_or (instrs_of (program_of m) (first_block m.functions f + i)) j x (slice_get_within (instrs_of (program_of m) (first_block m.functions f + i)) j x at))
        ∙ at) in
        let t : is_phi x.op ≡ true = subst (λ (y : Instr). is_phi y.op ≡ true) same
        (prefix_len_passes (λ (y : Instr). is_phi y.op) (instrs_of (program_of m) (first_block m.functions f + i)) j x k) in
        sym (op_phi (scope_of m d) (first_block m.functions f) l.op) ∙ t

    pub few_phis : length (phis_of (program_of m) (first_block m.functions f + i)) ≤ FUNCTION_REGISTER_LIMIT
    unfolding phis_of
    few_phis =
        let xs = instrs_of (program_of m) (first_block m.functions f + i) in
        let n = prefix_len (λ (x : Instr). is_phi x.op) xs in
        let count : length (take n xs) ≡ n = length-prefix_len (λ (x : Instr). is_phi x.op) xs in
        let kept : n ≤ length (block_registers m.types b) = kept_count m accepted (line_register m.types) b.lines n
        (omega (arith, prefix_within (λ (x : Instr). is_phi x.op) xs, instrs_length)) (λ (j : ℕ) (l : Line) k g. phi_register m accepted f d i b j l e h g (phis_before j l k g)) in
        omega (arith, count, kept, own_registers m accepted d i b h, few_registers m accepted f d e)

  pub fits_block : (k : ℕ) (x : numbered_block.Block) → slice_get (program_of m).blocks k ≡ Some x → FitsBlock (program_of m) k x
  fits_block k x at = by (block_found m k x at)
    where
      holds : (r : IsBlockOf m k x) (i : ℕ) → first_line m.functions r.function + sum_by lines_in (take r.place r.definition.blocks) ≤ i
          → i < first_line m.functions r.function + sum_by lines_in (take r.place r.definition.blocks) + length r.plain.lines → IsInBlock k (slice_get (program_of m).instrs i)
      holds r i l h =
          let from = first_line m.functions r.function + sum_by lines_in (take r.place r.definition.blocks) in
          let j = i - from in
          let line = there_at r.plain.lines j (omega (arith, l, h)) in
          let z : from + j ≡ i = omega (arith, l) in
          subst (λ (q : ℕ). IsInBlock k (slice_get (program_of m).instrs q)) z
          (subst (λ (q : ℕ). IsInBlock q (slice_get (program_of m).instrs (from + j))) (sym r.number)
          (in_block m accepted r.function r.definition r.place r.plain j line.0 r.there r.within line.1))

      fits : (r : IsBlockOf m k x) → FitsBlock (program_of m) k (block_of r.function (first_line m.functions r.function + sum_by lines_in (take r.place r.definition.blocks)) r.plain)
      fits r = record {
        function = omega (arith, functions_count m, slice_get_within (named_functions m) r.function r.definition r.there);
        some = some_lines m accepted r.plain.lines (has_ending m accepted r.function r.definition r.place r.plain r.there r.within);
        within = lines_within m accepted r.function r.definition r.place r.plain r.there r.within;
        holds = holds r;
        few_phis = subst (λ (q : ℕ). length (phis_of (program_of m) q) ≤ FUNCTION_REGISTER_LIMIT) (sym r.number) (few_phis r.function r.definition r.place r.plain r.there r.within);
      }

      by : IsBlockOf m k x → FitsBlock (program_of m) k x
      by r = subst (FitsBlock (program_of m) k) (sym r.is) (fits r)

  -- ---- main

  no_params : (ps : List Param) → are_params m.types [] (map (λ (p : Param). ParamOf p) ps) ≡ true → length ps ≡ 0
  no_params [] e = refl
  no_params (p ∷ ps) e = absurd cc

  main_name_kept : (d : Definition) → (numbered m.types d).name.text ≡ d.name.text
  unfolding numbered
  main_name_kept d = refl

  pub fits_main : IsMain (slice_get (program_of m).functions (program_of m).main)
  unfolding program_of
  fits_main =
      let first = from_any (λ (d : Definition). bytes_eq d.name.text main_name) m.functions (main_is m accepted) in
      let f = first.0 in
      let d = numbered m.types first.1 in
      let number : unwrap_or (position (λ (x : Definition). bytes_eq x.name.text main_name) m.functions) 0 ≡ f =
      ap (λ (o : Option ℕ). unwrap_or o 0) (first_position (λ (x : Definition). bytes_eq x.name.text main_name) m.functions f first.1 first.2) in
      let there : slice_get (named_functions m) f ≡ Some d = named_there m f first.1 first.2.there in
      let named : bytes_eq d.name.text main_name ≡ true = subst (λ (t : List ℕ). bytes_eq t main_name ≡ true) (sym (main_name_kept first.1)) first.2.passes in
      let h = main_header m accepted f d there named in
      let p = and_parts (is_result (Some (scalar.Int W32)) (resolved m.types d.result)) (are_params m.types [] (map (λ (q : Param). ParamOf q) d.params)) h in
      subst (λ (q : ℕ). IsMain (slice_get (program_of m).functions q)) (sym number)
      (subst IsMain (sym (function_there m f d there)) (no_params d.params p.1, result_is (Some (scalar.Int W32)) (resolved m.types d.result) p.0))

  -- ---- limits

  small_place : (n : ℕ) (d : Definition) → slice_get (named_functions m) n ≡ Some d → (any_large m.types (head_types (definition_header d)) || nat_le FUNCTION_LIMIT n) ≡ false
  unfolding definition_refused
  small_place n d e = at_if_none (any_large m.types (head_types (definition_header d)) || nat_le FUNCTION_LIMIT n) d.name.span (definitions_pass m accepted n d e TooLarge)

  place_below : (n : ℕ) (d : Definition) → slice_get (named_functions m) n ≡ Some d → n < FUNCTION_LIMIT
  place_below n d e = leb-false FUNCTION_LIMIT n (or_parts (any_large m.types (head_types (definition_header d))) (nat_le FUNCTION_LIMIT n) (small_place n d e)).1

  pub few_functions : length (program_of m).functions ≤ FUNCTION_LIMIT
  few_functions = by (length (named_functions m)) refl
    where
      by : (n : ℕ) → length (named_functions m) ≡ n → length (program_of m).functions ≤ FUNCTION_LIMIT
      by zero e = omega (arith, functions_count m, e)
      by (suc n) e = let d = there_at (named_functions m) n (omega (arith, e)) in omega (arith, functions_count m, e, place_below n d.0 d.1)

  take_whole : {X : Type 0} (size : X → ℕ) (xs : List X) (n : ℕ) (x : X) → length xs ≡ suc n → slice_get xs n ≡ Some x → sum_by size (take n xs) + size x ≡ sum_by size xs
  take_whole size [] n x e h = absurd cc
  take_whole size (y ∷ []) zero x e h = let same : size y ≡ size x = ap size (same_Some y x h) in omega (arith, same, sum_by-cons size y [])
  take_whole size (y ∷ z ∷ zs) zero x e h = absurd (omega (arith, e))
  take_whole size (y ∷ ys) (suc n) x e h = omega (arith, take_whole size ys n x (omega (arith, e)) h, sum_by-cons size y (take n ys), sum_by-cons size y ys)

  pub few_instrs : length (program_of m).instrs ≤ INSTRUCTION_LIMIT
  few_instrs = by (length (named_functions m)) refl
    where
      no_functions : (ds : List Definition) → length ds ≡ 0 → sum_by line_count ds ≡ 0
      no_functions [] e = refl
      no_functions (d ∷ ds) e = absurd cc

      by : (n : ℕ) → length (named_functions m) ≡ n → length (program_of m).instrs ≤ INSTRUCTION_LIMIT
      by zero e = omega (arith, instrs_total m, all_lines_named m, no_functions (named_functions m) e)
      by (suc n) e =
          let d = there_at (named_functions m) n (omega (arith, e)) in
          omega (arith, instrs_total m, all_lines_named m, take_whole line_count (named_functions m) n d.0 e d.1, first_line_named m n, few_lines m accepted n d.0 d.1)
