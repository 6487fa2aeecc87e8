-- The registers of a function of an accepted tree: their types are scalars, and each has its number.
use Rattle.std.proofs.Common.{◌≡◌, ℕ, zero, suc, ◌+◌, ◌≤◌, List, [], ◌∷◌, length, Bool, true, false, ◌||◌, refl, sym, ap, ◌∙◌, subst, arith, ◌⊎◌, inl}
use Rattle.std.proofs.Common.{inr, cond, nat_lt, length-append}
use Rattle.std.specs.Prelude.{slice_get, Option, Some, None}
use Rattle.std.specs.List.{filter_map, flat_map}
use Rattle.std.specs.Option.{option_map}
use Rattle.std.proofs.lemmas.Bool.{or_parts, ltb-false}
use Rattle.std.proofs.lemmas.Option.{slice_get_within, same_Some}
use Rattle.pg_num.specs.declared.limits.TheConstants.{FUNCTION_REGISTER_LIMIT, INSTRUCTION_LIMIT}
use Rattle.pg_ir.specs.declared.value.Scalar.{Scalar}
use Rattle.pg_ir.specs.declared.function.Function.{Function}
use Rattle.pg_ir.specs.Program.{types_of, types_in, result_of, result_in}
use Rattle.pg_read_ast.specs.declared.names.Name.{Name}
use Rattle.pg_read_ast.specs.Syntax.{Line, Block, Param, Definition, Tree}
use Rattle.pg_read_ast.specs.Numbers.{gives}
use Rattle.pg_check_rules.specs.declared.fault.CheckKind.TheVariants.{TooLarge}
use Rattle.pg_check_types.specs.Resolved.{ResolvedType, resolved}
use Rattle.pg_check_rules.specs.Names.{Register, register, result_type, param_register, line_register, block_registers, registers_of, is_called, register_named, register_number, first_line}
use Rattle.pg_check_rules.specs.Names.{line_count}
use Rattle.pg_check_rules.specs.TypeConditions.{any_large}
use Rattle.pg_check_rules.specs.Conditions.{body_types, is_too_large, body_refused, IsUnrefused}
use Rattle.pg_check_rules.specs.Numbered.{scalar_in, named_functions, program_of}
use Rattle.pg_law_numbering.specs.Parsed.{IsInOrder}
use Rattle.pg_law_numbering.proofs.FlattenedLists.{append_cases, front_get, behind_get}
use Rattle.pg_law_numbering.proofs.UnrefusedParts.{at_if_none, bodies_pass, named_from}
use Rattle.pg_law_numbering.proofs.NamedDefinitions.{has_name, has_param_name}
use Rattle.pg_law_numbering.proofs.NumberedPlaces.{function_there}
use Rattle.pg_law_numbering.proofs.Scalars.{IsScalarOf}
use Rattle.pg_law_numbering.proofs.Headers.{param_scalar}
use Rattle.pg_law_numbering.proofs.AcceptedLines.{IsLine}
use Rattle.pg_law_numbering.proofs.LineOperations.{passes}
use Rattle.pg_law_numbering.proofs.ScalarResults.{result_scalar}
use Rattle.pg_law_numbering.proofs.FilteredLists.{IsOf, filter_found, filter_there, IsTotal, total_length, total_get, piece_found}
use Rattle.pg_law_numbering.proofs.FirstPassing.{IsFirst, from_find, first_position}
use Rattle.pg_law_numbering.proofs.UniqueNames.{params_registers, registers_differ}
use Rattle.pg_law_numbering.proofs.ChoiceTests.{same_text}

-- the types of a function's registers
abbrev pub scalars_of : Tree → Definition → List Scalar
scalars_of m d = filter_map (λ (r : Register). scalar_in r.ty) (registers_of m.types d)

-- ---- registers with names

register_made : (t : Option ResolvedType) (o : Option Name) (r : Register) → option_map (register t) o ≡ Some r → (n : Name) × (o ≡ Some n) × (r ≡ register t n)
register_made t None r e = absurd cc
register_made t (Some n) r e = (n, refl, sym (same_Some (register t n) r e))

line_made : (g : Bool) (t : Option ResolvedType) (o : Option Name) (r : Register) → cond g (option_map (register t) o) None ≡ Some r → (g ≡ true) × (r.ty ≡ t)
line_made true t o r e = let k = register_made t o r e in (refl, ap (λ (q : Register). q.ty) k.2)
line_made false t o r e = absurd cc

-- a register by the name that an instruction sets, where it is the first of its name
pub record HasNumber (m : Tree) (d : Definition) (text : List ℕ) (t : Option ResolvedType) : Type 0 where
  pub number : ℕ
  pub is : register_number (registers_of m.types d) text ≡ Some number
  pub scalar : Scalar
  pub type_is : scalar_in t ≡ Some scalar
  pub there : slice_get (scalars_of m d) number ≡ Some scalar

module _ (m : Tree) (accepted : IsUnrefused m) where
  module _ (f : ℕ) (d : Definition) (there : slice_get (named_functions m) f ≡ Some d) where
    param_made : (r : Register) → IsOf (param_register m.types) d.params r → IsScalarOf r.ty
    param_made r h =
        let k = register_made (resolved m.types h.whole.ty) h.whole.name r h.is in
        let s = param_scalar m accepted f d there h.place h.whole h.there in
        record { scalar = s.scalar; is = ap (λ (q : Register). scalar_in q.ty) k.2 ∙ s.is }

    result_made : (place : ℕ) (b : Block) (r : Register) → slice_get d.blocks place ≡ Some b → IsOf (line_register m.types) b.lines r → IsScalarOf r.ty
    result_made place b r e h =
        let k = line_made (gives m.types h.whole.op) (result_type m.types h.whole.op) h.whole.name r h.is in
        let at : IsLine m d h.whole = record { function = f; there = there; place = place; block = b; within = e; inner = h.place; inside = h.there } in
        let s = result_scalar m accepted d h.whole.op (passes m accepted d h.whole at) k.0 in
        record { scalar = s.scalar; is = ap scalar_in k.1 ∙ s.is }

    -- each register's type is a scalar
    pub register_scalar : (i : ℕ) (r : Register) → slice_get (registers_of m.types d) i ≡ Some r → IsScalarOf r.ty
    unfolding registers_of
    register_scalar i r e = by (append_cases (filter_map (param_register m.types) d.params) (flat_map (block_registers m.types) d.blocks) i r e)
      where
        by : (slice_get (filter_map (param_register m.types) d.params) i ≡ Some r)
            ⊎ ((j : ℕ) × (slice_get (flat_map (block_registers m.types) d.blocks) j ≡ Some r) × (i ≡ length (filter_map (param_register m.types) d.params) + j)) → IsScalarOf r.ty
        by (inl h) = param_made r (filter_found (param_register m.types) d.params i r h)
        by (inr h) =
            let p = piece_found (block_registers m.types) d.blocks h.0 r h.1 in
            result_made p.place p.whole r p.there (filter_found (line_register m.types) p.whole.lines p.inner r p.inside)

    total : IsTotal (λ (r : Register). scalar_in r.ty) (registers_of m.types d)
    total i r e = let s = register_scalar i r e in (s.scalar, s.is)

    pub scalars_count : length (scalars_of m d) ≡ length (registers_of m.types d)
    scalars_count = total_length (λ (r : Register). scalar_in r.ty) (registers_of m.types d) total

    pub scalar_at : (i : ℕ) (r : Register) → slice_get (registers_of m.types d) i ≡ Some r → slice_get (scalars_of m d) i ≡ scalar_in r.ty
    scalar_at i r e = total_get (λ (x : Register). scalar_in x.ty) (registers_of m.types d) total i r e

    -- the register of a name that is looked up
    pub looked_up : (text : List ℕ) (r : Register) → register_named (registers_of m.types d) text ≡ Some r → HasNumber m d text r.ty
    unfolding register_named register_number
    looked_up text r e =
        let first = from_find (is_called text) (registers_of m.types d) r e in
        let s = register_scalar first.0 r first.1.there in
        record {
          number = first.0;
          is = first_position (is_called text) (registers_of m.types d) first.0 r first.1;
          scalar = s.scalar;
          type_is = s.is;
          there = scalar_at first.0 r first.1.there ∙ s.is;
        }

    -- ---- how many

    params_count : length (filter_map (param_register m.types) d.params) ≡ length d.params
    params_count =
        let n = named_from m f d there in
        subst (λ (q : Definition). length (filter_map (param_register m.types) q.params) ≡ length q.params) (sym n.named) (params_registers m.types n.plain)

    pub params_within : length d.params ≤ length (scalars_of m d)
    unfolding registers_of
    params_within =
        let a : length (registers_of m.types d) ≡ length (filter_map (param_register m.types) d.params) + length (flat_map (block_registers m.types) d.blocks) =
        length-append (filter_map (param_register m.types) d.params) (flat_map (block_registers m.types) d.blocks) in
        omega (arith, scalars_count, a, params_count)

    -- a parameter's register has its number
    pub param_at_number : (i : ℕ) (p : Param) → slice_get d.params i ≡ Some p → slice_get (scalars_of m d) i ≡ scalar_in (resolved m.types p.ty)
    unfolding registers_of
    param_at_number i p e =
        let n = named_from m f d there in
        let name = has_param_name m.types n.plain i p (subst (λ (q : Definition). slice_get q.params i ≡ Some p) n.named e) in
        let r = register (resolved m.types p.ty) name.0 in
        let own : param_register m.types p ≡ Some r = ap (λ (o : Option Name). option_map (register (resolved m.types p.ty)) o) name.1 in
        let at : slice_get (filter_map (param_register m.types) d.params) i ≡ Some r = total_get (param_register m.types) d.params all i p e ∙ own in
        scalar_at i r (front_get (filter_map (param_register m.types) d.params) (flat_map (block_registers m.types) d.blocks) i
        (slice_get_within (filter_map (param_register m.types) d.params) i r at) ∙ at)
      where
        all : IsTotal (param_register m.types) d.params
        all j q h =
            let k = named_from m f d there in
            let name = has_param_name m.types k.plain j q (subst (λ (x : Definition). slice_get x.params j ≡ Some q) k.named h) in
            (register (resolved m.types q.ty) name.0, ap (λ (o : Option Name). option_map (register (resolved m.types q.ty)) o) name.1)

    small : is_too_large m (first_line m.functions f) d ≡ false
    unfolding body_refused
    small = at_if_none (is_too_large m (first_line m.functions f) d) d.name.span (bodies_pass m accepted f d there TooLarge)

    pub few_registers : length (registers_of m.types d) ≤ FUNCTION_REGISTER_LIMIT
    few_registers =
        let a = (or_parts (any_large m.types (body_types d) || nat_lt FUNCTION_REGISTER_LIMIT (length (registers_of m.types d)))
        (nat_lt INSTRUCTION_LIMIT (first_line m.functions f + line_count d)) small).0 in
        ltb-false FUNCTION_REGISTER_LIMIT (length (registers_of m.types d)) (or_parts (any_large m.types (body_types d)) (nat_lt FUNCTION_REGISTER_LIMIT (length (registers_of m.types d))) a).1

    pub few_lines : first_line m.functions f + line_count d ≤ INSTRUCTION_LIMIT
    few_lines =
        let a = (or_parts (any_large m.types (body_types d) || nat_lt FUNCTION_REGISTER_LIMIT (length (registers_of m.types d)))
        (nat_lt INSTRUCTION_LIMIT (first_line m.functions f + line_count d)) small).1 in
        ltb-false INSTRUCTION_LIMIT (first_line m.functions f + line_count d) a

    -- ---- in the program

    pub types_are_of : types_of (program_of m) f ≡ scalars_of m d
    unfolding types_of
    types_are_of = ap (λ (o : Option Function). types_in o) (function_there m f d there)

    pub result_is_of : result_of (program_of m) f ≡ scalar_in (resolved m.types d.result)
    unfolding result_of
    result_is_of = ap (λ (o : Option Function). result_in o) (function_there m f d there)

-- ---- the register that a line sets

module _ (m : Tree) (accepted : IsUnrefused m) (order : IsInOrder m) (d : Definition) (l : Line) (at : IsLine m d l) where
  -- its register is one of the function's
  set_there : (n : Name) → l.name ≡ Some n → gives m.types l.op ≡ true → (i : ℕ) × (slice_get (registers_of m.types d) i ≡ Some (register (result_type m.types l.op) n))
  unfolding registers_of
  set_there n e g =
      let own : line_register m.types l ≡ Some (register (result_type m.types l.op) n) =
      ap (λ (b : Bool). cond b (option_map (register (result_type m.types l.op)) l.name) None) g ∙ ap (λ (o : Option Name). option_map (register (result_type m.types l.op)) o) e in
      let inner = filter_there (line_register m.types) at.block.lines at.inner l (register (result_type m.types l.op) n) at.inside own in
      let k = place d.blocks at.place at.block at.within inner.0 (register (result_type m.types l.op) n) inner.1 in
      (length (filter_map (param_register m.types) d.params) + k.0, behind_get (filter_map (param_register m.types) d.params) (flat_map (block_registers m.types) d.blocks) k.0 ∙ k.1)
    where
      place : (bs : List Block) (i : ℕ) (b : Block) → slice_get bs i ≡ Some b → (j : ℕ) (r : Register) → slice_get (block_registers m.types b) j ≡ Some r
          → (k : ℕ) × (slice_get (flat_map (block_registers m.types) bs) k ≡ Some r)
      place [] i b e j r h = absurd cc
      place (c ∷ cs) zero b e j r h =
          let own : slice_get (block_registers m.types c) j ≡ Some r = subst (λ (q : Block). slice_get (block_registers m.types q) j ≡ Some r) (sym (same_Some c b e)) h in
          (j, front_get (block_registers m.types c) (flat_map (block_registers m.types) cs) j (slice_get_within (block_registers m.types c) j r own) ∙ own)
      place (c ∷ cs) (suc i) b e j r h =
          let k = place cs i b e j r h in
          (length (block_registers m.types c) + k.0, behind_get (block_registers m.types c) (flat_map (block_registers m.types) cs) k.0 ∙ k.1)

  -- and the first of its name
  pub set_number : (n : Name) → l.name ≡ Some n → gives m.types l.op ≡ true → HasNumber m d n.text (result_type m.types l.op)
  unfolding register_number
  set_number n e g =
      let k = set_there n e g in
      let r = register (result_type m.types l.op) n in
      let s = register_scalar m accepted at.function d at.there k.0 r k.1 in
      let first : IsFirst (is_called n.text) (registers_of m.types d) k.0 r =
      record { there = k.1; passes = same_text n.text; before = λ (j : ℕ) (q : Register) h b. registers_differ m accepted order at.function d at.there j k.0 q r h b k.1 } in
      record {
        number = k.0;
        is = first_position (is_called n.text) (registers_of m.types d) k.0 r first;
        scalar = s.scalar;
        type_is = s.is;
        there = scalar_at m accepted at.function d at.there k.0 r k.1 ∙ s.is;
      }

  pub line_named : gives m.types l.op ≡ true → (n : Name) × (l.name ≡ Some n)
  line_named g =
      let k = named_from m at.function d at.there in
      has_name m.types k.plain at.place at.block at.inner l (subst (λ (q : Definition). slice_get q.blocks at.place ≡ Some at.block) k.named at.within) at.inside g
