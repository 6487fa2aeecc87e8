-- The instructions of an accepted tree's program are those of a program.
use Rattle.std.proofs.Common.{◌≡◌, ℕ, ◌+◌, ◌<◌, List, length, take, Bool, true, false, refl, sym, ap, ◌∙◌, subst, arith, cond}
use Rattle.std.specs.Prelude.{slice_get, Option, Some, None, IfSome, sum_by}
use Rattle.std.specs.List.{AllByRecursion}
use Rattle.std.proofs.lemmas.Option.{slice_get_within}
use Rattle.pg_ir.specs.declared.value.Scalar.{Scalar}
use Rattle.pg_ir.specs.declared.instr.Instr.{Instr}
use Rattle.pg_ir.specs.Program.{types_of, result_of, function_of, end_of}
use Rattle.pg_ir.specs.Edges.{is_terminator, targets_of}
use Rattle.pg_ir.specs.WellFormed.{FitsOp, FitsInstr, IsInFunction, type_at}
use Rattle.pg_read_ast.specs.declared.names.Name.{Name}
use Rattle.pg_read_ast.specs.Syntax.{Line, Block, Op, Binary, Icmp, Cast, Select, Phi, Br, CondBr, Switch, Call, RetVoid, Ret, Unreachable, Alloca, Load, Store, GetElementPtr, Definition, Tree}
use Rattle.pg_read_ast.specs.Numbers.{gives}
use Rattle.pg_check_types.specs.Resolved.{resolved}
use Rattle.pg_check_rules.specs.Names.{result_type, first_block, first_line}
use Rattle.pg_check_rules.specs.Written.{is_ending}
use Rattle.pg_check_rules.specs.Conditions.{scope_of, IsUnrefused}
use Rattle.pg_check_rules.specs.Numbered.{scalar_in, number_of_name, result_at, instr_at, op_at, named_functions, program_of}
use Rattle.pg_law_numbering.specs.Parsed.{IsInOrder}
use Rattle.pg_law_numbering.proofs.NumberedPlaces.{lines_in, line_found, block_there}
use Rattle.pg_law_numbering.proofs.AcceptedLines.{IsLine}
use Rattle.pg_law_numbering.proofs.LineOperations.{Passes, passes}
use Rattle.pg_law_numbering.proofs.PhisAndEnds.{op_phi, op_end}
use Rattle.pg_law_numbering.proofs.Registers.{scalars_of, HasNumber, set_number, line_named, types_are_of, result_is_of}
use Rattle.pg_law_numbering.proofs.FitsFunctions.{first_is, end_is}
use Rattle.pg_law_numbering.proofs.Labels.{targets_fit}
use Rattle.pg_law_numbering.proofs.Endings.{ends_where}
use Rattle.pg_law_numbering.proofs.FitsPhis.{function_is, fits_phi}
use Rattle.pg_law_numbering.proofs.OpRows.{Row, binary_fits, compare_fits, cast_fits, select_fits, phi_fits, branch_fits, choice_fits, switch_fits, return_void_fits, return_fits}
use Rattle.pg_law_numbering.proofs.OpRows.{unreachable_fits, alloca_fits, load_fits, store_fits, element_fits}
use Rattle.pg_law_numbering.proofs.CallRows.{call_fits}

module _ (m : Tree) (accepted : IsUnrefused m) (order : IsInOrder m) where
  op_fits : (f : ℕ) (d : Definition) (there : slice_get (named_functions m) f ≡ Some d) (o : Op) → Passes m d o → Row m accepted order f d there o
  op_fits f d there (Binary s o t a b) p = binary_fits m accepted order f d there s o t a b p
  op_fits f d there (Icmp s o t a b) p = compare_fits m accepted order f d there s o t a b p
  op_fits f d there (Cast s o v t) p = cast_fits m accepted order f d there s o v t p
  op_fits f d there (Select s c a b) p = select_fits m accepted order f d there s c a b p
  op_fits f d there (Phi s t i all) p = phi_fits m accepted order f d there s t i all p
  op_fits f d there (Br s b) p = branch_fits m accepted order f d there s b p
  op_fits f d there (CondBr s c a b) p = choice_fits m accepted order f d there s c a b p
  op_fits f d there (Switch s v b all) p = switch_fits m accepted order f d there s v b all p
  op_fits f d there (Call s t w n all) p = call_fits m accepted f d there s t w n all p
  op_fits f d there (RetVoid s v) p = return_void_fits m accepted order f d there s v p
  op_fits f d there (Ret s v) p = return_fits m accepted order f d there s v p
  op_fits f d there (Unreachable s) p = unreachable_fits m accepted order f d there s p
  op_fits f d there (Alloca s t n) p = alloca_fits m accepted order f d there s t n p
  op_fits f d there (Load s t v) p = load_fits m accepted order f d there s t v p
  op_fits f d there (Store s v at) p = store_fits m accepted order f d there s v at p
  op_fits f d there (GetElementPtr s t v all) p = element_fits m accepted order f d there s t v all p

  -- ---- the register that is set

  module _ (d : Definition) (l : Line) (at : IsLine m d l) where
    number_given : gives m.types l.op ≡ true → (text : List ℕ) × (h : HasNumber m d text (result_type m.types l.op)) × (result_at (scope_of m d) l ≡ Some h.number)
    number_given g =
        let n = line_named m accepted order d l at g in
        let h = set_number m accepted order d l at n.0 n.1 g in
        (n.0.text, h, ap (λ (b : Bool). cond b (number_of_name (scope_of m d) l.name) None) g ∙ ap (λ (o : Option Name). number_of_name (scope_of m d) o) n.1 ∙ h.is)

    nothing_given : gives m.types l.op ≡ false → result_at (scope_of m d) l ≡ None
    nothing_given g = ap (λ (b : Bool). cond b (number_of_name (scope_of m d) l.name) None) g

    type_given : gives m.types l.op ≡ true → type_at (scalars_of m d) (result_at (scope_of m d) l) ≡ scalar_in (result_type m.types l.op)
    type_given g = let h = number_given g in ap (type_at (scalars_of m d)) h.2 ∙ h.1.there ∙ sym h.1.type_is

    no_type : gives m.types l.op ≡ false → type_at (scalars_of m d) (result_at (scope_of m d) l) ≡ None
    no_type g = ap (type_at (scalars_of m d)) (nothing_given g)

    register_within : IfSome (result_at (scope_of m d) l) (λ r. r < length (scalars_of m d))
    register_within = by (gives m.types l.op) refl
      where
        by : (b : Bool) → gives m.types l.op ≡ b → IfSome (result_at (scope_of m d) l) (λ r. r < length (scalars_of m d))
        by true g =
            let h = number_given g in
            subst (λ (o : Option ℕ). IfSome o (λ r. r < length (scalars_of m d))) (sym h.2) (slice_get_within (scalars_of m d) h.1.number h.1.scalar h.1.there)
        by false g = subst (λ (o : Option ℕ). IfSome o (λ r. r < length (scalars_of m d))) (sym (nothing_given g)) tt

  -- ---- instructions

  module _ (f : ℕ) (d : Definition) (there : slice_get (named_functions m) f ≡ Some d) (place : ℕ) (block : Block) (within : slice_get d.blocks place ≡ Some block) (j : ℕ) (l : Line)
      (inside : slice_get block.lines j ≡ Some l) where
    at : IsLine m d l
    at = record { function = f; there = there; place = place; block = block; within = within; inner = j; inside = inside }

    place_is : function_of (program_of m) (first_block m.functions f + place) ≡ f
    place_is = function_is m f d place block there within

    types_here : types_of (program_of m) (function_of (program_of m) (first_block m.functions f + place)) ≡ scalars_of m d
    types_here = ap (types_of (program_of m)) place_is ∙ types_are_of m accepted f d there

    result_here : result_of (program_of m) (function_of (program_of m) (first_block m.functions f + place)) ≡ scalar_in (resolved m.types d.result)
    result_here = ap (result_of (program_of m)) place_is ∙ result_is_of m accepted f d there

    end_true : is_ending l.op ≡ true → first_line m.functions f + sum_by lines_in (take place d.blocks) + j + 1 ≡ end_of (program_of m) (first_block m.functions f + place)
    end_true t = let e = (ends_where m accepted order f d there place block within j l inside).0 t in omega (arith, e, end_is m accepted f d place block there within)

    true_end : first_line m.functions f + sum_by lines_in (take place d.blocks) + j + 1 ≡ end_of (program_of m) (first_block m.functions f + place) → is_ending l.op ≡ true
    true_end e = (ends_where m accepted order f d there place block within j l inside).1 (omega (arith, e, end_is m accepted f d place block there within))

    ending_is : is_terminator (op_at (scope_of m d) (first_block m.functions f) l.op) ≡ is_ending l.op
    ending_is = op_end m d (first_block m.functions f) l.op (passes m accepted d l at)

    fits_instr_at : FitsInstr (program_of m) (first_line m.functions f + sum_by lines_in (take place d.blocks) + j) (instr_at (scope_of m d) (first_block m.functions f) place l)
    fits_instr_at = record {
      block = slice_get_within (program_of m).blocks (first_block m.functions f + place) _ (block_there m f d place block there within);
      from = omega (arith, first_is m accepted f d place block there within);
      before = omega (arith, end_is m accepted f d place block there within, slice_get_within block.lines j l inside);
      ends = (λ t. end_true (sym ending_is ∙ t), λ e. ending_is ∙ true_end e);
      target = subst (λ (ts : List Scalar). IfSome (result_at (scope_of m d) l) (λ r. r < length ts)) (sym types_here) (register_within d l at);
      targets = subst (λ (g : ℕ). AllByRecursion (λ (b : ℕ). IsInFunction g (slice_get (program_of m).blocks b)) (targets_of (op_at (scope_of m d) (first_block m.functions f) l.op)))
          (sym place_is) (targets_fit m accepted order f d there l.op (passes m accepted d l at));
      phi = λ t. fits_phi m accepted order f d there place block within j l inside (sym (op_phi (scope_of m d) (first_block m.functions f) l.op) ∙ t);
      op = subst (λ (ts : List Scalar). FitsOp (program_of m) ts (result_of (program_of m) (function_of (program_of m) (first_block m.functions f + place)))
          (type_at ts (result_at (scope_of m d) l)) (op_at (scope_of m d) (first_block m.functions f) l.op)) (sym types_here)
          (subst (λ (r : Option Scalar). FitsOp (program_of m) (scalars_of m d) r (type_at (scalars_of m d) (result_at (scope_of m d) l)) (op_at (scope_of m d) (first_block m.functions f) l.op))
          (sym result_here)
          (op_fits f d there l.op (passes m accepted d l at) (type_at (scalars_of m d) (result_at (scope_of m d) l)) (type_given d l at) (no_type d l at)));
    }

  pub fits_instr : (i : ℕ) (x : Instr) → slice_get (program_of m).instrs i ≡ Some x → FitsInstr (program_of m) i x
  fits_instr i x e =
      let r = line_found m i x e in
      subst (FitsInstr (program_of m) i) (sym r.is)
      (subst (λ (q : ℕ). FitsInstr (program_of m) q (instr_at (scope_of m r.definition) (first_block m.functions r.function) r.place r.line)) (sym r.number)
      (fits_instr_at r.function r.definition r.there r.place r.block r.within r.inner r.line r.inside))
