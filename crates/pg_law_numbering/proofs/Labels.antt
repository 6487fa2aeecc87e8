-- The labels of a function of an accepted tree, each at its basic block's number, and the blocks to which lines go on.
use Rattle.std.proofs.Common.{◌≡◌, ℕ, ◌+◌, List, [], ◌∷◌, length, map, true, false, refl, sym, ap, ◌∙◌, subst, arith}
use Rattle.std.specs.Prelude.{slice_get, Option, Some, None, unwrap_or, is_some}
use Rattle.std.specs.List.{AllByRecursion}
use Rattle.std.specs.Str.{bytes_eq}
use Rattle.std.proofs.lemmas.Slice.Eq.{bytes_eq-Decides}
use Rattle.pg_num.specs.declared.width.Width.{Width}
use Rattle.pg_ir.specs.declared.value.Value.{Value}
use Rattle.pg_ir.specs.declared.library_call.LibraryCall.{LibraryCall}
use Rattle.pg_ir.specs.declared.edge.Case as numbered_case
use Rattle.pg_ir.specs.Edges.{targets_of}
use Rattle.pg_ir.specs.WellFormed.{IsInFunction}
use Rattle.pg_read_ast.specs.declared.names.Name.{Name}
use Rattle.pg_read_ast.specs.declared.ops.BinaryOp.{BinaryOp}
use Rattle.pg_read_ast.specs.declared.ops.BinaryOp.TheVariants as binary
use Rattle.pg_read_ast.specs.declared.ops.CastOp.{CastOp}
use Rattle.pg_read_ast.specs.declared.ops.CastOp.TheVariants as cast
use Rattle.pg_read_ast.specs.Syntax.{Ty, Case, Block, Op, Binary, Icmp, Cast, Select, Phi, Br, CondBr, Switch, Call, RetVoid, Ret, Unreachable, Alloca, Load, Store, GetElementPtr, Definition, Tree}
use Rattle.pg_check_rules.specs.Names.{Symbol, VariableOf, DefinitionOf, DeclarationOf, NoSymbol, symbol, labels_of, label_number, first_block}
use Rattle.pg_check_rules.specs.Written.{label_targets, label_sources, is_ending}
use Rattle.pg_check_rules.specs.CallConditions.{known_of}
use Rattle.pg_check_rules.specs.LineConditions.{no_block}
use Rattle.pg_check_rules.specs.Conditions.{scope_of, IsUnrefused}
use Rattle.pg_check_rules.specs.Numbered.{named_functions, case_at, binary_op, cast_op, library_call, call_of, op_at, program_of}
use Rattle.pg_law_numbering.specs.Parsed.{IsInOrder}
use Rattle.pg_law_numbering.proofs.FlattenedLists.{there_at}
use Rattle.pg_law_numbering.proofs.UnrefusedParts.{else_none, named_from}
use Rattle.pg_law_numbering.proofs.NamedDefinitions.{has_label}
use Rattle.pg_law_numbering.proofs.FilteredLists.{total_get, total_length}
use Rattle.pg_law_numbering.proofs.FirstPassing.{IsFirst, from_position, first_position}
use Rattle.pg_law_numbering.proofs.UniqueNames.{labels_differ}
use Rattle.pg_law_numbering.proofs.LineOperations.{Passes}
use Rattle.pg_law_numbering.proofs.FitsFunctions.{in_function}
use Rattle.std.proofs.lemmas.Option.{slice_get_within, same_Some}
use Rattle.pg_law_numbering.proofs.ChoiceTests.{some_of}
use Rattle.pg_law_numbering.proofs.EachElement.{all_from_front, mapped_all}

-- the block that a label names
pub record Names (d : Definition) (n : Name) : Type 0 where
  pub number : ℕ
  pub is : label_number (labels_of d) n.text ≡ Some number
  pub block : Block
  pub there : slice_get d.blocks number ≡ Some block
  pub label : Name
  pub label_is : block.label ≡ Some label
  pub text_is : label.text ≡ n.text

-- a name of the block at a place is its label's
pub label_text : (d : Definition) (n : Name) (k : Names d n) (i : ℕ) (b : Block) (l : Name) → k.number ≡ i → slice_get d.blocks i ≡ Some b → b.label ≡ Some l → n.text ≡ l.text
label_text d n k i b l e h g =
    let there : slice_get d.blocks i ≡ Some k.block = subst (λ (x : ℕ). slice_get d.blocks x ≡ Some k.block) e k.there in
    let blocks : k.block ≡ b = same_Some k.block b (sym there ∙ h) in
    let labels : k.label ≡ l = same_Some k.label l (sym k.label_is ∙ ap (λ (x : Block). x.label) blocks ∙ g) in
    sym k.text_is ∙ ap (λ (x : Name). x.text) labels

module _ (m : Tree) (accepted : IsUnrefused m) (order : IsInOrder m) (f : ℕ) (d : Definition) (there : slice_get (named_functions m) f ≡ Some d) where
  pub labelled : (i : ℕ) (b : Block) → slice_get d.blocks i ≡ Some b → (n : Name) × (b.label ≡ Some n)
  labelled i b e = let k = named_from m f d there in has_label m.types k.plain i b (subst (λ (q : Definition). slice_get q.blocks i ≡ Some b) k.named e)

  pub label_at : (i : ℕ) (b : Block) → slice_get d.blocks i ≡ Some b → slice_get (labels_of d) i ≡ b.label
  label_at i b e = total_get (λ (c : Block). c.label) d.blocks labelled i b e

  pub labels_count : length (labels_of d) ≡ length d.blocks
  labels_count = total_length (λ (c : Block). c.label) d.blocks labelled

  pub names_from : (n : Name) → no_block (labels_of d) n ≡ [] → Names d n
  unfolding label_number
  names_from n e =
      let k = some_of (label_number (labels_of d) n.text) (else_none (is_some (label_number (labels_of d) n.text)) n.span e) in
      let first = from_position (λ (x : Name). bytes_eq x.text n.text) (labels_of d) k.0 k.1 in
      let b = there_at d.blocks k.0 (omega (arith, labels_count, slice_get_within (labels_of d) k.0 first.0 first.1.there)) in
      record {
        number = k.0;
        is = k.1;
        block = b.0;
        there = b.1;
        label = first.0;
        label_is = sym (label_at k.0 b.0 b.1) ∙ first.1.there;
        text_is = (bytes_eq-Decides first.0.text n.text).0 first.1.passes;
      }

  -- a label of this text is the one of this block
  pub number_of_label : (i : ℕ) (b : Block) (l : Name) (text : List ℕ) → slice_get d.blocks i ≡ Some b → b.label ≡ Some l → l.text ≡ text → label_number (labels_of d) text ≡ Some i
  unfolding label_number
  number_of_label i b l text e h t =
      let at : slice_get (labels_of d) i ≡ Some l = label_at i b e ∙ h in
      let own : bytes_eq l.text text ≡ true = (bytes_eq-Decides l.text text).1 t in
      let first : IsFirst (λ (x : Name). bytes_eq x.text text) (labels_of d) i l = record {
        there = at;
        passes = own;
        before = λ (j : ℕ) (x : Name) k g. subst (λ (q : List ℕ). bytes_eq x.text q ≡ false) t (labels_differ m accepted order f d there j i x l k g at);
      } in
      first_position (λ (x : Name). bytes_eq x.text text) (labels_of d) i l first

-- ---- targets

-- the number of the block that a label names, where `first` is the first of the function
abbrev pub target : Definition → ℕ → Name → ℕ
target d first n = first + unwrap_or (label_number (labels_of d) n.text) 0

binary_targets : (o : BinaryOp) (w : Width) (a b : Value) → targets_of (binary_op o w a b) ≡ []
binary_targets binary.Add w a b = refl
binary_targets binary.Sub w a b = refl
binary_targets binary.Mul w a b = refl
binary_targets binary.Udiv w a b = refl
binary_targets binary.Sdiv w a b = refl
binary_targets binary.Urem w a b = refl
binary_targets binary.Srem w a b = refl
binary_targets binary.Shl w a b = refl
binary_targets binary.Lshr w a b = refl
binary_targets binary.Ashr w a b = refl
binary_targets binary.And w a b = refl
binary_targets binary.Or w a b = refl
binary_targets binary.Xor w a b = refl

cast_targets : (o : CastOp) (v w : Width) (a : Value) → targets_of (cast_op o v w a) ≡ []
cast_targets cast.Trunc v w a = refl
cast_targets cast.Zext v w a = refl
cast_targets cast.Sext v w a = refl
cast_targets cast.PtrToInt v w a = refl
cast_targets cast.IntToPtr v w a = refl

known_targets : (k : Option LibraryCall) (all : List Value) → targets_of (library_call k all) ≡ []
known_targets None all = refl
known_targets (Some k) all = refl

call_targets : (s : Symbol) (all : List Value) → targets_of (call_of s all) ≡ []
call_targets (DefinitionOf f d) all = refl
call_targets (DeclarationOf d) all = known_targets (known_of (DeclarationOf d)) all
call_targets (VariableOf i v) all = refl
call_targets NoSymbol all = refl

case_targets : (m : Tree) (d : Definition) (first : ℕ) (t : Ty) (all : List Case)
    → map (λ (c : numbered_case.Case). c.to.0) (map (case_at (scope_of m d) first t) all) ≡ map (target d first) (map (λ (c : Case). c.block) all)
case_targets m d first t [] = refl
case_targets m d first t (c ∷ cs) = ap (λ (xs : List ℕ). target d first c.block ∷ xs) (case_targets m d first t cs)

-- the targets of an instruction are the blocks of its line's labels
pub targets_are : (m : Tree) (d : Definition) (first : ℕ) (o : Op) → targets_of (op_at (scope_of m d) first o) ≡ map (target d first) (label_targets o)
unfolding op_at label_targets
targets_are m d first (Binary s o t a b) = binary_targets o _ _ _
targets_are m d first (Icmp s o t a b) = refl
targets_are m d first (Cast s o v t) = cast_targets o _ _ _
targets_are m d first (Select s c a b) = refl
targets_are m d first (Phi s t i all) = refl
targets_are m d first (Br s b) = refl
targets_are m d first (CondBr s c a b) = refl
targets_are m d first (Switch s v b all) = ap (λ (xs : List ℕ). target d first b ∷ xs) (case_targets m d first v.ty all)
targets_are m d first (Call s t w f all) = call_targets (symbol m f.text) _
targets_are m d first (RetVoid s v) = refl
targets_are m d first (Ret s v) = refl
targets_are m d first (Unreachable s) = refl
targets_are m d first (Alloca s t n) = refl
targets_are m d first (Load s t v) = refl
targets_are m d first (Store s v at) = refl
targets_are m d first (GetElementPtr s t v all) = refl

-- only a line that ends its block has targets
pub targets_end : (o : Op) (i : ℕ) (n : Name) → slice_get (label_targets o) i ≡ Some n → is_ending o ≡ true
unfolding label_targets
targets_end (Br s b) i n e = refl
targets_end (CondBr s c a b) i n e = refl
targets_end (Switch s v b all) i n e = refl
targets_end (Binary s o t a b) i n e = absurd cc
targets_end (Icmp s o t a b) i n e = absurd cc
targets_end (Cast s o v t) i n e = absurd cc
targets_end (Select s c a b) i n e = absurd cc
targets_end (Phi s t j all) i n e = absurd cc
targets_end (Call s t w f all) i n e = absurd cc
targets_end (RetVoid s v) i n e = absurd cc
targets_end (Ret s v) i n e = absurd cc
targets_end (Unreachable s) i n e = absurd cc
targets_end (Alloca s t k) i n e = absurd cc
targets_end (Load s t v) i n e = absurd cc
targets_end (Store s v at) i n e = absurd cc
targets_end (GetElementPtr s t v all) i n e = absurd cc

module _ (m : Tree) (accepted : IsUnrefused m) (order : IsInOrder m) (f : ℕ) (d : Definition) (there : slice_get (named_functions m) f ≡ Some d) where
  target_in : (n : Name) → no_block (labels_of d) n ≡ [] → IsInFunction f (slice_get (program_of m).blocks (target d (first_block m.functions f) n))
  target_in n e =
      let k = names_from m accepted order f d there n e in
      subst (λ (o : Option ℕ). IsInFunction f (slice_get (program_of m).blocks (first_block m.functions f + unwrap_or o 0))) (sym k.is) (in_function m accepted f d k.number k.block there k.there)

  -- each target is a block of the function
  pub targets_fit : (o : Op) → Passes m d o → AllByRecursion (λ (b : ℕ). IsInFunction f (slice_get (program_of m).blocks b)) (targets_of (op_at (scope_of m d) (first_block m.functions f) o))
  targets_fit o p =
      subst (AllByRecursion (λ (b : ℕ). IsInFunction f (slice_get (program_of m).blocks b))) (sym (targets_are m d (first_block m.functions f) o))
      (mapped_all (λ (b : ℕ). IsInFunction f (slice_get (program_of m).blocks b)) (target d (first_block m.functions f)) (label_targets o)
      (all_from_front (λ (n : Name). IsInFunction f (slice_get (program_of m).blocks (target d (first_block m.functions f) n))) (label_targets o) (label_sources o)
      (λ (i : ℕ) (n : Name) e. target_in n (p.labels i n e))))
