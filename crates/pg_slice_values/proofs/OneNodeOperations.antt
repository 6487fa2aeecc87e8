-- Operations that one node computes.
use Rattle.std.proofs.Common.{◌≡◌, ℕ, ℤ, Bool, true, false, List, [], ◌∷◌, length, map, Option, Some, None, arith, refl, ap, sym, ◌∙◌, subst}
use mathlib.Core.Path.{fun_ext}
use Rattle.std.specs.List.{AllByRecursion}
use Rattle.pg_num.specs.Numbers.{truncated}
use Rattle.pg_ir.specs.declared.instr.Op.{Op}
use Rattle.pg_ir.specs.declared.instr.Op.TheVariants as op
use Rattle.pg_precondition.specs.declared.node.Operation.TheVariants as operation
use Rattle.pg_precondition.specs.declared.node.CastKind.TheVariants.{Trunc, Zext, Sext}
use Rattle.pg_precondition.specs.Nodes.{NodeList, IsNode}
use Rattle.pg_precondition.specs.Values.{bit_of, cast_by, chosen, node_number, number_of, numbers_of, operated, with_both, with_one}
use Rattle.pg_run_thread.specs.Compute.{number_of_bool}
use Rattle.pg_run_thread.specs.Operands.{operands_of}
use Rattle.pg_slice_rules.specs.SymbolicValues.{applied, result_of, valued}
use Rattle.pg_slice_values.specs.declared.form.Form.{Form}
use Rattle.pg_slice_values.specs.declared.form.Form.TheVariants as form
use Rattle.pg_slice_values.specs.declared.symbolic_node.SymbolicNode.{SymbolicNode}
use Rattle.pg_slice_values.specs.SymbolicNodes.{IsSymbolicNode, blamed, symbolic_by}
use Rattle.pg_slice_values.specs.Forms.{CastFits, FitsForm, form_of, node_at, node_by, number_in, numbers_from, operand_count}
use Rattle.pg_slice_values.proofs.Operands.{all_known, known_below, number_from, numbers_length}

-- ---- a form is the operation

same_bit : (b : Bool) → Some (bit_of b) ≡ Some (number_of_bool b)
same_bit true = refl
same_bit false = refl

for_one : (P : List (Option ℕ) → Type 0) → P (None ∷ []) → ((n : ℕ) → P (Some n ∷ [])) → (ns : List (Option ℕ)) → length ns ≡ 1 → P ns
for_one P h k [] e = absurd (omega arith)
for_one P h k (None ∷ []) e = h
for_one P h k (Some n ∷ []) e = k n
for_one P h k (a ∷ b ∷ ns) e = absurd (omega arith)

for_two : (P : List (Option ℕ) → Type 0) → ((b : Option ℕ) → P (None ∷ b ∷ [])) → ((m : ℕ) → P (Some m ∷ None ∷ [])) → ((m n : ℕ) → P (Some m ∷ Some n ∷ []))
    → (ns : List (Option ℕ)) → length ns ≡ 2 → P ns
for_two P h k l [] e = absurd (omega arith)
for_two P h k l (a ∷ []) e = absurd (omega arith)
for_two P h k l (None ∷ b ∷ []) e = h b
for_two P h k l (Some m ∷ None ∷ []) e = k m
for_two P h k l (Some m ∷ Some n ∷ []) e = l m n
for_two P h k l (a ∷ b ∷ c ∷ ns) e = absurd (omega arith)

for_three : (P : List (Option ℕ) → Type 0) → ((a b c : Option ℕ) → P (a ∷ b ∷ c ∷ [])) → (ns : List (Option ℕ)) → length ns ≡ 3 → P ns
for_three P h [] e = absurd (omega arith)
for_three P h (a ∷ []) e = absurd (omega arith)
for_three P h (a ∷ b ∷ []) e = absurd (omega arith)
for_three P h (a ∷ b ∷ c ∷ []) e = h a b c
for_three P h (a ∷ b ∷ c ∷ d ∷ ns) e = absurd (omega arith)

pub record IsForm (o : Op) (f : Form) : Type 0 where
  pub count : length (operands_of o) ≡ operand_count f
  pub fits : CastFits o → FitsForm f
  pub same : (ns : List (Option ℕ)) → length ns ≡ operand_count f → number_in f ns ≡ applied o ns

it_is : (o : Op) (g f : Form) → Some g ≡ Some f → IsForm o g → IsForm o f
it_is o g f e h = let q : g ≡ f = cc in subst (λ (x : Form). IsForm o x) q h

pub form_facts : (o : Op) (f : Form) → form_of o ≡ Some f → IsForm o f
form_facts (op.Add w a b) f e = it_is (op.Add w a b) (form.Binary operation.Add w) f e
    (record { count = refl; fits = λ h. tt; same = for_two (λ ns. number_in (form.Binary operation.Add w) ns ≡ applied (op.Add w a b) ns) (λ n. refl) (λ m. refl) (λ m n. refl) })
form_facts (op.Sub w a b) f e = it_is (op.Sub w a b) (form.Binary operation.Sub w) f e
    (record { count = refl; fits = λ h. tt; same = for_two (λ ns. number_in (form.Binary operation.Sub w) ns ≡ applied (op.Sub w a b) ns) (λ n. refl) (λ m. refl) (λ m n. refl) })
form_facts (op.Mul w a b) f e = it_is (op.Mul w a b) (form.Binary operation.Mul w) f e
    (record { count = refl; fits = λ h. tt; same = for_two (λ ns. number_in (form.Binary operation.Mul w) ns ≡ applied (op.Mul w a b) ns) (λ n. refl) (λ m. refl) (λ m n. refl) })
form_facts (op.Divide d w a b) f e = it_is (op.Divide d w a b) (form.Binary (operation.Divide d) w) f e
    (record { count = refl; fits = λ h. tt; same = for_two (λ ns. number_in (form.Binary (operation.Divide d) w) ns ≡ applied (op.Divide d w a b) ns) (λ n. refl) (λ m. refl) (λ m n. refl) })
form_facts (op.Shift s w a b) f e = it_is (op.Shift s w a b) (form.Binary (operation.Shift s) w) f e
    (record { count = refl; fits = λ h. tt; same = for_two (λ ns. number_in (form.Binary (operation.Shift s) w) ns ≡ applied (op.Shift s w a b) ns) (λ n. refl) (λ m. refl) (λ m n. refl) })
form_facts (op.Bits o w a b) f e = it_is (op.Bits o w a b) (form.Binary (operation.Bits o) w) f e
    (record { count = refl; fits = λ h. tt; same = for_two (λ ns. number_in (form.Binary (operation.Bits o) w) ns ≡ applied (op.Bits o w a b) ns) (λ n. refl) (λ m. refl) (λ m n. refl) })
form_facts (op.Compare c w a b) f e = it_is (op.Compare c w a b) (form.Binary (operation.Compare c) w) f e
    (record {
      count = refl;
      fits = λ h. tt;
      same = for_two (λ ns. number_in (form.Binary (operation.Compare c) w) ns ≡ applied (op.Compare c w a b) ns) (λ n. refl) (λ m. refl)
          (λ m n. same_bit _);
    })
form_facts (op.Trunc from to v) f e = it_is (op.Trunc from to v) (form.Cast Trunc from to) f e
    (record { count = refl; fits = λ h. h; same = for_one (λ ns. number_in (form.Cast Trunc from to) ns ≡ applied (op.Trunc from to v) ns) refl (λ n. refl) })
form_facts (op.Zext from to v) f e = it_is (op.Zext from to v) (form.Cast Zext from to) f e
    (record { count = refl; fits = λ h. h; same = for_one (λ ns. number_in (form.Cast Zext from to) ns ≡ applied (op.Zext from to v) ns) refl (λ n. refl) })
form_facts (op.Sext from to v) f e = it_is (op.Sext from to v) (form.Cast Sext from to) f e
    (record { count = refl; fits = λ h. h; same = for_one (λ ns. number_in (form.Cast Sext from to) ns ≡ applied (op.Sext from to v) ns) refl (λ n. refl) })
form_facts (op.PtrToInt from to v) f e = it_is (op.PtrToInt from to v) (form.Cast Trunc from to) f e
    (record { count = refl; fits = λ h. h; same = for_one (λ ns. number_in (form.Cast Trunc from to) ns ≡ applied (op.PtrToInt from to v) ns) refl (λ n. refl) })
form_facts (op.IntToPtr from to v) f e = it_is (op.IntToPtr from to v) (form.Cast Zext from to) f e
    (record { count = refl; fits = λ h. h; same = for_one (λ ns. number_in (form.Cast Zext from to) ns ≡ applied (op.IntToPtr from to v) ns) refl (λ n. refl) })
form_facts (op.Select c a b) f e = it_is (op.Select c a b) form.Select f e
    (record { count = refl; fits = λ h. tt; same = for_three (λ ns. number_in form.Select ns ≡ applied (op.Select c a b) ns) (λ k m n. refl) })
form_facts o f e = absurd cc

-- ---- a form's node

by_both : (o : Option ℕ → Option ℕ → Option ℕ) (a b c d : Option ℕ) → a ≡ c → b ≡ d → o a b ≡ o c d
by_both o a b c d e h = ap (λ x. o x b) e ∙ ap (λ y. o c y) h

-- the node's number is the form's, by the numbers of the operands
pub node_is : (ns : NodeList) (f : Form) (ss : List SymbolicNode) (input : List ℤ) → length ss ≡ operand_count f
    → node_number input (numbers_of input ns) (node_by f ss) ≡ number_in f (numbers_from ns ss input)
node_is ns (form.Binary o w) ss input e =
    by_both (λ x y. with_both x y (λ m n. operated o w (truncated w m) (truncated w n))) _ _ _ _ (sym (number_from ns ss input 0 (omega arith))) (sym (number_from ns ss input 1 (omega arith)))
node_is ns (form.Cast c from to) ss input e = ap (λ x. with_one x (λ n. Some (cast_by c from to (truncated from n)))) (sym (number_from ns ss input 0 (omega arith)))
node_is ns form.Select ss input e =
    ap (λ x. with_one x (λ n. chosen n (number_of (numbers_of input ns) (node_at ss 1)) (number_of (numbers_of input ns) (node_at ss 2)))) (sym (number_from ns ss input 0 (omega arith)))
    ∙ by_both (λ x y. with_one (number_of (numbers_from ns ss input) 0) (λ n. chosen n x y)) _ _ _ _ (sym (number_from ns ss input 1 (omega arith))) (sym (number_from ns ss input 2 (omega arith)))

fits_below : (n : ℕ) (f : Form) (ss : List SymbolicNode) → FitsForm f → blamed ss ≡ None → length ss ≡ operand_count f → AllByRecursion (IsSymbolicNode n) ss → IsNode n (node_by f ss)
fits_below n (form.Binary o w) ss h e l a = (known_below n ss 0 e a (omega arith), known_below n ss 1 e a (omega arith))
fits_below n (form.Cast c from to) ss h e l a = (known_below n ss 0 e a (omega arith), h)
fits_below n form.Select ss h e l a = (known_below n ss 0 e a (omega arith), known_below n ss 1 e a (omega arith), known_below n ss 2 e a (omega arith))

pub node_fits : (n : ℕ) (o : Op) (f : Form) (ss : List SymbolicNode) → form_of o ≡ Some f → CastFits o → blamed ss ≡ None → length ss ≡ length (operands_of o)
    → AllByRecursion (IsSymbolicNode n) ss → IsNode n (node_by f ss)
node_fits n o f ss e h b l a = let k = form_facts o f e in fits_below n f ss (k.fits h) b (l ∙ k.count) a

-- the value of the node is the result of the operation
pub formed : (ns : NodeList) (o : Op) (f : Form) (ss : List SymbolicNode) → form_of o ≡ Some f → blamed ss ≡ None → length ss ≡ length (operands_of o)
    → valued (λ input. node_number input (numbers_of input ns) (node_by f ss)) ≡ result_of o (map (symbolic_by ns) ss)
formed ns o f ss e b l =
    let k = form_facts o f e in
    let c = l ∙ k.count in
    ap (λ g. valued g) (fun_ext (λ input. node_is ns f ss input c ∙ k.same (numbers_from ns ss input) (numbers_length ns ss input ∙ c)))
    ∙ sym (all_known ns ss (λ gs. valued (λ input. applied o (gs input))) b)
