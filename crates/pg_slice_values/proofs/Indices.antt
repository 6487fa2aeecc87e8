-- A word moved along indices, one after another.
use Rattle.std.proofs.Common.{◌≡◌, ℕ, zero, suc, ◌+◌, ◌<◌, ℤ, List, [], ◌∷◌, length, map, drop, Option, Some, None, slice_get, slice_index_or, arith, refl, ap, sym, ◌∙◌}
use mathlib.Core.Path.{fun_ext}
use Rattle.std.specs.Prelude.{if◌then◌else◌}
use Rattle.std.specs.List.{list_all}
use Rattle.pg_num.specs.Pointers.{moved_by}
use Rattle.pg_num.specs.Numbers.{truncated}
use Rattle.pg_ir.specs.declared.value.Index.{Index}
use Rattle.pg_ir.specs.declared.value.Value.{Value}
use Rattle.pg_ir.specs.declared.instr.Op.TheVariants as op
use Rattle.pg_precondition.specs.Nodes.{NodeList}
use Rattle.pg_precondition.specs.Values.{number_of}
use Rattle.pg_run_thread.specs.Compute.{index_bytes, moved_along}
use Rattle.pg_run_thread.specs.EdgeStep.{is_set}
use Rattle.pg_run_thread.specs.Operands.{given, operands_of}
use Rattle.pg_slice_rules.specs.SymbolicValues.{OnInput, applied, index_narrowed, narrowed, result_of, valued}
use Rattle.pg_slice_values.specs.declared.symbolic_node.SymbolicNode.{SymbolicNode}
use Rattle.pg_slice_values.specs.SymbolicNodes.{blamed, number_by, symbolic_by}
use Rattle.pg_slice_values.specs.Forms.{moved_each, moved_if, node_at, numbers_from}
use Rattle.pg_slice_values.proofs.Operands.{all_known, number_from, numbers_length}

moved_none : (is : List Index) (ns : List (Option ℕ)) → moved_each None is ns ≡ None
moved_none [] ns = refl
moved_none (i ∷ is) [] = refl
moved_none (i ∷ is) (n ∷ ns) = moved_none is ns

along : (is : List Index) (ns : List (Option ℕ)) (w : ℕ) (n : ℕ → ℕ) (k : ℕ) → length ns ≡ length is
    → ((j : ℕ) → n (k + j) ≡ index_narrowed (slice_get is j) (given (number_of ns j))) →
    moved_each (Some w) is ns ≡ (if list_all is_set ns then Some (moved_along w is n k) else None)
along [] [] w n k l h = refl
along [] (m ∷ ns) w n k l h = absurd (omega arith)
along (i ∷ is) [] w n k l h = absurd (omega arith)
along (i ∷ is) (None ∷ ns) w n k l h = moved_none is ns
along (i ∷ is) (Some m ∷ ns) w n k l h =
    let here : n k ≡ truncated i.width m = let z : k + 0 ≡ k = omega arith in ap n (sym z) ∙ h 0 in
    along is ns (moved_by w (index_bytes i i.scale (truncated i.width m))) n (k + 1) (omega arith) (λ j. let z : k + 1 + j ≡ k + suc j = omega arith in ap n z ∙ h (suc j))
    ∙ ap (λ (x : ℕ). if list_all is_set ns then Some (moved_along (moved_by w (index_bytes i i.scale x)) is n (k + 1)) else None) (sym here)

gep_applied : (base : Value) (is : List Index) (ns : List (Option ℕ)) → length ns ≡ length is + 1 → moved_each (number_of ns 0) is (drop 1 ns) ≡ applied (op.Gep base is) ns
gep_applied base is [] l = absurd (omega arith)
gep_applied base is (None ∷ ns) l = moved_none is ns
gep_applied base is (Some w ∷ ns) l =
    along is ns w (λ k. narrowed (op.Gep base is) k (given (number_of (Some w ∷ ns) k))) 1 (omega arith)
    (λ j. let z : 1 + j ≡ suc j = omega arith in ap (λ k. narrowed (op.Gep base is) k (given (number_of (Some w ∷ ns) k))) z)

-- the value of a node with these numbers is the result of the operation
pub gep_is : (ns : NodeList) (base : Value) (is : List Index) (ss : List SymbolicNode) (g : OnInput) → blamed ss ≡ None → length ss ≡ length is + 1 →
    ((input : List ℤ) → g input ≡ moved_each (number_by ns (node_at ss 0) input) is (drop 1 (numbers_from ns ss input))) → valued g ≡ result_of (op.Gep base is) (map (symbolic_by ns) ss)
gep_is ns base is ss g e l h =
    ap (λ f. valued f) (fun_ext (λ input.
    h input
    ∙ ap (λ x. moved_each x is (drop 1 (numbers_from ns ss input))) (sym (number_from ns ss input 0 (omega arith)))
    ∙ gep_applied base is (numbers_from ns ss input) (numbers_length ns ss input ∙ l)))
    ∙ sym (all_known ns ss (λ gs. valued (λ input. applied (op.Gep base is) (gs input))) e)

values_length : (is : List Index) → length (map (λ (i : Index). i.value) is) ≡ length is
values_length [] = refl
values_length (i ∷ is) = let h = values_length is in omega arith

pub gep_count : (base : Value) (is : List Index) → length (operands_of (op.Gep base is)) ≡ length is + 1
gep_count base is = let h = values_length is in omega arith

-- ---- one index more

dropped : {A : Type 0} (xs : List A) (i : ℕ) (d : A) → i < length xs → drop i xs ≡ slice_index_or xs i d ∷ drop (i + 1) xs
dropped [] i d h = absurd (omega arith)
dropped (x ∷ xs) zero d h = refl
dropped (x ∷ xs) (suc i) d h = let z : suc i + 1 ≡ suc (i + 1) = omega arith in rw z (dropped xs i d (omega arith))

pub one_index : (is : List Index) (ns : List (Option ℕ)) (i : ℕ) (d : Index) (word after : Option ℕ) → i < length is → length ns ≡ length is + 1 →
    after ≡ moved_if (slice_index_or is i d) word (number_of ns (i + 1)) → moved_each after (drop (i + 1) is) (drop (i + 1 + 1) ns) ≡ moved_each word (drop i is) (drop (i + 1) ns)
one_index is ns i d word after h l m =
    ap (λ z. moved_each z (drop (i + 1) is) (drop (i + 1 + 1) ns)) m
    ∙ sym (ap (λ ys. moved_each word ys (drop (i + 1) ns)) (dropped is i d h) ∙ ap (λ ks. moved_each word (slice_index_or is i d ∷ drop (i + 1) is) ks) (dropped ns (i + 1) None (omega arith)))

pub with_number : (i : Index) (word after n m : Option ℕ) → after ≡ moved_if i word n → n ≡ m → after ≡ moved_if i word m
with_number i word after n m e h = e ∙ ap (moved_if i word) h
