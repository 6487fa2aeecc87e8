-- A pointer moved along indices by the numbers of an operation's operands.
use Rattle.std.proofs.Common.{◌≡◌, ℕ, ◌+◌, List, [], ◌∷◌, Option, Some, None, suc, map, refl, ap, ◌∙◌, sym, arith, add-one}
use Rattle.pg_ir.specs.pg_num.Pointers.{moved_by}
use Rattle.pg_ir.specs.declared.value.Index.{Index}
use Rattle.pg_ir.specs.declared.value.Value.{Value}
use Rattle.pg_ir.specs.Program.{NumberedProgram}
use Rattle.pg_run_thread.specs.Operands.{operand, given, number_at, argument}
use Rattle.pg_run_thread.specs.Compute.{moved_along, index_bytes, moved_if, with_value}
use Rattle.pg_run_thread.specs.Needs.{moved_each, moved_each_if}

along_each : (p : NumberedProgram) (rs : List (Option ℕ)) (word : ℕ) (is : List Index) (n : ℕ → ℕ) (k : ℕ)
    → ((j : ℕ) → n (k + j) ≡ number_at p rs (map (λ (i : Index). i.value) is) j) → moved_along word is n k ≡ moved_each p rs word is
along_each p rs word [] n k h = refl
along_each p rs word (i ∷ is) n k h =
    let here : n k ≡ given (operand p rs i.value) = let z : k + 0 ≡ k = omega arith in ap n (sym z) ∙ h 0 in
    along_each p rs (moved_by word (index_bytes i i.scale (n k))) is n (k + 1) (λ j. let z : k + 1 + j ≡ k + (j + 1) = omega arith in ap n z ∙ h (j + 1) ∙ rw (add-one) refl)
    ∙ ap (λ (m : ℕ). moved_each p rs (moved_by word (index_bytes i i.scale m)) is) here

pub along_operands : (p : NumberedProgram) (rs : List (Option ℕ)) (word : ℕ) (base : Value) (is : List Index)
    → moved_along word is (number_at p rs (base ∷ map (λ (i : Index). i.value) is)) 1 ≡ moved_each p rs word is
along_operands p rs word base is = along_each p rs word is (number_at p rs (base ∷ map (λ (i : Index). i.value) is)) 1 (λ j. let z : 1 + j ≡ suc j = omega arith in rw z refl)

-- ---- the same where an index may have no value

along_each_if : (p : NumberedProgram) (rs : List (Option ℕ)) (word : ℕ) (is : List Index) (v : ℕ → Option ℕ) (k : ℕ)
    → ((j : ℕ) → v (k + j) ≡ argument p rs (map (λ (i : Index). i.value) is) j) → moved_if word is v k ≡ moved_each_if p rs word is
along_each_if p rs word [] v k h = refl
along_each_if p rs word (i ∷ is) v k h =
    go (v k) (operand p rs i.value) (let z : k + 0 ≡ k = omega arith in ap v (sym z) ∙ h 0)
    (λ m. along_each_if p rs (moved_by word (index_bytes i i.scale m)) is v (k + 1) (λ j. let z : k + 1 + j ≡ k + (j + 1) = omega arith in ap v z ∙ h (j + 1) ∙ rw (add-one) refl))
  where
    go : (u w : Option ℕ) → u ≡ w → ((m : ℕ) → moved_if (moved_by word (index_bytes i i.scale m)) is v (k + 1) ≡ moved_each_if p rs (moved_by word (index_bytes i i.scale m)) is)
        → with_value u (λ n. moved_if (moved_by word (index_bytes i i.scale n)) is v (k + 1)) ≡ with_value w (λ n. moved_each_if p rs (moved_by word (index_bytes i i.scale n)) is)
    go None None same more = refl
    go None (Some n) same more = absurd cc
    go (Some m) None same more = absurd cc
    go (Some m) (Some n) same more = let alike : m ≡ n = cc in more m ∙ ap (λ (x : ℕ). moved_each_if p rs (moved_by word (index_bytes i i.scale x)) is) alike

pub along_operands_if : (p : NumberedProgram) (rs : List (Option ℕ)) (word : ℕ) (base : Value) (is : List Index)
    → moved_if word is (argument p rs (base ∷ map (λ (i : Index). i.value) is)) 1 ≡ moved_each_if p rs word is
along_operands_if p rs word base is = along_each_if p rs word is (argument p rs (base ∷ map (λ (i : Index). i.value) is)) 1 (λ j. let z : 1 + j ≡ suc j = omega arith in rw z refl)
