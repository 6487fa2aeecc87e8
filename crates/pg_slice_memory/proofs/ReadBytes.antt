-- One byte more of those that are read, and of those that have nodes; the nodes of bytes.
use Rattle.std.proofs.Common.{◌≡◌, ℕ, ◌+◌, ◌*◌, ◌/◌, ◌%◌, ◌^◌, ◌<◌, ◌≤◌, ◌⊎◌, ℤ, List, Option, Some, None, Result, Ok, Err, IfOk, IfSome}
use Rattle.std.proofs.Common.{length, slice_index, slice_index_or, slice_set, arith, ap, sym, ◌∙◌, subst, inl, inr}
use mathlib.Core.Path.{fun_ext}
use Rattle.std.proofs.lemmas.Bool.{cases_lt}
use Rattle.std.proofs.lemmas.List.{get_or-set_same, get_or-set_other}
use Rattle.pg_ir.specs.Program.{NumberedProgram}
use Rattle.pg_run_memory.specs.Initial.{initial_byte}
use Rattle.pg_precondition.specs.Nodes.{NodeList}
use Rattle.pg_precondition.specs.Values.{joined, number_of, numbers_of, with_one}
use Rattle.pg_slice_values.specs.pg_slice_rules.SymbolicValues.{Symbolic, loaded, valued}
use Rattle.pg_slice_memory.specs.declared.symbolic_node.SymbolicByte.{SymbolicByte}
use Rattle.pg_slice_memory.specs.declared.symbolic_node.SymbolicByte.TheVariants as byte
use Rattle.pg_slice_memory.specs.Changes.{Changes, symbolics_of, symbolic_nodes_of}
use Rattle.pg_slice_values.specs.SymbolicNodes.{Grew, number_by}
use Rattle.pg_slice_memory.specs.Loads.{IsByteNode, symbolics_from, symbolic_node_in}
use Rattle.pg_slice_memory.specs.SymbolicNodes.{byte_symbolic}
use Rattle.pg_slice_memory.proofs.ByteNodes.{byte_node_kept}
use Rattle.pg_slice_memory.proofs.LoadedNumbers.{join_loaded, loaded_same, symbolic_at}

pub ok_both : {X E : Type 0} (r : Result X E) (P Q R : X → Type 0) → ((x : X) → P x → Q x → R x) → IfOk r P → IfOk r Q → IfOk r R
ok_both (Ok x) P Q R f p q = f x p q
ok_both (Err e) P Q R f p q = tt

-- what holds of each of the first k, and of the next
below_next : (P : ℕ → Type 0) (k : ℕ) → ((j : ℕ) → j < k → P j) → P k → (j : ℕ) → j < k + 1 → P j
below_next P k h p j lt = go (cases_lt j k)
  where
    go : (j < k) ⊎ (k ≤ j) → P j
    go (inl a) = h j a
    go (inr a) = let e : k ≡ j = omega (arith, lt, a) in subst P e p

-- one more is set
pub set_next : {A : Type 0} (Q : ℕ → A → Type 0) (xs : List A) (k : ℕ) (x d : A) → k < length xs → ((j : ℕ) → j < k → Q j (slice_index_or xs j d)) → Q k x →
    (j : ℕ) → j < k + 1 → Q j (slice_index_or (slice_set xs k x) j d)
set_next Q xs k x d l h q =
    below_next (λ j. Q j (slice_index_or (slice_set xs k x) j d)) k
    (λ j lt. subst (Q j) (sym (get_or-set_other xs k j x d (λ e. omega (arith, lt, e)))) (h j lt))
    (subst (Q k) (sym (get_or-set_same xs k x d l)) q)

-- ---- what is read

pub read_same : (p : NumberedProgram) (ns : NodeList) (cs : Changes) (xs : List SymbolicByte) (start n : ℕ) → ((k : ℕ) → k < n → symbolic_node_in xs k ≡ symbolic_nodes_of cs (start + k)) →
    loaded (symbolics_from p ns start xs) start n ≡ loaded (symbolics_of p ns cs) start n
read_same p ns cs xs start n h =
    loaded_same (symbolics_from p ns start xs) (symbolics_of p ns cs) start n (λ k lt. symbolic_at p ns start xs k ∙ ap (λ (s : SymbolicByte). byte_symbolic p ns (start + k) s) (h k lt))

-- ---- the nodes of bytes

pub initial_node : (p : NumberedProgram) (ns ms : NodeList) (b x k : ℕ) → x ≡ initial_byte p.globals b → x < 256 → k < length ms →
    ((input : List ℤ) → number_by ms k input ≡ Some x) → IsByteNode ms k (byte_symbolic p ns b byte.Initial)
initial_node p ns ms b x k e small below h = record {
  below = below;
  value = ap (λ f. valued f) (fun_ext (λ input. h input ∙ ap (λ (n : ℕ). Some n) e));
  small = λ input. rw (h input) small;
}

part_small : (o : Option ℕ) (at : ℕ) → IfSome (with_one o (λ n. Some (n / 2 ^ (8 * at) % 2 ^ 8))) (λ n. n < 2 ^ 8)
part_small None at = tt
part_small (Some n) at = omega arith

pub part_node : (p : NumberedProgram) (ns ms : NodeList) (b of at k : ℕ) → k < length ms →
    ((input : List ℤ) → number_by ms k input ≡ with_one (number_of (numbers_of input ns) of) (λ n. Some (n / 2 ^ (8 * at) % 2 ^ 8))) →
    IsByteNode ms k (byte_symbolic p ns b (byte.Part of at))
part_node p ns ms b of at k below h = record {
  below = below;
  value = ap (λ f. valued f) (fun_ext h);
  small = λ input. rw (h input) (part_small (number_of (numbers_of input ns) of) at);
}

-- one byte more has a node
pub nodes_next : (ns ms : NodeList) (S : ℕ → Symbolic) (parts : List ℕ) (k v : ℕ) → k < length parts → Grew ns ms →
    ((j : ℕ) → j < k → IsByteNode ns (slice_index parts j) (S j)) → IsByteNode ms v (S k) →
    (j : ℕ) → j < k + 1 → IsByteNode ms (slice_index (slice_set parts k v) j) (S j)
nodes_next ns ms S parts k v l g h n = set_next (λ j x. IsByteNode ms x (S j)) parts k v 0 l (λ j lt. byte_node_kept ns ms (slice_index parts j) (S j) g (h j lt)) n

-- the node that joins them
pub join_read : (p : NumberedProgram) (old ns ms : NodeList) (start : ℕ) (xs : List SymbolicByte) (parts : List ℕ) (n v : ℕ) → n ≤ length parts →
    ((j : ℕ) → j < n → IsByteNode ns (slice_index parts j) (byte_symbolic p old (start + j) (symbolic_node_in xs j))) →
    ((input : List ℤ) → number_by ms v input ≡ joined (numbers_of input ns) parts n) → valued (number_by ms v) ≡ loaded (symbolics_from p old start xs) start n
join_read p old ns ms start xs parts n v l each h =
    ap (λ f. valued f) (fun_ext h)
    ∙ join_loaded (symbolics_from p old start xs) ns parts start n l (λ j lt. subst (IsByteNode ns (slice_index parts j)) (sym (symbolic_at p old start xs j)) (each j lt))
