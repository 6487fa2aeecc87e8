-- Numbers of bytes that are read: the lowest that isn't known has the blame; bytes of one number; bytes as at the start; others.
use Rattle.std.proofs.Common.{◌≡◌, ℕ, zero, suc, ◌+◌, ◌-◌, ◌*◌, ◌/◌, ◌%◌, ◌^◌, ◌<◌, ◌≤◌, ℤ, List, [], ◌∷◌, true, Option, Some, None, IfSome}
use Rattle.std.proofs.Common.{length, slice_index, arith, refl, ap, sym, ◌∙◌, subst}
use mathlib.Core.Path.{fun_ext}
use Rattle.std.proofs.Math.Nat.{div-div-eq-div-mul, mod-eq_of_lt}
use Rattle.std.proofs.lemmas.Nat.{mod-pow-add, pow-add}
use Rattle.pg_num.specs.Numbers.{truncated, width_bits}
use Rattle.pg_num.specs.declared.width.Width.{Width}
use Rattle.pg_ir.specs.Program.{NumberedProgram}
use Rattle.pg_run_memory.specs.Bytes as bytes
use Rattle.pg_run_memory.specs.Initial.{initial_byte}
use Rattle.pg_precondition.specs.Nodes.{NodeList}
use Rattle.pg_precondition.specs.Values.{joined, number_of, numbers_of, with_both, with_one}
use Rattle.pg_slice_values.specs.pg_slice_rules.declared.decision.Decision.{Decision}
use Rattle.pg_slice_values.specs.pg_slice_rules.SymbolicValues as symbolics
use Rattle.pg_slice_values.specs.pg_slice_rules.SymbolicValues.{OnInput, Symbolic, Known, Bounded, Unknown, always, byte_in, is_known, loaded, valued}
use Rattle.pg_slice_memory.specs.declared.symbolic_node.SymbolicByte.{SymbolicByte}
use Rattle.pg_slice_memory.specs.declared.symbolic_node.SymbolicByte.TheVariants as byte
use Rattle.pg_slice_values.specs.SymbolicNodes.{number_by}
use Rattle.pg_slice_memory.specs.Loads.{AreInitial, AreKnown, ArePartsOf, IsByteNode, is_known_byte, symbolics_from, symbolic_node_in}
use Rattle.pg_slice_memory.specs.SymbolicNodes.{byte_symbolic}

-- ---- bytes alike

at_first : (F G : ℕ → Symbolic) (at : ℕ) → F (at + 0) ≡ G (at + 0) → F at ≡ G at
at_first F G at h = let e : at + 0 ≡ at = omega arith in subst (λ (b : ℕ). F b ≡ G b) e h

at_next : (F G : ℕ → Symbolic) (at k : ℕ) → F (at + suc k) ≡ G (at + suc k) → F (at + 1 + k) ≡ G (at + 1 + k)
at_next F G at k h = let e : at + suc k ≡ at + 1 + k = omega arith in subst (λ (b : ℕ). F b ≡ G b) e h

pub loaded_same : (F G : ℕ → Symbolic) (at n : ℕ) → ((k : ℕ) → k < n → F (at + k) ≡ G (at + k)) → loaded F at n ≡ loaded G at n
loaded_same F G at zero h = refl
loaded_same F G at (suc n) h =
    ap (λ (s : Symbolic). symbolics.joined s (loaded F (at + 1) n)) (at_first F G at (h 0 (omega arith)))
    ∙ ap (symbolics.joined (G at)) (loaded_same F G (at + 1) n (λ k lt. at_next F G at k (h (suc k) (omega (arith, lt)))))

-- the byte at a place, where those from there on were read
pub symbolic_at : (p : NumberedProgram) (ns : NodeList) (start : ℕ) (xs : List SymbolicByte) (k : ℕ) → symbolics_from p ns start xs (start + k) ≡ byte_symbolic p ns (start + k) (symbolic_node_in xs k)
symbolic_at p ns start xs k = let e : start + k - start ≡ k = omega arith in ap (λ (j : ℕ). byte_symbolic p ns (start + k) (symbolic_node_in xs j)) e

-- ---- a byte that isn't known

joined_unknown : (s : Symbolic) (x : Decision) → is_known s ≡ true → symbolics.joined s (Unknown x) ≡ Unknown x
joined_unknown (Known g k) x h = refl
joined_unknown (Bounded g y) x h = absurd cc
joined_unknown (Unknown y) x h = absurd cc

loaded_unknown : (F : ℕ → Symbolic) (at n k : ℕ) (x : Decision) → ((j : ℕ) → j < k → is_known (F (at + j)) ≡ true) → k < n → F (at + k) ≡ Unknown x → loaded F at n ≡ Unknown x
loaded_unknown F at zero k x h lt e = absurd (omega arith)
loaded_unknown F at (suc n) zero x h lt e = ap (λ (s : Symbolic). symbolics.joined s (loaded F (at + 1) n)) (at_first F (λ b. Unknown x) at e)
loaded_unknown F at (suc n) (suc k) x h lt e =
    let z : at + 0 ≡ at = omega arith in
    let known : is_known (F at) ≡ true = subst (λ (b : ℕ). is_known (F b) ≡ true) z (h 0 (omega arith)) in
    let s : (j : ℕ) → at + suc j ≡ at + 1 + j = λ j. omega arith in
    let more : (j : ℕ) → j < k → is_known (F (at + 1 + j)) ≡ true = λ j less. subst (λ (b : ℕ). is_known (F b) ≡ true) (s j) (h (suc j) (omega (arith, less))) in
    let here : F (at + 1 + k) ≡ Unknown x = at_next F (λ b. Unknown x) at k e in
    ap (symbolics.joined (F at)) (loaded_unknown F (at + 1) n k x more (omega (arith, lt)) here) ∙ joined_unknown (F at) x known

symbolic_known : (p : NumberedProgram) (ns : NodeList) (b : ℕ) (s : SymbolicByte) → is_known_byte s ≡ true → is_known (byte_symbolic p ns b s) ≡ true
symbolic_known p ns b byte.Initial h = refl
symbolic_known p ns b (byte.Part of at) h = refl
symbolic_known p ns b (byte.Unknown x) h = absurd cc

pub first_blamed : (xs : List SymbolicByte) (n k : ℕ) (x : Decision) → AreKnown xs k → k < n → symbolic_node_in xs k ≡ byte.Unknown x →
    (p : NumberedProgram) (ns : NodeList) (start : ℕ) → loaded (symbolics_from p ns start xs) start n ≡ Unknown x
first_blamed xs n k x known lt e p ns start =
    loaded_unknown (symbolics_from p ns start xs) start n k x
    (λ j less. ap is_known (symbolic_at p ns start xs j) ∙ symbolic_known p ns (start + j) (symbolic_node_in xs j) (known.each j less))
    lt (symbolic_at p ns start xs k ∙ ap (λ (s : SymbolicByte). byte_symbolic p ns (start + k) s) e)

-- ---- bytes by nodes

joined_none : (known : List (Option ℕ)) (parts : List ℕ) → joined known parts 0 ≡ Some 0
unfolding joined
joined_none known parts = refl

joined_next : (known : List (Option ℕ)) (p : ℕ) (parts : List ℕ) (n : ℕ) →
    joined known (p ∷ parts) (suc n) ≡ with_both (number_of known p) (joined known parts n) (λ low rest. Some (rest * 2 ^ 8 + low % 2 ^ 8))
unfolding joined
joined_next known p parts n = refl

small_byte : (a b : Option ℕ) → IfSome a (λ n. n < 2 ^ 8) → with_both a b (λ low rest. Some (rest * 2 ^ 8 + low % 2 ^ 8)) ≡ with_both a b (λ low rest. Some (rest * 2 ^ 8 + low))
small_byte None b h = refl
small_byte (Some m) None h = refl
small_byte (Some m) (Some n) h = ap (λ (k : ℕ). Some (n * 2 ^ 8 + k)) (mod-eq_of_lt h)

pub join_loaded : (F : ℕ → Symbolic) (ns : NodeList) (parts : List ℕ) (at n : ℕ) → n ≤ length parts →
    ((k : ℕ) → k < n → IsByteNode ns (slice_index parts k) (F (at + k))) → valued (λ input. joined (numbers_of input ns) parts n) ≡ loaded F at n
join_loaded F ns parts at zero le h = ap (λ f. valued f) (fun_ext (λ input. joined_none (numbers_of input ns) parts))
join_loaded F ns [] at (suc n) le h = absurd (omega arith)
join_loaded F ns (p ∷ parts) at (suc n) le h =
    let rest : List ℤ → Option ℕ = λ input. joined (numbers_of input ns) parts n in
    let ih : valued rest ≡ loaded F (at + 1) n = join_loaded F ns parts (at + 1) n (omega arith) (λ k lt. next k (h (suc k) (omega (arith, lt)))) in
    let z : at + 0 ≡ at = omega arith in
    let first : IsByteNode ns p (F at) = subst (λ (b : ℕ). IsByteNode ns p (F b)) z (h 0 (omega arith)) in
    ap (λ f. valued f) (fun_ext (λ input. joined_next (numbers_of input ns) p parts n ∙ small_byte (number_by ns p input) (rest input) (first.small input)))
    ∙ ap (λ (s : Symbolic). symbolics.joined s (valued rest)) first.value
    ∙ ap (symbolics.joined (F at)) ih
  where
    next : (k : ℕ) → IsByteNode ns (slice_index parts k) (F (at + suc k)) → IsByteNode ns (slice_index parts k) (F (at + 1 + k))
    next k w = let e : at + suc k ≡ at + 1 + k = omega arith in subst (λ (b : ℕ). IsByteNode ns (slice_index parts k) (F b)) e w

-- ---- bytes of one number

-- the number of n bytes of a number from byte k on
abbrev bytes_from : OnInput → ℕ → ℕ → OnInput
bytes_from g k n = λ input. with_one (g input) (λ v. Some (v / 2 ^ (8 * k) % 2 ^ (8 * n)))

one_byte : (g : Option ℕ) (k : ℕ) →
    with_both (with_one g (λ v. Some (v / 2 ^ (8 * k) % 2 ^ 8))) (Some 0) (λ low rest. Some (rest * 2 ^ 8 + low)) ≡ with_one g (λ v. Some (v / 2 ^ (8 * k) % 2 ^ (8 * 1)))
one_byte None k = refl
one_byte (Some v) k = let e : 0 * 2 ^ 8 + v / 2 ^ (8 * k) % 2 ^ 8 ≡ v / 2 ^ (8 * k) % 2 ^ 8 = omega arith in ap (λ (m : ℕ). Some m) e

byte_more : (v k n : ℕ) → (v / 2 ^ (8 * (k + 1)) % 2 ^ (8 * n)) * 2 ^ 8 + v / 2 ^ (8 * k) % 2 ^ 8 ≡ v / 2 ^ (8 * k) % 2 ^ (8 * suc n)
byte_more v k n =
    let m = v / 2 ^ (8 * k) in
    let a : 8 * (k + 1) ≡ 8 * k + 8 = omega arith in
    let b : 8 * suc n ≡ 8 * n + 8 = omega arith in
    let d : v / 2 ^ (8 * (k + 1)) ≡ m / 2 ^ 8 = ap (λ (j : ℕ). v / 2 ^ j) a ∙ ap (λ (j : ℕ). v / j) (pow-add 2 (8 * k) 8) ∙ sym (div-div-eq-div-mul v (2 ^ (8 * k)) (2 ^ 8)) in
    ap (λ (j : ℕ). (j % 2 ^ (8 * n)) * 2 ^ 8 + m % 2 ^ 8) d ∙ sym (mod-pow-add m (8 * n) 8) ∙ ap (λ (j : ℕ). m % 2 ^ j) (sym b)

more_bytes : (g : Option ℕ) (k n : ℕ) →
    with_both (with_one g (λ v. Some (v / 2 ^ (8 * k) % 2 ^ 8))) (with_one g (λ v. Some (v / 2 ^ (8 * (k + 1)) % 2 ^ (8 * n)))) (λ low rest. Some (rest * 2 ^ 8 + low))
    ≡ with_one g (λ v. Some (v / 2 ^ (8 * k) % 2 ^ (8 * suc n)))
more_bytes None k n = refl
more_bytes (Some v) k n = ap (λ (m : ℕ). Some m) (byte_more v k n)

parts_loaded : (F : ℕ → Symbolic) (g : OnInput) (at k n : ℕ) → ((j : ℕ) → j < suc n → F (at + j) ≡ byte_in (k + j) (valued g)) → loaded F at (suc n) ≡ valued (bytes_from g k (suc n))
parts_loaded F g at k zero h =
    ap (λ (s : Symbolic). symbolics.joined s (always 0)) (part_first F g at k (h 0 (omega arith)))
    ∙ ap (λ f. valued f) (fun_ext (λ input. one_byte (g input) k))
  where
    part_first : (F : ℕ → Symbolic) (g : OnInput) (at k : ℕ) → F (at + 0) ≡ byte_in (k + 0) (valued g) → F at ≡ byte_in k (valued g)
    part_first F g at k h = let a : at + 0 ≡ at = omega arith in let b : k + 0 ≡ k =
        omega arith in subst (λ (j : ℕ). F at ≡ byte_in j (valued g)) b (subst (λ (j : ℕ). F j ≡ byte_in (k + 0) (valued g)) a h)
parts_loaded F g at k (suc n) h =
    let a : at + 0 ≡ at = omega arith in
    let b : k + 0 ≡ k = omega arith in
    let first : F at ≡ byte_in k (valued g) = subst (λ (j : ℕ). F at ≡ byte_in j (valued g)) b (subst (λ (j : ℕ). F j ≡ byte_in (k + 0) (valued g)) a (h 0 (omega arith))) in
    ap (λ (s : Symbolic). symbolics.joined s (loaded F (at + 1) (suc n))) first
    ∙ ap (symbolics.joined (byte_in k (valued g))) (parts_loaded F g (at + 1) (k + 1) n (λ j lt. next j (h (suc j) (omega (arith, lt)))))
    ∙ ap (λ f. valued f) (fun_ext (λ input. more_bytes (g input) k (suc n)))
  where
    next : (j : ℕ) → F (at + suc j) ≡ byte_in (k + suc j) (valued g) → F (at + 1 + j) ≡ byte_in (k + 1 + j) (valued g)
    next j w =
        let a : at + suc j ≡ at + 1 + j = omega arith in
        let b : k + suc j ≡ k + 1 + j = omega arith in
        subst (λ (i : ℕ). F (at + 1 + j) ≡ byte_in i (valued g)) b (subst (λ (i : ℕ). F i ≡ byte_in (k + suc j) (valued g)) a w)

whole_number : (g : Option ℕ) (w : Width) (n : ℕ) → width_bits w ≡ 8 * n → with_one g (λ v. Some (truncated w v)) ≡ with_one g (λ v. Some (v / 2 ^ (8 * 0) % 2 ^ (8 * n)))
whole_number None w n e = refl
whole_number (Some v) w n e = let d : v / 2 ^ (8 * 0) ≡ v = omega arith in ap (λ (m : ℕ). Some (v % 2 ^ m)) e ∙ ap (λ (m : ℕ). Some (m % 2 ^ (8 * n))) (sym d)

pub whole_loaded : (p : NumberedProgram) (ns : NodeList) (start : ℕ) (xs : List SymbolicByte) (n v : ℕ) (w : Width) → 1 ≤ n → ArePartsOf v xs n → width_bits w ≡ 8 * n →
    valued (λ input. with_one (number_by ns v input) (λ m. Some (truncated w m))) ≡ loaded (symbolics_from p ns start xs) start n
whole_loaded p ns start xs zero v w le h e = absurd (omega arith)
whole_loaded p ns start xs (suc n) v w le h e =
    ap (λ f. valued f) (fun_ext (λ input. whole_number (number_by ns v input) w (suc n) e))
    ∙ sym (parts_loaded (symbolics_from p ns start xs) (number_by ns v) start 0 n (λ j lt. part j (h.each j lt)))
  where
    part : (j : ℕ) → symbolic_node_in xs j ≡ byte.Part v j → symbolics_from p ns start xs (start + j) ≡ byte_in (0 + j) (valued (number_by ns v))
    part j q =
        let z : j ≡ 0 + j = omega arith in
        symbolic_at p ns start xs j ∙ ap (λ (s : SymbolicByte). byte_symbolic p ns (start + j) s) q ∙ ap (λ (i : ℕ). byte_in i (valued (number_by ns v))) z

-- ---- bytes as at the start

pub bytes_none : (f : ℕ → ℕ) (at : ℕ) → bytes.number_of f at 0 ≡ 0
unfolding bytes.number_of
bytes_none f at = refl

bytes_suc : (f : ℕ → ℕ) (at n : ℕ) → bytes.number_of f at (suc n) ≡ bytes.number_of f (suc at) n * 2 ^ 8 + f at
unfolding bytes.number_of
bytes_suc f at n = refl

pub bytes_next : (f : ℕ → ℕ) (at n : ℕ) → bytes.number_of f at (suc n) ≡ bytes.number_of f (at + 1) n * 2 ^ 8 + f at
bytes_next f at n = let e : suc at ≡ at + 1 = omega arith in bytes_suc f at n ∙ ap (λ (b : ℕ). bytes.number_of f b n * 2 ^ 8 + f at) e

always_loaded : (F : ℕ → Symbolic) (f : ℕ → ℕ) (at n : ℕ) → ((k : ℕ) → k < n → F (at + k) ≡ always (f (at + k))) → loaded F at n ≡ always (bytes.number_of f at n)
always_loaded F f at zero h = ap always (sym (bytes_none f at))
always_loaded F f at (suc n) h =
    ap (λ (s : Symbolic). symbolics.joined s (loaded F (at + 1) n)) (at_first F (λ b. always (f b)) at (h 0 (omega arith)))
    ∙ ap (symbolics.joined (always (f at))) (always_loaded F f (at + 1) n (λ k lt. at_next F (λ b. always (f b)) at k (h (suc k) (omega (arith, lt)))))
    ∙ ap always (sym (bytes_next f at n))

pub initial_loaded : (p : NumberedProgram) (ns : NodeList) (start : ℕ) (xs : List SymbolicByte) (n : ℕ) → AreInitial xs n →
    always (bytes.number_of (initial_byte p.globals) start n) ≡ loaded (symbolics_from p ns start xs) start n
initial_loaded p ns start xs n h =
    sym (always_loaded (symbolics_from p ns start xs) (initial_byte p.globals) start n (λ k lt. symbolic_at p ns start xs k ∙ ap (λ (s : SymbolicByte). byte_symbolic p ns (start + k) s) (h.each k lt)))
