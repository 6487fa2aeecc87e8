-- Registers that are set, or forgotten.
use Rattle.std.proofs.Common.{◌≡◌, ℕ, zero, suc, ◌+◌, ◌<◌, ◌≤◌, List, [], ◌∷◌, ◌++◌, length, take, drop, Bool, true, false, Some, slice_get, slice_index_or}
use Rattle.std.proofs.Common.{slice_set, cond, arith, refl, ap, sym, ◌∙◌, subst}
use Rattle.pg_ir.specs.declared.instr.Instr.{Instr}
use Rattle.pg_precondition.specs.Nodes.{NodeList}
use Rattle.pg_slice_rules.specs.declared.decision.Decision.{Decision}
use Rattle.pg_slice_rules.specs.SymbolicValues.{Symbolic, Unknown}
use Rattle.pg_slice_rules.specs.Known as along
use Rattle.pg_slice_values.specs.declared.symbolic_node.SymbolicNode.{SymbolicNode}
use Rattle.pg_slice_values.specs.declared.symbolic_node.SymbolicNode.TheVariants as symbolic_node
use Rattle.pg_slice_values.specs.SymbolicNodes.{IsSymbolicNode, symbolic_by}
use Rattle.pg_slice_registers.specs.SymbolicRegisterNodes.{AreSymbolicNodes, registers_by}

pub set_by : (ns : NodeList) (rs : List SymbolicNode) (r : ℕ) (s : SymbolicNode) → registers_by ns (slice_set rs r s) ≡ slice_set (registers_by ns rs) r (symbolic_by ns s)
set_by ns [] r s = refl
set_by ns (x ∷ rs) zero s = refl
set_by ns (x ∷ rs) (suc r) s = ap (λ (xs : List Symbolic). symbolic_by ns x ∷ xs) (set_by ns rs r s)

pub set_past : (rs : List SymbolicNode) (r : ℕ) (s : SymbolicNode) → length rs ≤ r → slice_set rs r s ≡ rs
set_past [] r s h = refl
set_past (x ∷ rs) zero s h = absurd (omega arith)
set_past (x ∷ rs) (suc r) s h = ap (λ (xs : List SymbolicNode). x ∷ xs) (set_past rs r s (omega arith))

pub set_symbolic_nodes : (n : ℕ) (rs : List SymbolicNode) (r : ℕ) (s : SymbolicNode) → AreSymbolicNodes n rs → IsSymbolicNode n s → AreSymbolicNodes n (slice_set rs r s)
set_symbolic_nodes n [] r s a h = tt
set_symbolic_nodes n (x ∷ rs) zero s a h = (h, a.1)
set_symbolic_nodes n (x ∷ rs) (suc r) s a h = (a.0, set_symbolic_nodes n rs r s a.1 h)

-- ---- forgetting, register by register

pub forgotten : ℕ → (ℕ → Bool) → Decision → List SymbolicNode → List SymbolicNode
forgotten i sets x [] = []
forgotten i sets x (s ∷ rs) = cond (sets i) (symbolic_node.Unknown x) s ∷ forgotten (suc i) sets x rs

pub forgotten_none : (i : ℕ) (sets : ℕ → Bool) (x : Decision) → forgotten i sets x [] ≡ []
unfolding forgotten
forgotten_none i sets x = refl

one_by : (ns : NodeList) (b : Bool) (x : Decision) (s : SymbolicNode) → symbolic_by ns (cond b (symbolic_node.Unknown x) s) ≡ cond b (Unknown x) (symbolic_by ns s)
one_by ns true x s = refl
one_by ns false x s = refl

pub forgotten_by : (ns : NodeList) (i : ℕ) (sets : ℕ → Bool) (x : Decision) (rs : List SymbolicNode) → registers_by ns (forgotten i sets x rs) ≡ along.forgotten_from i sets x (registers_by ns rs)
unfolding forgotten
forgotten_by ns i sets x [] = refl
forgotten_by ns i sets x (s ∷ rs) =
    ap (λ (y : Symbolic). y ∷ registers_by ns (forgotten (suc i) sets x rs)) (one_by ns (sets i) x s)
    ∙ ap (λ (xs : List Symbolic). cond (sets i) (Unknown x) (symbolic_by ns s) ∷ xs) (forgotten_by ns (suc i) sets x rs)

one_is : (n : ℕ) (b : Bool) (x : Decision) (s : SymbolicNode) → IsSymbolicNode n s → IsSymbolicNode n (cond b (symbolic_node.Unknown x) s)
one_is n true x s h = tt
one_is n false x s h = h

pub forgotten_symbolic_nodes : (n i : ℕ) (sets : ℕ → Bool) (x : Decision) (rs : List SymbolicNode) → AreSymbolicNodes n rs → AreSymbolicNodes n (forgotten i sets x rs)
unfolding forgotten
forgotten_symbolic_nodes n i sets x [] a = tt
forgotten_symbolic_nodes n i sets x (s ∷ rs) a = (one_is n (sets i) x s a.0, forgotten_symbolic_nodes n (suc i) sets x rs a.1)

-- one register more: those below i are done
one_from : (sets : ℕ → Bool) (x : Decision) (base i : ℕ) (rs : List SymbolicNode) (d v : SymbolicNode) → i < length rs → v ≡ cond (sets (base + i)) (symbolic_node.Unknown x) (slice_index_or rs i d) →
    take (i + 1) (slice_set rs i v) ++ forgotten (base + (i + 1)) sets x (drop (i + 1) (slice_set rs i v)) ≡ take i rs ++ forgotten (base + i) sets x (drop i rs)
unfolding forgotten
one_from sets x base i [] d v h e = absurd (omega arith)
one_from sets x base zero (s ∷ rs) d v h e =
    let k : base + (zero + 1) ≡ suc (base + zero) = omega arith in
    rw k (ap (λ y. y ∷ forgotten (suc (base + zero)) sets x rs) e)
one_from sets x base (suc i) (s ∷ rs) d v h e =
    let k : base + suc i ≡ suc base + i = omega arith in
    let l : suc i + 1 ≡ suc (i + 1) = omega arith in
    let m : base + suc (i + 1) ≡ suc base + (i + 1) = omega arith in
    rw (l, m, k) (ap (λ (xs : List SymbolicNode). s ∷ xs) (one_from sets x (suc base) i rs d v (omega arith) (e ∙ ap (λ j. cond (sets j) (symbolic_node.Unknown x) (slice_index_or rs i d)) k)))

pub one_more : (sets : ℕ → Bool) (x : Decision) (i : ℕ) (rs : List SymbolicNode) (d v : SymbolicNode) → i < length rs → v ≡ cond (sets i) (symbolic_node.Unknown x) (slice_index_or rs i d) →
    take (i + 1) (slice_set rs i v) ++ forgotten (i + 1) sets x (drop (i + 1) (slice_set rs i v)) ≡ take i rs ++ forgotten i sets x (drop i rs)
one_more sets x i rs d v h e =
    let k : 0 + i ≡ i = omega arith in
    let l : 0 + (i + 1) ≡ i + 1 = omega arith in
    ap (λ j. take (i + 1) (slice_set rs i v) ++ forgotten j sets x (drop (i + 1) (slice_set rs i v))) (sym l)
    ∙ one_from sets x 0 i rs d v h (e ∙ ap (λ j. cond (sets j) (symbolic_node.Unknown x) (slice_index_or rs i d)) (sym k))
    ∙ ap (λ j. take i rs ++ forgotten j sets x (drop i rs)) k

nothing_left : (i : ℕ) (rs : List SymbolicNode) → length rs ≤ i → (drop i rs ≡ []) × (take i rs ≡ rs)
nothing_left zero [] h = (refl, refl)
nothing_left (suc i) [] h = (refl, refl)
nothing_left zero (s ∷ rs) h = absurd (omega arith)
nothing_left (suc i) (s ∷ rs) h = let k = nothing_left i rs (omega arith) in (k.0, ap (λ (xs : List SymbolicNode). s ∷ xs) k.1)

append_none : (rs : List SymbolicNode) → rs ++ [] ≡ rs
append_none [] = refl
append_none (s ∷ rs) = ap (λ (xs : List SymbolicNode). s ∷ xs) (append_none rs)

pub all_done : (i : ℕ) (sets : ℕ → Bool) (x : Decision) (rs : List SymbolicNode) → length rs ≤ i → take i rs ++ forgotten i sets x (drop i rs) ≡ rs
all_done i sets x rs h =
    let k = nothing_left i rs h in
    ap (λ (xs : List SymbolicNode). take i rs ++ forgotten i sets x xs) k.0 ∙ ap (λ (xs : List SymbolicNode). take i rs ++ xs) (forgotten_none i sets x) ∙ append_none (take i rs) ∙ k.1

-- ---- the phis of a block

pub phis_done : (rs ss : List Symbolic) (xs : List Instr) (i : ℕ) → length xs ≤ i → along.set_phis rs (drop i xs) ss ≡ rs
phis_done rs ss [] zero h = refl
phis_done rs ss [] (suc i) h = refl
phis_done rs ss (x ∷ xs) zero h = absurd (omega arith)
phis_done rs ss (x ∷ xs) (suc i) h = phis_done rs ss xs i (omega arith)

-- one phi more
pub one_phi : (ns : NodeList) (rs new : List SymbolicNode) (xs : List Instr) (vs : List SymbolicNode) (i : ℕ) (x : Instr) (d : SymbolicNode) → i < length xs → length vs ≡ length xs →
    registers_by ns new ≡ along.set_symbolic (slice_index_or xs i x).result (symbolic_by ns (slice_index_or vs i d)) (registers_by ns rs) →
    along.set_phis (registers_by ns new) (drop (i + 1) xs) (registers_by ns (drop (i + 1) vs)) ≡ along.set_phis (registers_by ns rs) (drop i xs) (registers_by ns (drop i vs))
one_phi ns rs new [] vs i x d h l f = absurd (omega arith)
one_phi ns rs new (y ∷ xs) [] i x d h l f = absurd (omega arith)
one_phi ns rs new (y ∷ xs) (v ∷ vs) zero x d h l f = ap (λ (zs : List Symbolic). along.set_phis zs xs (registers_by ns vs)) f
one_phi ns rs new (y ∷ xs) (v ∷ vs) (suc i) x d h l f = let k : suc i + 1 ≡ suc (i + 1) = omega arith in rw k (one_phi ns rs new xs vs i x d (omega arith) (omega arith) f)

pub symbolic_node_at : (n : ℕ) (vs : List SymbolicNode) (i : ℕ) (d : SymbolicNode) → AreSymbolicNodes n vs → i < length vs → IsSymbolicNode n (slice_index_or vs i d)
symbolic_node_at n [] i d a h = absurd (omega arith)
symbolic_node_at n (v ∷ vs) zero d a h = a.0
symbolic_node_at n (v ∷ vs) (suc i) d a h = symbolic_node_at n vs i d a.1 (omega arith)

pub symbolic_node_got : (n : ℕ) (vs : List SymbolicNode) (i : ℕ) (s : SymbolicNode) → AreSymbolicNodes n vs → Some s ≡ slice_get vs i → IsSymbolicNode n s
symbolic_node_got n [] i s a e = absurd cc
symbolic_node_got n (v ∷ vs) zero s a e = let h : v ≡ s = cc in subst (λ (x : SymbolicNode). IsSymbolicNode n x) h a.0
symbolic_node_got n (v ∷ vs) (suc i) s a e = symbolic_node_got n vs i s a.1 e

-- a vector that was lent as a slice
pub lent : (n : ℕ) (rs rest : List SymbolicNode) → n ≡ length rs → take n (rs ++ rest) ≡ rs
lent zero [] rest e = refl
lent (suc n) [] rest e = absurd (omega arith)
lent zero (s ∷ rs) rest e = absurd (omega arith)
lent (suc n) (s ∷ rs) rest e = ap (λ (xs : List SymbolicNode). s ∷ xs) (lent n rs rest (omega arith))
