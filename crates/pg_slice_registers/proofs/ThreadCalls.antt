-- The calls of a thread, of which one is entered, left or changed.
use Rattle.std.proofs.Common.{◌≡◌, ℕ, zero, suc, ◌<◌, List, [], ◌∷◌, ◌++◌, length, replicate, reverse, Bool, true, false, refl, ap, ◌∙◌}
use Rattle.std.proofs.lemmas.List.{reverse-append}
use Rattle.pg_precondition.specs.Nodes.{NodeList}
use Rattle.pg_slice_rules.specs.SymbolicValues.{Symbolic}
use Rattle.pg_slice_rules.specs.Known.{top_of, under_top, with_top}
use Rattle.pg_slice_values.specs.declared.symbolic_node.SymbolicNode.{SymbolicNode}
use Rattle.pg_slice_values.specs.SymbolicNodes.{Grew, IsSymbolicNode, symbolic_by}
use Rattle.pg_slice_registers.specs.SymbolicRegisterNodes.{AreCalls, AreSymbolicNodes, CallList, calls_by, calls_of, registers_by, top_symbolic_nodes, under_symbolic_nodes}
use Rattle.pg_slice_registers.proofs.KeptValues.{registers_kept, symbolic_nodes_kept}

-- ---- while nodes are added

pub calls_kept : (old new : NodeList) (calls : CallList) → Grew old new → AreCalls (length old) calls → calls_by new calls ≡ calls_by old calls
calls_kept old new [] g h = refl
calls_kept old new (rs ∷ calls) g h = ap (λ (x : List Symbolic). x ∷ calls_by new calls) (registers_kept old new rs g h.0)
    ∙ ap (λ (xs : List (List Symbolic)). registers_by old rs ∷ xs) (calls_kept old new calls g h.1)

pub calls_stay : (old new : NodeList) (calls : CallList) → Grew old new → AreCalls (length old) calls → AreCalls (length new) calls
calls_stay old new [] g h = tt
calls_stay old new (rs ∷ calls) g h = (symbolic_nodes_kept old new rs g h.0, calls_stay old new calls g h.1)

-- ---- the present call

pub top_are : (n : ℕ) (calls : CallList) → AreCalls n calls → AreSymbolicNodes n (top_symbolic_nodes calls)
top_are n [] a = tt
top_are n (rs ∷ calls) a = a.0

pub top_by : (ns : NodeList) (calls : CallList) → registers_by ns (top_symbolic_nodes calls) ≡ top_of (calls_by ns calls)
top_by ns [] = refl
top_by ns (rs ∷ calls) = refl

pub with_top_by : (ns : NodeList) (f : List Symbolic → List Symbolic) (present new : List SymbolicNode) (callers : CallList) (ended : Bool) →
    registers_by ns new ≡ f (registers_by ns present) → calls_by ns (calls_of new callers ended) ≡ with_top f (calls_by ns (calls_of present callers ended))
with_top_by ns f present new callers true e = refl
with_top_by ns f present new callers false e = ap (λ (x : List Symbolic). x ∷ calls_by ns (reverse callers)) e

pub with_top_are : (n : ℕ) (present new : List SymbolicNode) (callers : CallList) (ended : Bool) → (AreSymbolicNodes n present → AreSymbolicNodes n new) →
    AreCalls n (calls_of present callers ended) → AreCalls n (calls_of new callers ended)
with_top_are n present new callers true h a = tt
with_top_are n present new callers false h a = (h a.0, a.1)

-- the present call was changed, and nodes were added
pub across : (old new : NodeList) (f : List Symbolic → List Symbolic) (present after : List SymbolicNode) (callers : CallList) (ended : Bool) → Grew old new →
    AreCalls (length old) (calls_of present callers ended) → registers_by new after ≡ f (registers_by old present) →
    calls_by new (calls_of after callers ended) ≡ with_top f (calls_by old (calls_of present callers ended))
across old new f present after callers true g a e = refl
across old new f present after callers false g a e = ap (λ (x : List Symbolic). x ∷ calls_by new (reverse callers)) e
    ∙ ap (λ (cs : List (List Symbolic)). f (registers_by old present) ∷ cs) (calls_kept old new (reverse callers) g a.1)

pub across_are : (old new : NodeList) (present after : List SymbolicNode) (callers : CallList) (ended : Bool) → Grew old new → AreCalls (length old) (calls_of present callers ended) →
    AreSymbolicNodes (length new) after → AreCalls (length new) (calls_of after callers ended)
across_are old new present after callers true g a h = tt
across_are old new present after callers false g a h = (h, calls_stay old new (reverse callers) g a.1)

-- a thread that has ended stays as it is
pub ended_same : (old new : NodeList) (f : List Symbolic → List Symbolic) (present : List SymbolicNode) (callers : CallList) (ended : Bool) → ended ≡ true →
    calls_by new (calls_of present callers ended) ≡ with_top f (calls_by old (calls_of present callers ended))
ended_same old new f present callers true h = refl
ended_same old new f present callers false h = absurd cc

pub ended_are : (n : ℕ) (present : List SymbolicNode) (callers : CallList) (ended : Bool) → ended ≡ true → AreCalls n (calls_of present callers ended)
ended_are n present callers true h = tt
ended_are n present callers false h = absurd cc

-- ---- a call that is entered or left

pub pushed : (present : List SymbolicNode) (callers : CallList) (ended : Bool) (fresh : List SymbolicNode) (after : CallList) → ended ≡ false →
    after ≡ callers ++ present ∷ [] → calls_of fresh after ended ≡ fresh ∷ calls_of present callers ended
pushed present callers true fresh after h e = absurd cc
pushed present callers false fresh after h e = ap (λ (l : CallList). fresh ∷ reverse l) e ∙ ap (λ (l : CallList). fresh ∷ l) (reverse-append callers (present ∷ []))

pub under_by : (ns : NodeList) (calls : CallList) → calls_by ns (under_symbolic_nodes calls) ≡ under_top (calls_by ns calls)
under_by ns [] = refl
under_by ns (rs ∷ calls) = refl

pub under_are : (n : ℕ) (calls : CallList) → AreCalls n calls → AreCalls n (under_symbolic_nodes calls)
under_are n [] a = tt
under_are n (rs ∷ calls) a = a.1

-- ---- registers that were never set

pub blanks_by : (ns : NodeList) (rs : List SymbolicNode) (s : SymbolicNode) (n : ℕ) (x : Symbolic) → symbolic_by ns s ≡ x → registers_by ns (rs ++ replicate n s) ≡ registers_by ns rs ++ replicate n x
blanks_by ns [] s zero x e = refl
blanks_by ns [] s (suc n) x e = ap (λ (y : Symbolic). y ∷ registers_by ns (replicate n s)) e ∙ ap (λ (xs : List Symbolic). x ∷ xs) (blanks_by ns [] s n x e)
blanks_by ns (r ∷ rs) s n x e = ap (λ (xs : List Symbolic). symbolic_by ns r ∷ xs) (blanks_by ns rs s n x e)

pub blanks_are : (m : ℕ) (rs : List SymbolicNode) (s : SymbolicNode) (n : ℕ) → AreSymbolicNodes m rs → IsSymbolicNode m s → AreSymbolicNodes m (rs ++ replicate n s)
blanks_are m [] s zero a h = tt
blanks_are m [] s (suc n) a h = (h, blanks_are m [] s n tt h)
blanks_are m (r ∷ rs) s n a h = (a.0, blanks_are m rs s n a.1 h)
