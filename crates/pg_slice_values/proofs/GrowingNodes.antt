-- Lists of nodes that grow: what stood there keeps its number.
use Rattle.std.proofs.Common.{◌≡◌, ℕ, zero, suc, ◌+◌, ◌<◌, ◌≤◌, ◌++◌, ℤ, List, [], ◌∷◌, length, Option, arith, refl, ap, sym, ◌∙◌, append_assoc, length-append}
use mathlib.Core.Path.{fun_ext}
use Rattle.pg_precondition.specs.declared.node.Node.{Node}
use Rattle.pg_precondition.specs.Nodes.{NodeList}
use Rattle.pg_precondition.specs.Values.{numbers_behind, numbers_of, node_number, number_of}
use Rattle.pg_slice_rules.specs.SymbolicValues.{Known, Bounded}
use Rattle.pg_slice_values.specs.declared.symbolic_node.SymbolicNode.{SymbolicNode}
use Rattle.pg_slice_values.specs.declared.symbolic_node.SymbolicNode.TheVariants as symbolic_node
use Rattle.pg_slice_values.specs.SymbolicNodes.{Grew, IsSymbolicNode, number_by, symbolic_by}

append_none : (xs : NodeList) → xs ++ [] ≡ xs
append_none [] = refl
append_none (x ∷ xs) = ap (λ (ys : NodeList). x ∷ ys) (append_none xs)

-- ---- growing

pub grew_none : (ns ms : NodeList) → ms ≡ ns → Grew ns ms
grew_none ns ms e = record { behind = []; same = e ∙ sym (append_none ns) }

pub grew_one : (ns ms : NodeList) (n : Node) → ms ≡ ns ++ n ∷ [] → Grew ns ms
grew_one ns ms n e = record { behind = n ∷ []; same = e }

pub grew_then : (first second third : NodeList) → Grew first second → Grew second third → Grew first third
grew_then first second third g h = record { behind = g.behind ++ h.behind; same = h.same ∙ ap (λ (l : NodeList). l ++ h.behind) g.same ∙ append_assoc first g.behind h.behind }

pub length_more : (ns ms : NodeList) (n : Node) → ms ≡ ns ++ n ∷ [] → length ms ≡ length ns + 1
length_more ns ms n e = ap (λ (l : NodeList). length l) e ∙ length-append ns (n ∷ [])

pub grew_length : (old new : NodeList) → Grew old new → length old ≤ length new
grew_length old new g = let e = ap (λ (l : NodeList). length l) g.same ∙ length-append old g.behind in omega (arith, e)

-- ---- numbers

lengthened : (xs : List (Option ℕ)) (x : Option ℕ) → length (xs ++ x ∷ []) ≡ length xs + 1
lengthened xs x = length-append xs (x ∷ [])

behind_length : (input : List ℤ) (known : List (Option ℕ)) (nodes : NodeList) → length (numbers_behind input known nodes) ≡ length known + length nodes
unfolding numbers_behind
behind_length input known [] = omega arith
behind_length input known (n ∷ ns) = let h = behind_length input (known ++ node_number input known n ∷ []) ns in let k = lengthened known (node_number input known n) in omega arith

-- there is a number for each node
pub as_many : (input : List ℤ) (nodes : NodeList) → length (numbers_of input nodes) ≡ length nodes
as_many input nodes = let h = behind_length input [] nodes in omega (arith, h)

before_more : (xs : List (Option ℕ)) (ys : List (Option ℕ)) (k : ℕ) → k < length xs → number_of (xs ++ ys) k ≡ number_of xs k
before_more [] ys k h = absurd (omega arith)
before_more (x ∷ xs) ys zero h = refl
before_more (x ∷ xs) ys (suc k) h = before_more xs ys k (omega arith)

at_end : (xs : List (Option ℕ)) (x : Option ℕ) → number_of (xs ++ x ∷ []) (length xs) ≡ x
at_end [] x = refl
at_end (y ∷ ys) x = at_end ys x

behind_append : (input : List ℤ) (known : List (Option ℕ)) (ns ms : NodeList) → numbers_behind input known (ns ++ ms) ≡ numbers_behind input (numbers_behind input known ns) ms
unfolding numbers_behind
behind_append input known [] ms = refl
behind_append input known (n ∷ ns) ms = behind_append input (known ++ node_number input known n ∷ []) ns ms

behind_keeps : (input : List ℤ) (known : List (Option ℕ)) (nodes : NodeList) (k : ℕ) → k < length known → number_of (numbers_behind input known nodes) k ≡ number_of known k
unfolding numbers_behind
behind_keeps input known [] k h = refl
behind_keeps input known (n ∷ ns) k h =
    let x = node_number input known n in
    let l = lengthened known x in
    behind_keeps input (known ++ x ∷ []) ns k (omega arith) ∙ before_more known (x ∷ []) k h

numbers_one : (input : List ℤ) (ns : NodeList) (n : Node) → numbers_of input (ns ++ n ∷ []) ≡ numbers_of input ns ++ node_number input (numbers_of input ns) n ∷ []
unfolding numbers_behind
numbers_one input ns n = behind_append input [] ns (n ∷ [])

-- the number of the node that was added
pub number_of_new : (ns ms : NodeList) (n : Node) (k : ℕ) (input : List ℤ) → ms ≡ ns ++ n ∷ [] → k ≡ length ns → number_by ms k input ≡ node_number input (numbers_of input ns) n
number_of_new ns ms n k input e l =
    ap (λ (m : NodeList). number_by m k input) e
    ∙ ap (λ (xs : List (Option ℕ)). number_of xs k) (numbers_one input ns n)
    ∙ ap (λ (j : ℕ). number_of (numbers_of input ns ++ node_number input (numbers_of input ns) n ∷ []) j) (l ∙ sym (as_many input ns))
    ∙ at_end (numbers_of input ns) (node_number input (numbers_of input ns) n)

-- the nodes that stood there keep their numbers
pub number_kept : (old new : NodeList) (k : ℕ) (input : List ℤ) → Grew old new → k < length old → number_by new k input ≡ number_by old k input
number_kept old new k input g h =
    ap (λ (m : NodeList). number_by m k input) g.same
    ∙ ap (λ (xs : List (Option ℕ)). number_of xs k) (behind_append input [] old g.behind)
    ∙ behind_keeps input (numbers_of input old) g.behind k (let l = as_many input old in omega arith)

-- ---- symbolic values

pub symbolic_node_more : (m n : ℕ) (s : SymbolicNode) → m ≤ n → IsSymbolicNode m s → IsSymbolicNode n s
symbolic_node_more m n (symbolic_node.Known k j) h i = let a : k < m = i.0 in let b : j < m = i.1 in (omega (arith, h, a), omega (arith, h, b))
symbolic_node_more m n (symbolic_node.Bounded k x) h i = omega arith
symbolic_node_more m n (symbolic_node.Unknown x) h i = tt

pub symbolic_kept : (old new : NodeList) (s : SymbolicNode) → Grew old new → IsSymbolicNode (length old) s → symbolic_by new s ≡ symbolic_by old s
symbolic_kept old new (symbolic_node.Known k j) g h =
    ap (λ f. Known f (number_by new j)) (fun_ext (λ input. number_kept old new k input g h.0)) ∙ ap (λ f. Known (number_by old k) f) (fun_ext (λ input. number_kept old new j input g h.1))
symbolic_kept old new (symbolic_node.Bounded k x) g h = ap (λ f. Bounded f x) (fun_ext (λ input. number_kept old new k input g h))
symbolic_kept old new (symbolic_node.Unknown x) g h = refl
