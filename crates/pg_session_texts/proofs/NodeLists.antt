-- Nodes of a list: how many parts they count, and the lines of those from one on.
use Rattle.std.proofs.Common.{◌≡◌, ℕ, zero, suc, ◌+◌, List, [], ◌∷◌, ◌++◌, drop, Some, sym, ap, ◌∙◌, append_assoc, arith}
use Rattle.std.specs.Prelude.{slice_get}
use Rattle.pg_precondition.specs.declared.node.Node.{Node}
use Rattle.pg_precondition.specs.declared.node.Node.TheVariants as node
use Rattle.pg_precondition.specs.Nodes.{IsNode}
use Rattle.pg_session_texts.specs.ConditionTexts.{HasFewParts, value_line, value_lines}

pub few_parts : (k : ℕ) (n : Node) → IsNode k n → HasFewParts n
few_parts k (node.Const n) h = tt
few_parts k (node.In a) h = tt
few_parts k node.InLen h = tt
few_parts k (node.Op op w a b) h = tt
few_parts k (node.Cast cast from to a) h = tt
few_parts k (node.Select c a b) h = tt
few_parts k (node.Gep base delta) h = tt
few_parts k (node.Byte a at) h = tt
few_parts k (node.Join parts count) h = h.2

next_node : (nodes : List Node) (i : ℕ) (n : Node) → slice_get nodes i ≡ Some n → drop i nodes ≡ n ∷ drop (i + 1) nodes
next_node [] i n h = absurd (cc)
next_node (m ∷ nodes) zero n h = let e : m ≡ n = cc in ap (λ x. x ∷ nodes) e
next_node (m ∷ nodes) (suc i) n h = let e : suc i + 1 ≡ suc (i + 1) = omega arith in rw e (next_node nodes i n h)

-- the lines of the nodes from i on begin with that of node i
pub next_lines : (text : List ℕ) (nodes : List Node) (i : ℕ) (n : Node) → slice_get nodes i ≡ Some n
    → (text ++ value_line i n) ++ value_lines (i + 1) (drop (i + 1) nodes) ≡ text ++ value_lines i (drop i nodes)
next_lines text nodes i n h =
    append_assoc text (value_line i n) (value_lines (i + 1) (drop (i + 1) nodes)) ∙ ap (λ ns. text ++ value_lines i ns) (sym (next_node nodes i n h))
