-- The canonical text of a canonical text's module is that text.
use Rattle.std.proofs.Common.{◌≡◌, ℕ, ◌<◌, List, All, sym, ap, ◌∙◌}
use Rattle.pg_read_ast.specs.Syntax.{Tree}
use Rattle.pg_read_ast.specs.Text.{tree_text}
use Rattle.pg_read_ast.specs.Numbers.{numbered_tree, canonical_text}
use Rattle.pg_read_grammar.specs.Accepted.{IsModule}
use Rattle.pg_read_grammar.proofs.TextLaws.{module_once}
use Rattle.pg_law_canonical.specs.Spans.{without_spans}
use Rattle.pg_law_canonical.proofs.Placeless.{tree_same}
use Rattle.pg_law_canonical.proofs.Renumbering.{tree_numbers_same, tree_twice}
use Rattle.pg_law_canonical.proofs.RoundTrip.{round_trip}

canonical_same : (m : Tree) → canonical_text (without_spans m) ≡ canonical_text m
unfolding canonical_text
canonical_same m = ap tree_text (tree_numbers_same m) ∙ tree_same (numbered_tree m)

canonical_twice : (m : Tree) → canonical_text (numbered_tree m) ≡ canonical_text m
unfolding canonical_text
canonical_twice m = ap tree_text (tree_twice m)

pub written_again : (text : List ℕ) (m n : Tree) → All (λ b. b < 256) text → IsModule text m → IsModule (canonical_text m) n → canonical_text n ≡ canonical_text m
written_again text m n h i j = let q = round_trip text m h i in
    ap canonical_text (module_once (canonical_text m) n q.0 j q.1) ∙ sym (canonical_same q.0) ∙ ap canonical_text q.2 ∙ canonical_same (numbered_tree m) ∙ canonical_twice m
