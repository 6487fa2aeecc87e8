use Rattle.std.proofs.Common.{◌≡◌, ℕ, List, map, take}
use Rattle.std.specs.List.{flat_map, enumerate_from}
use Rattle.pg_read_ast.specs.declared.names.Name.{Name}
use Rattle.pg_read_ast.specs.Syntax.{Block}
use Rattle.pg_check_types.specs.NameIndex.{known_place}
use Rattle.pg_check_rules.specs.Earliest.{earliest}
use Rattle.pg_check_rules.specs.Names.{label_number}
use Rattle.pg_check_rules.specs.BlockConditions.{bad_phis}
use Rattle.pg_check_bodies.specs.BodyBlocks.{named_block}
use Rattle.pg_check_bodies.proofs.blocks.bad_phis.Given as goal

abbrev pub invariant-loop-number : goal.invariant-loop-number
invariant-loop-number l = (all : List Name) → ((text : List ℕ) → known_place l.labels text ≡ label_number all text) →
    l.found ≡ earliest (flat_map (λ (b : ℕ × Block). bad_phis all (map named_block l.blocks) b.0 b.1) (enumerate_from 0 (map named_block (take l.number l.blocks))))
