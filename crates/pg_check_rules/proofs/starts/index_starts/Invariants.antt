use Rattle.std.proofs.Common.{◌≡◌, ℕ, List, drop}
use Rattle.pg_check_types.specs.NameIndex.{known_place}
use Rattle.pg_check_rules.specs.Starts.{names_behind, starts_after, first_start}
use Rattle.pg_check_rules.proofs.starts.index_starts.Given as goal

abbrev pub invariant-loop-name : goal.invariant-loop-name
invariant-loop-name l = (text : List ℕ) → starts_after (known_place l.starts text) (names_behind (drop l.name-index l.names)) text ≡ first_start (names_behind l.names) text
