-- A law of trees.
use Rattle.std.specs.Prelude.{◌≡◌, ℕ, ◌*◌, ◌^◌, ◌<◌, ◌≤◌, ◌&&◌, nat_le, nat_lt}
use Rattle.std.specs.List.{list_any}
use Rattle.pg_slice_conflicts.specs.Nodes.{path, span}
use Rattle.pg_slice_conflicts.specs.Ranks.{is_among}

-- the nodes from a leaf up meet those that span a range of leaves just where the leaf lies in the range
abbrev pub PathsMeetSpans : Type 0
PathsMeetSpans =
    (levels leaves low high leaf : ℕ) → 2 * leaves ≡ 2 ^ levels → leaves ≤ low → low ≤ 2 * leaves → high ≤ 2 * leaves → leaves ≤ leaf → leaf < 2 * leaves →
    list_any (λ v. is_among v (span levels low high)) (path levels leaf) ≡ (nat_le low leaf && nat_lt leaf high)
