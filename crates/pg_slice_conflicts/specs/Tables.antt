-- What the tables of a pass keep: one of the nodes that span the touches' places, one of those over their first places.
use Rattle.std.specs.Prelude.{◌≡◌, ℕ, ◌+◌, ◌*◌, ◌^◌, ◌≤◌, ◌&&◌, ◌||◌, nat_lt, List, [], Bool, if◌then◌else◌}
use Rattle.std.specs.List.{list_any}
use Rattle.pg_run_trace.specs.declared.best.Best.{Best}
use Rattle.pg_slice_conflicts.specs.declared.pass.Touch.{Touch}
use Rattle.pg_slice_conflicts.specs.declared.tree.Tree.{Tree}
use Rattle.pg_slice_conflicts.specs.Nodes.{path, span}
use Rattle.pg_slice_conflicts.specs.Ranks.{AreBest, any_above, gives, has_above, is_among}

-- each level has twice as many nodes as the one above it, the lowest has the leaves, and a word holds the number of nodes
pub record IsTree (t : Tree) : Type 0 where
  pub leaves : 2 * t.leaves ≡ 2 ^ t.levels
  pub few : t.levels ≤ 63

-- the node of a place
abbrev pub leaf : Tree → ℕ → ℕ
leaf t k = t.leaves + k

-- its places lie in the tree
abbrev pub IsWithin : Tree → Touch → Type 0
IsWithin t x = x.end ≤ t.leaves

-- it gives, at one place or more
abbrev pub is_noted : Touch → Bool
is_noted x = x.gives && nat_lt x.first x.end

abbrev pub nodes_if : Bool → List ℕ → List ℕ
nodes_if b vs = if b then vs else []

-- the nodes where a touch is noted in the one table, and in the other
abbrev pub spanned : Tree → Touch → List ℕ
spanned t x = nodes_if (is_noted x) (span t.levels (leaf t x.first) (leaf t x.end))

abbrev pub started : Tree → Touch → List ℕ
started t x = nodes_if (is_noted x) (path t.levels (leaf t x.first))

-- a table keeps the greatest ranks of these touches, each noted at its nodes
pub record Keeps (nodes : Touch → List ℕ) (table : List Best) (xs : List Touch) : Type 0 where
  pub best : AreBest table
  pub above : (v u need : ℕ) → has_above table v u need ≡ list_any (λ x. is_among v (nodes x) && gives x u need) xs

-- by the tables, y is answered: by one that spans its first place, or by one that begins among its places
abbrev pub is_answered : Tree → List Best → List Best → Touch → Bool
is_answered t spans starts y =
    (y.asks && nat_lt y.first y.end)
    && (any_above spans y (path t.levels (leaf t y.first)) || any_above starts y (span t.levels (leaf t y.first) (leaf t y.end)))
