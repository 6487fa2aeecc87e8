-- Where the names stand that a function writes before its parameters, blocks and results.
use Rattle.std.specs.Prelude.{ℕ, ◌&&◌, nat_lt, Bool, true, List, [], ◌∷◌, ◌++◌, Option, Some, None}
use Rattle.std.specs.List.{list_all, flat_map}
use Rattle.pg_read_ast.specs.declared.names.Name.{Name}
use Rattle.pg_read_ast.specs.Syntax.{Line, Block, Param, Definition, Tree}

abbrev pub written : Option Name → List Name
written (Some n) = n ∷ []
written None = []

abbrev pub lines_names : List Line → List Name
lines_names ls = flat_map (λ (l : Line). written l.name) ls

abbrev pub block_names : Block → List Name
block_names b = written b.label ++ lines_names b.lines

-- the names that a function writes: its parameters', and block by block its label's and its lines'
abbrev pub written_names : Definition → List Name
written_names d = flat_map (λ (p : Param). written p.name) d.params ++ flat_map block_names d.blocks

-- each name starts behind the start of the one before it, the first behind this place
abbrev pub ascend : ℕ → List Name → Bool
ascend at [] = true
ascend at (n ∷ ns) = nat_lt at n.span.start && ascend n.span.start ns

-- so do the names of each function, none of which stands at the text's begin
abbrev pub all_ascend : Tree → Bool
all_ascend t = list_all (λ (d : Definition). ascend 0 (written_names d)) t.functions
