-- Where the ending lines of a module stand.
use Rattle.std.specs.Prelude.{List, [], ◌∷◌, Bool, true, ◌&&◌, not}
use Rattle.std.specs.List.{list_all}
use Rattle.pg_read_grammar.specs.GrammarItems.{ends_block}
use Rattle.pg_read_ast.specs.Syntax.{Line, Block, Tree}

-- no line stands after a br, a switch, a ret or an unreachable
abbrev pub ends_last : List Line → Bool
ends_last [] = true
ends_last (l ∷ []) = true
ends_last (l ∷ m ∷ ls) = not (ends_block l.op) && ends_last (m ∷ ls)

abbrev pub end_last : List Block → Bool
end_last bs = list_all (λ b. ends_last b.lines) bs

-- so in each block of each function
abbrev pub all_end_last : Tree → Bool
all_end_last t = list_all (λ f. end_last f.blocks) t.functions
