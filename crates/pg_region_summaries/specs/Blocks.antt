-- The basic blocks of a function.
use Rattle.std.specs.Prelude.{ℕ, zero, suc, ◌==◌, List, [], ◌∷◌, ◌++◌, length, if◌then◌else◌}
use Rattle.pg_ir.specs.Program.{NumberedProgram, function_of}

-- those of the first n blocks of a program that stand in function f, in text order
abbrev pub blocks_below : NumberedProgram → ℕ → ℕ → List ℕ
blocks_below p f zero = []
blocks_below p f (suc b) = blocks_below p f b ++ (if function_of p b == f then b ∷ [] else [])

-- the blocks of a function, in text order
unfoldable pub blocks_of : NumberedProgram → ℕ → List ℕ
blocks_of p f = blocks_below p f (length p.blocks)
