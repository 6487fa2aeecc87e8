-- How the parts of a body are split into its blocks.
use Rattle.std.specs.Prelude.{◌≡◌, ◌⊎◌, List, [], ◌∷◌, ◌++◌, Option, Some, None, Bool, true, false}
use Rattle.pg_read_grammar.specs.GrammarItems.{Part, LabelPart, LinePart, DroppedPart, ends}
use Rattle.pg_read_ast.specs.Syntax.{Line, Block}
use Rattle.pg_read_ast.specs.declared.names.Name.{Name}

abbrev pub is_label : Part → Bool
is_label (LabelPart n) = true
is_label (LinePart l) = false
is_label DroppedPart = false

-- The parts of one block: a label or a line, and then lines, of which no other than the last ends it.
abbrev pub IsBlock : List Part → Type 0
IsBlock [] = ⊥
IsBlock (p ∷ []) = Unit {0}
IsBlock (p ∷ q ∷ ps) = (ends p ≡ false) × (is_label q ≡ false) × IsBlock (q ∷ ps)

-- the last of these parts ends a block
abbrev pub is_ended : List Part → Bool
is_ended [] = false
is_ended (p ∷ []) = ends p
is_ended (p ∷ q ∷ ps) = is_ended (q ∷ ps)

abbrev pub begins_with_label : List Part → Bool
begins_with_label [] = false
begins_with_label (p ∷ ps) = is_label p

-- Each is a block, and each but the first begins at a label or after one that is ended.
abbrev pub AreBlocks : List (List Part) → Type 0
AreBlocks [] = Unit {0}
AreBlocks (b ∷ []) = IsBlock b
AreBlocks (b ∷ c ∷ bs) = IsBlock b × ((is_ended b ≡ true) ⊎ (begins_with_label c ≡ true)) × AreBlocks (c ∷ bs)

abbrev pub joined : List (List Part) → List Part
joined [] = []
joined (b ∷ bs) = b ++ joined bs

abbrev pub label_of : List Part → Option Name
label_of (LabelPart n ∷ ps) = Some n
label_of _ = None

-- dropped lines aren't kept
abbrev pub lines_of : List Part → List Line
lines_of [] = []
lines_of (LinePart l ∷ ps) = l ∷ lines_of ps
lines_of (p ∷ ps) = lines_of ps

abbrev pub block_of : List Part → Block
block_of ps = record { label = label_of ps; lines = lines_of ps }
