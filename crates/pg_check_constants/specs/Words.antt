-- The words of constants by what is known of them.
use Rattle.std.specs.Prelude.{ℕ, ◌+◌, List, [], ◌∷◌, Option, Some, unwrap_or}
use Rattle.pg_num.specs.Pointers.{word_of}
use Rattle.pg_num.specs.declared.width.Width.{Width}
use Rattle.pg_num.specs.declared.width.Width.TheVariants.{W64}
use Rattle.pg_ir.specs.WellFormed.{granules_for}
use Rattle.pg_read_ast.specs.Syntax.{Val, NamedType, Variable, Tree}
use Rattle.pg_check_types.specs.Resolved.{resolved}
use Rattle.pg_check_types.specs.Layout.{size_or_none}
use Rattle.pg_check_types.specs.declared.kind.TypeKind.{TypeKind}
use Rattle.pg_check_types.specs.declared.kind.TypeKind.TheVariants as kind
use Rattle.pg_check_rules.specs.ValueConditions.{constant_number}
use Rattle.pg_check_rules.specs.Constants.{pointer_word}

-- the words of the pointers to globals that lie from a granule on
unfoldable pub words_from : List NamedType → ℕ → List Variable → List ℕ
words_from types start [] = []
words_from types start (v ∷ vs) =
    word_of (record { start = start; length = size_or_none (resolved types v.ty); offset = 0 })
    ∷ words_from types (start + granules_for (size_or_none (resolved types v.ty))) vs

-- the number of a constant by the kind of its type
abbrev pub kind_word : Tree → Option TypeKind → Val → ℕ
kind_word m (Some (kind.Integer w)) v = unwrap_or (constant_number w v) 0
kind_word m (Some kind.Pointer) v = pointer_word m v
kind_word m _ v = 0

-- the width of the values of a kind of type
abbrev pub kind_width : Option TypeKind → Width
kind_width (Some (kind.Integer w)) = w
kind_width _ = W64
