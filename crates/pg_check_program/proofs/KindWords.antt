-- The words and the widths of constants by the kinds of their types.
use Rattle.std.proofs.Common.{◌≡◌, Option, Some, None, refl}
use Rattle.std.specs.Option.{option_map}
use Rattle.pg_read_ast.specs.Syntax.{Val, Tree}
use Rattle.pg_check_types.specs.Kinds.{kind_of}
use Rattle.pg_check_types.specs.Resolved.{ResolvedType, IntegerType, PointerType, VoidType, ArrayType, NoFields, MoreFields}
use Rattle.pg_check_rules.specs.Constants.{constant_word}
use Rattle.pg_check_rules.specs.Numbered.{width_in}
use Rattle.pg_check_constants.specs.Words.{kind_word, kind_width}

pub word_of_kind : (m : Tree) (t : Option ResolvedType) (v : Val) → kind_word m (option_map kind_of t) v ≡ constant_word m t v
word_of_kind m None v = refl
word_of_kind m (Some (IntegerType w)) v = refl
word_of_kind m (Some PointerType) v = refl
word_of_kind m (Some VoidType) v = refl
word_of_kind m (Some (ArrayType n t)) v = refl
word_of_kind m (Some NoFields) v = refl
word_of_kind m (Some (MoreFields s t)) v = refl

pub width_of_kind : (t : Option ResolvedType) → kind_width (option_map kind_of t) ≡ width_in t
width_of_kind None = refl
width_of_kind (Some (IntegerType w)) = refl
width_of_kind (Some PointerType) = refl
width_of_kind (Some VoidType) = refl
width_of_kind (Some (ArrayType n t)) = refl
width_of_kind (Some NoFields) = refl
width_of_kind (Some (MoreFields s t)) = refl
