-- Layouts as they are kept: exact up to a number of bytes, and this number for all that is larger.
use Rattle.std.specs.Prelude.{◌≡◌, ℕ, min, length}
use Rattle.pg_check_types.specs.declared.cap.TheConstants.{LAYOUT_CAP}
use Rattle.pg_check_types.specs.declared.layout.Layout.{Layout}
use Rattle.pg_check_types.specs.Resolved.{ResolvedType}
use Rattle.pg_check_types.specs.Layout.{size_of, fields_end, alignment_of, field_list}

abbrev pub capped : ℕ → ℕ
capped n = min n LAYOUT_CAP

-- the layout of a type
pub record IsLayout (l : Layout) (t : ResolvedType) : Type 0 where
  pub size : l.size ≡ capped (size_of t)
  pub fields_end : l.fields_end ≡ capped (fields_end t)
  pub alignment : l.alignment ≡ alignment_of t
  pub fields : l.fields ≡ length (field_list t)
