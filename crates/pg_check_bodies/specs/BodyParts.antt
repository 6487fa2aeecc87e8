-- What the body of a function is refused for, in its parts.
use Rattle.std.specs.Prelude.{◌≡◌, ℕ, Bool, List, [], length}
use Rattle.std.specs.List.{flat_map, list_any, enumerate_from}
use Rattle.pg_read_ast.specs.Syntax.{NamedType, Line, Block, Definition, Tree}
use Rattle.pg_read_ast.specs.Numbers.{numbered}
use Rattle.pg_check_calls.specs.pg_check_names.declared.naming.OwnNames.{OwnNames}
use Rattle.pg_check_calls.specs.pg_check_names.Registers.{registers_by}
use Rattle.pg_check_rules.specs.declared.fault.CheckKind.TheVariants.{Doubled, NoBlock, BadPhi, TooLarge}
use Rattle.pg_check_rules.specs.Names.{doubled, labels_of, registers_of}
use Rattle.pg_check_rules.specs.TypeConditions.{any_large}
use Rattle.pg_check_rules.specs.ValueConditions.{Scope}
use Rattle.pg_check_rules.specs.LineConditions.{line_refused, line_types}
use Rattle.pg_check_rules.specs.BlockConditions.{bad_phis}
use Rattle.pg_check_rules.specs.Conditions.{RefusedPlaces, at_if, all_of, own_names, body_names, is_unfinished, is_too_large}

abbrev pub block_refused : Scope → Block → RefusedPlaces
block_refused g b = all_of (line_refused g) b.lines

abbrev pub is_large_line : List NamedType → Line → Bool
is_large_line types l = any_large types (line_types l.op)

abbrev pub is_large_block : List NamedType → Block → Bool
is_large_block types b = list_any (is_large_line types) b.lines

-- what the body is refused for as a whole, its lines aside
abbrev pub whole_refused : Tree → ℕ → Definition → RefusedPlaces
whole_refused m lines d Doubled = flat_map (doubled (own_names m.types d)) (body_names m.types d)
whole_refused m lines d NoBlock = at_if (is_unfinished d) d.name.span
whole_refused m lines d BadPhi = flat_map (λ (b : ℕ × Block). bad_phis (labels_of d) d.blocks b.0 b.1) (enumerate_from 0 d.blocks)
whole_refused m lines d TooLarge = at_if (is_too_large m lines d) d.name.span
whole_refused m lines d _ = []

-- the names of a function's own, in which each parameter, block and result has its name
pub record AreOwn (types : List NamedType) (d : Definition) (o : OwnNames) : Type 0 where
  pub labels : o.labels.items ≡ labels_of (numbered types d)
  pub registers : registers_by types o.registers.items o.types.items ≡ registers_of types (numbered types d)
  pub lengths : length o.types.items ≡ length o.registers.items
