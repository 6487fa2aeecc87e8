use Rattle.std.proofs.Common.{◌≡◌, ◌++◌, length, map, drop}
use Rattle.std.specs.List.{filter_map}
use Rattle.pg_read_ast.specs.Numbers.{each_at, behind_all, line_at, behind_line}
use Rattle.pg_read_ast.specs.Views.{line_of}
use Rattle.pg_check_types.specs.NumberedTypes.{named_types}
use Rattle.pg_check_rules.specs.Names.{line_register}
use Rattle.pg_check_names.specs.Registers.{registers_by}
use Rattle.pg_check_names.proofs.naming.add_lines.Given as goal

abbrev pub invariant-loop-line : goal.invariant-loop-line
invariant-loop-line l =
    let types = named_types l.types in
    record {
      registers : registers_by types l.names.items l.kinds.items ++ filter_map (line_register types) (each_at (behind_line types) (line_at types) l.next (map line_of (drop l.line-index l.lines)))
          ≡ registers_by types l.fn.names.items l.fn.kinds.items ++ filter_map (line_register types) (each_at (behind_line types) (line_at types) l.fn.next (map line_of l.lines));
      next : behind_all (behind_line types) l.next (map line_of (drop l.line-index l.lines)) ≡ behind_all (behind_line types) l.fn.next (map line_of l.lines);
      lengths : length l.kinds.items ≡ length l.names.items;
    }
