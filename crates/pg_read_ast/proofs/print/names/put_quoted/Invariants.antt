use Rattle.std.proofs.Common.{◌≡◌, ◌++◌, take, flat_map}
use Rattle.pg_read_ast.specs.Text.{escaped_byte}
use Rattle.pg_read_ast.proofs.print.names.put_quoted.Given as goal

abbrev pub invariant-loop-byte : goal.invariant-loop-byte
invariant-loop-byte l = l.out.items ≡ l.initial.out.items ++ flat_map escaped_byte (take l.byte-index l.text)
