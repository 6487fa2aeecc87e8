use Rattle.std.proofs.Common.{◌≡◌, map, take}
use Rattle.pg_check_types.specs.NameIndex.{texts_of}
use Rattle.pg_check_program.specs.FunctionRows.{text_in}
use Rattle.pg_check_program.proofs.function_rows.name_texts.Given as goal

abbrev pub invariant-loop-name : goal.invariant-loop-name
invariant-loop-name l = texts_of l.texts.items ≡ map text_in (take l.name-index l.names)
