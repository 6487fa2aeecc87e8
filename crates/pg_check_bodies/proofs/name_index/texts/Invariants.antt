use Rattle.std.proofs.Common.{◌≡◌, map, take}
use Rattle.pg_check_types.specs.NameIndex.{texts_of}
use Rattle.pg_check_rules.specs.Starts.{names_behind}
use Rattle.pg_check_bodies.specs.BodyBlocks.{name_text}
use Rattle.pg_check_bodies.proofs.name_index.texts.Given as goal

abbrev pub invariant-loop-name : goal.invariant-loop-name
invariant-loop-name l = texts_of l.all.items ≡ map name_text (names_behind (take l.name-index l.names))
