use Rattle.std.proofs.Common.{◌≡◌, ◌≤◌, ◌+◌, ◌++◌, map, drop, sum_by}
use Rattle.pg_num.specs.declared.layout.TheConstants.{GLOBALS_END}
use Rattle.pg_check_rules.specs.Conditions.{granules_of}
use Rattle.pg_read_ast.specs.Views.{global_of}
use Rattle.pg_check_types.specs.NumberedTypes.{named_types}
use Rattle.pg_check_constants.specs.Words.{words_from}
use Rattle.pg_check_constants.proofs.globals.global_words.Given as goal

abbrev pub invariant-loop-global : goal.invariant-loop-global
invariant-loop-global l = record {
  whole : l.words.items ++ words_from (named_types l.types) l.start (map global_of (drop l.global-index l.globals)) ≡ words_from (named_types l.types) 1 (map global_of l.globals);
  room : l.start + sum_by (granules_of (named_types l.types)) (map global_of (drop l.global-index l.globals)) ≤ GLOBALS_END;
}
