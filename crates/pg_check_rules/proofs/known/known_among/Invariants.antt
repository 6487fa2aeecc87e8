use Rattle.std.proofs.Common.{◌≡◌, drop}
use Rattle.std.specs.List.{find}
use Rattle.std.specs.Str.{bytes_eq}
use Rattle.pg_check_rules.specs.KnownNames.{known_name}
use Rattle.pg_check_rules.proofs.known.known_among.Given as goal

abbrev pub invariant-loop-function : goal.invariant-loop-function
invariant-loop-function l = find (λ k. bytes_eq (known_name k) l.text) l.functions ≡ find (λ k. bytes_eq (known_name k) l.text) (drop l.function-index l.functions)
