use Rattle.std.proofs.Common.{◌≡◌, length, ◌-◌}
use Rattle.pg_read_ast.specs.Resolving.{resolved_void, IsPlaceIn}
use Rattle.pg_read_ast.proofs.print.voids.is_void_type.Given as goal

abbrev pub invariant-loop : goal.invariant-loop
invariant-loop l = (IsPlaceIn l.resolved (length l.types)) × (resolved_void (length l.types - l.counter) l.types l.resolved ≡ resolved_void (length l.types) l.types l.initial.resolved)
